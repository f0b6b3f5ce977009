-- The chunks of a block, one behind another. Assumes nothing.
use Rattle.std.proofs.Common.{◌≡◌, ◌<◌, ◌≤◌, ◌*◌, ◌/◌, ◌+◌, List, [], ℕ, zero, suc, get_or, length, take, drop, sym, arith, ap, ◌∙◌}
use Rattle.std.proofs.lemmas.List.{drop-drop, take-append-drop, length-drop, length-take-le}
use native.Mathlib.Numerals.{unary_clauses}
use Rattle.std.specs.Simd.{first_chunks}
use Rattle.text.specs.Words.{numbers}
use Rattle.text.proofs.Numbers.{numbers_ahead}

pub chunk_at : (n k i : ℕ) (xs : List ℕ) → i < k → get_or (first_chunks n k xs) i [] ≡ take n (drop (n * i) xs)
chunk_at n zero i xs h = absurd (none h)
  where
    none : i < 0 → ⊥
    none h = omega arith
chunk_at n (suc k) zero xs h = simp unary_clauses
chunk_at n (suc k) (suc i) xs h =
    let e : n + n * i ≡ n * suc i = omega arith in
    chunk_at n k i (drop n xs) (omega arith) ∙ ap (take n) (drop-drop (n * i) n xs ∙ ap (λ (m : ℕ). drop m xs) e)

-- a triangle's numbers are those at its place
pub numbers_of_chunk : (ws : List (List ℕ)) (xs : List ℕ) (i : ℕ) → ws ≡ first_chunks 36 (length xs / 36) xs → i < length xs / 36
    → numbers (get_or ws i []) ≡ numbers (drop (36 * i) xs)
numbers_of_chunk ws xs i e h =
    let left = drop (36 * i) xs in
    let long : 36 ≤ length (take 36 left) = omega (arith, length-drop (36 * i) xs, length-take-le 36 left (omega (arith, length-drop (36 * i) xs))) in
    ap numbers (ap (λ (w : List (List ℕ)). get_or w i []) e ∙ chunk_at 36 _ i xs h)
    ∙ sym (numbers_ahead (take 36 left) (drop 36 left) long) ∙ ap numbers (take-append-drop 36 left)
