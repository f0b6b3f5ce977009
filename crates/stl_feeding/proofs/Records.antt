-- The records of a block are its chunks of 50 bytes. Assumes nothing.
use Rattle.std.proofs.Common.{◌≡◌, ◌<◌, ◌≤◌, ◌+◌, ◌*◌, ◌/◌, List, [], ℕ, get_or, length, take, drop, arith, ap, ◌∙◌}
use Rattle.std.proofs.lemmas.List.{length-drop, length-take-le}
use Rattle.std.specs.Simd.{first_chunks}
use Rattle.feeding.proofs.Chunks.{chunk_at}

pub record_of_chunk : (ws : List (List ℕ)) (xs : List ℕ) (i : ℕ) → ws ≡ first_chunks 50 (length xs / 50) xs → i < length xs / 50
    → get_or ws i [] ≡ take 50 (drop (50 * i) xs)
record_of_chunk ws xs i e h = ap (λ (w : List (List ℕ)). get_or w i []) e ∙ chunk_at 50 _ i xs h

pub chunk_long : (r xs : List ℕ) (i : ℕ) → r ≡ take 50 (drop (50 * i) xs) → i < length xs / 50 → length r ≡ 50
chunk_long r xs i e h = ap length e ∙ length-take-le 50 (drop (50 * i) xs) (omega (arith, length-drop (50 * i) xs))
