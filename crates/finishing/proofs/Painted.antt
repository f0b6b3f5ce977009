-- A part of a buffer written anew byte by byte is the buffer painted. Assumes nothing.
use Rattle.std.proofs.Common.{◌≡◌, ◌∙◌, ℕ, zero, suc, List, ◌++◌, ◌≤◌, ◌<◌, map, take, drop, length, get_or, set, refl, ap, sym, arith, add-one, append-nil}
use lib.ListN.{length-take}
use Rattle.std.proofs.lemmas.Grind.{common_steps}
use Rattle.std.proofs.lemmas.List.{take_all, drop_all, get_or-take}
use Rattle.std.proofs.lemmas.List.Edits.{map_over_more}
use Rattle.patching.specs.Paint.{paint}

module _ (f : ℕ → ℕ) where
  -- the byte that comes next is as it came
  next_is : (xs : List ℕ) (i d e : ℕ) → i < length xs → get_or xs i d ≡ get_or (map f (take i xs) ++ drop i xs) i e
  next_is xs i d e h = grind (arith, common_steps)

  mapped : (s : List ℕ) (k : ℕ) → k ≤ length s → map f (take k s) ++ drop k s ≡ paint f k s
  unfolding paint
  mapped s zero h = refl
  mapped s (suc k) h =
      rw (← add-one) (sym (map_over_more f s (map f (take k s) ++ drop k s) k (get_or s k 0) (omega arith) refl (next_is s k 0 _ (omega arith))))
      ∙ ap (λ (l : List ℕ). set l k (f (get_or s k 0))) (mapped s k (omega arith))

  module _ (count : ℕ) (s ys : List ℕ) (i : ℕ) (e : ys ≡ map f (take i (take count s)) ++ drop i (take count s)) where
    pub next_came : i < length (take count s) → get_or ys i 0 ≡ get_or s i 0
    next_came h = ap (λ (l : List ℕ). get_or l i 0) e ∙ sym (next_is (take count s) i 0 0 h) ∙ get_or-take count s i 0 (omega (arith, length-take count s))

    -- where the loop ended
    pub painted : count ≤ length s → length (take count s) ≤ i → ys ++ drop count s ≡ paint f count s
    painted long h =
        ap (λ (l : List ℕ). l ++ drop count s) (rw (take_all i (take count s) h, drop_all i (take count s) h, append-nil) at e) ∙ mapped s count long
