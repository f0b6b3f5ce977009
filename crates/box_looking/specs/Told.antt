-- What is held of a point, in a list that has an item for each point of a grid, by number; a box's row and layer. Assumes nothing.
use Rattle.std.specs.Prelude.{Bool, List, ℕ, ◌-◌, get_or}
use Rattle.std.specs.List.{list_any, range_with_len}
use Rattle.rules.specs.declared.Point.{Point}
use Rattle.rules.specs.declared.Box.{Box}
use Rattle.rules.specs.Lattice.{point_number}

-- whether it passes; d stands where the list has none
abbrev pub told_at : {A : Type 0} → (A → Bool) → ℕ → List A → A → Point → Bool
told_at f n s d p = f (get_or s (point_number n p) d)

-- some point of the box's row (j, k) passes
abbrev pub row_told : (Point → Bool) → Box → ℕ → ℕ → Bool
row_told f b k j = list_any (λ i. f (record { i = i; j = j; k = k })) (range_with_len b.lo.i (b.hi.i - b.lo.i))

-- some point of the box's layer k
abbrev pub layer_told : (Point → Bool) → Box → ℕ → Bool
layer_told f b k = list_any (row_told f b k) (range_with_len b.lo.j (b.hi.j - b.lo.j))
