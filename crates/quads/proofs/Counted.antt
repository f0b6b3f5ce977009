-- The number of quads, as a sum over the grid's bytes. Assumes nothing.
use mathlib.Core.Path.{◌≡◌, sym, ap, ◌∙◌}
use mathlib.Core.Bool.{true}
use mathlib.Core.List.{List}
use Prim.Native.Nat.{ℕ, zero, suc, ◌+◌, ◌≤◌}
use native.Mathlib.Omega.{arith}
use lib.ListN.{length, get_or, take, drop, length-take}
use lib.Seq.{drop-cons}
use Rattle.std.specs.List.{sum_by}
use Rattle.std.proofs.Common.{slice_index_or}
use Rattle.std.proofs.lemmas.List.Sums.{sum_by-cons, sum_by-le}
use Rattle.rules.specs.declared.Axis.TheVariants.{X, Y, Z}
use Rattle.rules.specs.Lattice.{point_count, point_of}
use Rattle.rules.specs.Grid.{has, marks, is_grid, byte_marks}
use Rattle.rules.proofs.Numbers.{value_most}
use Rattle.surfacing.specs.Listing.{quad_count}
use Rattle.surfacing.proofs.Steps.{at_point_of}
use Rattle.surfacing.proofs.Quads.{count_from, count_start, count_step, count_end}

-- the marks of the bytes from a point on are the quads from there on
sum_from : (n : ℕ) (g : List ℕ) → point_count n ≤ length g → is_grid n g ≡ true → (k p : ℕ) → p + k ≡ point_count n →
    sum_by byte_marks (take k (drop p g)) ≡ count_from n (marks n g) p
sum_from n g long grid zero p e = sym (count_end n (marks n g) p (omega arith))
sum_from n g long grid (suc k) p e =
    ap (λ (r : List ℕ). sum_by byte_marks (take (suc k) r)) (drop-cons g p 0 (omega arith))
    ∙ sum_by-cons byte_marks (get_or g p 0) (take k (drop (suc p) g))
    ∙ ap (λ (r : ℕ). byte_marks (get_or g p 0) + r) (sum_from n g long grid k (suc p) (omega arith))
    ∙ sym (count_step n g p (point_of n p) long grid (at_point_of n p (omega arith)) (omega arith))

pub marks_summed : (n : ℕ) (g : List ℕ) → point_count n ≤ length g → is_grid n g ≡ true → sum_by byte_marks (take (point_count n) g) ≡ quad_count n (marks n g)
marks_summed n g long grid = sum_from n g long grid (point_count n) 0 (omega arith) ∙ count_start n (marks n g)

-- a byte has three marks at most
pub sum_most : (k : ℕ) (g : List ℕ) → k ≤ 35937 → sum_by byte_marks (take k g) ≤ 107811
sum_most k g small =
    let most = sum_by-le byte_marks 3 (take k g) (λ i d h. marks_most (slice_index_or (take k g) i d)) in
    let long = length-take k g in
    omega arith
  where
    marks_most : (b : ℕ) → byte_marks b ≤ 3
    marks_most b = let x = value_most (has X b) 1 in let y = value_most (has Y b) 1 in let z = value_most (has Z b) 1 in omega arith
