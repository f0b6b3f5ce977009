use Rattle.std.proofs.Common.{◌≡◌, ◌∙◌, ℕ, List, ◌++◌, map, take, drop, length, get_or, arith, sym, append-nil, ◌≤◌}
use native.Mathlib.Nat.{add-zero}
use Rattle.std.proofs.lemmas.Grind.{common_steps}
use Rattle.std.proofs.lemmas.List.Edits.{map_over_more}
use Rattle.std.proofs.lemmas.List.{take_all, drop_all}
use Rattle.rules.specs.Lattice.{point_count}
use Rattle.rules.proofs.Numbers.{bytes_marks}
use Rattle.byte.specs.Byte.{low}
use Rattle.grids.specs.Scans.{unsigned}
use Rattle.grids.proofs.keep_marks.Goals as goal

-- at the end all are written
all_low : (xs ys : List ℕ) (i : ℕ) → length xs ≤ i → ys ≡ map low (take i xs) ++ drop i xs → ys ≡ map low xs
all_low xs ys i h e = rw (take_all i xs h, drop_all i xs h, append-nil) at e

pub loop-b-preserved : goal.loop-b-preserved
loop-b-preserved c =
    let part = take c.point_count.result c.args.grid.now in
    rw (c.with_sign.ensures ∙ add-zero _)
    (map_over_more low part c.loop-b.b-items c.loop-b.b-index (get_or c.loop-b.b-items c.loop-b.b-index 0) (omega arith) c.loop-b.invariant
    (grind (arith, common_steps)))

pub returns : goal.returns
unfolding unsigned
returns c =
    let n = c.args.n in
    let g = c.args.grid.now in
    let part : point_count n ≡ c.point_count.result = sym c.point_count.ensures.0 in
    rw (all_low _ _ _ c.loop-b-test.false c.loop-b.invariant, ← part, bytes_marks n g c.requires.0.long c.requires.1)
