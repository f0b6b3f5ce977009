-- An opened grid has no mark, so its totals are all 0. Assumes nothing.
use mathlib.Core.Path.{◌≡◌}
use mathlib.Core.List.{List, ◌++◌}
use Prim.Native.Nat.{ℕ, ◌≤◌}
use native.Mathlib.Omega.{arith}
use lib.ListN.{length, drop, replicate}
use Rattle.lattice.specs.declared.level.Level.{Level}
use Rattle.lattice.specs.Levels.{cells_of, points_of}
use Rattle.lattice.proofs.Clearing.{cleared_length}
use Rattle.grids.proofs.Ahead.{open_grid, open_marks}
use Rattle.totals.specs.Totals.{block_count, trued}
use Rattle.totals.proofs.Marks.{blank_true}
use Rattle.marking.specs.Open.{opened}

pub opened_true : (l : Level) (g t : List ℕ) → points_of l ≤ length g → block_count (cells_of l) ≤ length t →
    replicate (block_count (cells_of l)) 0 ++ drop (block_count (cells_of l)) t ≡ trued (cells_of l) (opened l g) t
unfolding opened
opened_true l g t h k =
    let rest = drop (points_of l) g in
    let e = cleared_length (points_of l) g h in
    blank_true (cells_of l) (replicate (points_of l) 0 ++ rest) (omega arith) (open_grid (cells_of l) rest) (open_marks (cells_of l) rest) t
