-- `count_held` meets its contract. The loops' invariant: with the totals from a row's first block on written the table is as with all of them.
-- Assumes nothing.
use Rattle.std.proofs.Common.{◌≡◌, ℕ, List, length, map}
use lib.Seq.{sets}
use Rattle.rules.specs.Lattice.{point_number}
use Rattle.grids.proofs.Points.{points_from}
use Rattle.totals.specs.Totals.{total_of}
use Rattle.columns.proofs.count_held.Given as goal

-- the blocks from entry q on are left to be counted
abbrev pub Left : ℕ → ℕ → List ℕ → List ℕ → List ℕ → ℕ → Type 0
Left n m g table came q =
    (length table ≡ length came)
    × (sets table q (map (total_of n g) (points_from m q)) ≡ sets came 0 (map (total_of n g) (points_from m 0)))

abbrev pub invariant-loop-k : goal.invariant-loop-k
invariant-loop-k l = Left l.n l.m l.grid l.table l.initial.table (point_number l.m (record { i = 0; j = 0; k = l.k }))

abbrev pub invariant-loop-j : goal.invariant-loop-j
invariant-loop-j l = Left l.n l.m l.grid l.table l.fn.table (point_number l.m (record { i = 0; j = l.j; k = l.k }))
