-- `put_row` meets its contract. The loop's invariant: with the totals of the blocks from i on written the table is as with all of the row's. Assumes nothing.
use mathlib.Core.Path.{◌≡◌}
use mathlib.Core.List.{map}
use Prim.Native.Nat.{◌+◌, ◌-◌}
use lib.ListN.{length}
use lib.Seq.{sets}
use Rattle.rules.specs.Lists.{upto}
use Rattle.columns.specs.Columns.{four_columns}
use Rattle.columns.proofs.put_row.Given as goal

abbrev pub invariant-loop-i : goal.invariant-loop-i
invariant-loop-i l =
    (length l.table ≡ length l.initial.table)
    × (sets l.table (l.q + l.i) (map (four_columns l.columns) (upto l.i (l.count - l.i)))
    ≡ sets l.initial.table l.q (map (four_columns l.columns) (upto 0 l.count)))
