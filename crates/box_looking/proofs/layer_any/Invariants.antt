-- `layer_any` meets its contract: what the layer answers, the rows from j on answer. Assumes nothing.
use Rattle.std.specs.Prelude.{◌≡◌, ◌-◌}
use Rattle.std.specs.List.{list_any, range_with_len}
use Rattle.box_looking.specs.Told.{told_at, row_told, layer_told}
use Rattle.box_looking.proofs.layer_any.Given as goal

abbrev pub invariant-loop-j : goal.invariant-loop-j
invariant-loop-j g l =
    let f = told_at g.T.Tell.tells l.n l.items g.T.Tell.none in
    layer_told f l.fn.b l.k ≡ list_any (row_told f l.fn.b l.k) (range_with_len l.j (l.j-end - l.j))
