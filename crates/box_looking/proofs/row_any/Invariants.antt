-- `row_any` meets its contract: what the row answers, the points from i on answer. Assumes nothing.
use Rattle.std.specs.Prelude.{◌≡◌, ◌-◌}
use Rattle.std.specs.List.{list_any, range_with_len}
use Rattle.box_looking.specs.Told.{told_at, row_told}
use Rattle.box_looking.proofs.row_any.Given as goal

abbrev pub invariant-loop-i : goal.invariant-loop-i
invariant-loop-i g l =
    let f = told_at g.T.Tell.tells l.n l.items g.T.Tell.none in
    row_told f l.fn.b l.k l.j ≡ list_any (λ i. f (record { i = i; j = l.j; k = l.k })) (range_with_len l.i (l.i-end - l.i))
