-- `box_any` meets its contract: what the box answers, the layers from k on answer. Assumes nothing.
use Rattle.std.specs.Prelude.{◌≡◌, ◌-◌}
use Rattle.std.specs.List.{list_any, range_with_len}
use Rattle.rules.specs.Lists.{any_of}
use Rattle.totals.specs.Totals.{box_points}
use Rattle.box_looking.specs.Told.{told_at, layer_told}
use Rattle.box_looking.proofs.box_any.Given as goal

abbrev pub invariant-loop-k : goal.invariant-loop-k
invariant-loop-k g l =
    let f = told_at g.T.Tell.tells l.n l.items g.T.Tell.none in
    any_of f (box_points l.fn.b) ≡ list_any (layer_told f l.fn.b) (range_with_len l.k (l.k-end - l.k))
