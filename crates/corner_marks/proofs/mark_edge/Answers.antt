-- `mark_edge` meets its contract: the mark is turned exactly where there is none and the edge is left. Assumes nothing.
use mathlib.Core.Path.{sym, ◌∙◌}
use Rattle.meeting.proofs.Adding.{edge_turned}
use Rattle.corner_marks.proofs.mark_edge.Goals as goal

pub returns-then-bit : goal.returns-then-bit
returns-then-bit c =
    let m = rw c.requires.number_is at c.bit.ensures in
    let clear = sym m ∙ c.if-not-bit.true in
    let is_left = sym c.bit-then-not-bit.ensures ∙ c.if-bit.true in
    rw (c.turn.ensures, c.requires.number_is)
    (λ E f. edge_turned c.args.n E c.args.e c.args.grid.now c.requires.long c.requires.on_grid clear (f clear ∙ is_left))
