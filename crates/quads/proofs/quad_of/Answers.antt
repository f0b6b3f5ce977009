-- `quad_of`: the four cells' numbers differ by the steps along the two other axes, and the sign settles their order. Assumes nothing.
use Rattle.surfacing.proofs.Around.{cells_around, quad_inside, quad_outside}
use Rattle.quads.proofs.quad_of.Goals as goal

pub overflow_sub-second : goal.overflow_sub-second
overflow_sub-second c =
    (cells_around c.args.n c.args.a c.args.q _ _ _ _ _ c.requires.is_inner c.next-u.ensures c.next.ensures
    c.cell_step-along.ensures c.cell_step-across.ensures c.cell_number-third.ensures).across_fits

pub overflow_sub-first : goal.overflow_sub-first
overflow_sub-first c =
    (cells_around c.args.n c.args.a c.args.q _ _ _ _ _ c.requires.is_inner c.next-u.ensures c.next.ensures
    c.cell_step-along.ensures c.cell_step-across.ensures c.cell_number-third.ensures).both_fit

pub returns-then-inside : goal.returns-then-inside
returns-then-inside c =
    rw c.if-inside.true (quad_inside (cells_around c.args.n c.args.a c.args.q _ _ _ _ _ c.requires.is_inner c.next-u.ensures c.next.ensures
    c.cell_step-along.ensures c.cell_step-across.ensures c.cell_number-third.ensures) c.cell_number-third.ensures)

pub returns-else-inside : goal.returns-else-inside
returns-else-inside c =
    rw c.if-inside.false (quad_outside (cells_around c.args.n c.args.a c.args.q _ _ _ _ _ c.requires.is_inner c.next-u.ensures c.next.ensures
    c.cell_step-along.ensures c.cell_step-across.ensures c.cell_number-third.ensures) c.cell_number-third.ensures)
