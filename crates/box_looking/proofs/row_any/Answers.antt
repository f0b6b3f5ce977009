-- `row_any` asks point by point, up to the first that tells. Assumes nothing.
use Rattle.std.proofs.Common.{rules, sym, ◌∙◌, true, false}
use Rattle.box_looking.proofs.Ranges.{row_first}
use Rattle.box_looking.proofs.row_any.Goals as goal

pub returns-then-tells : goal.returns-then-tells
returns-then-tells g c =
    sym (c.loop-i.invariant ∙ row_first g.T.Tell.tells c.args.n c.args.items.now g.T.Tell.none c.loop-i.i _ c.args.j c.args.k
    c.number_of-from.result _ true c.number_of-from.ensures.0 (search rules) c.index-items-from.is (sym c.tells.ensures ∙ c.if-tells.true)
    c.loop-i-test.true)

pub loop-i-preserved : goal.loop-i-preserved
loop-i-preserved g c =
    c.loop-i.invariant ∙ row_first g.T.Tell.tells c.args.n c.args.items.now g.T.Tell.none c.loop-i.i _ c.args.j c.args.k
    c.number_of-from.result _ false c.number_of-from.ensures.0 (search rules) c.index-items-from.is (sym c.tells.ensures ∙ c.if-tells.false)
    c.loop-i-test.true
