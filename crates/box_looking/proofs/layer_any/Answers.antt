-- `layer_any` asks row by row, up to the first that has a mark. Assumes nothing.
use Rattle.std.proofs.Common.{sym, ◌∙◌, false}
use Rattle.box_looking.specs.Told.{told_at, row_told}
use Rattle.box_looking.proofs.Ranges.{first_and_rest}
use Rattle.box_looking.proofs.layer_any.Goals as goal

pub loop-j-preserved : goal.loop-j-preserved
loop-j-preserved g c =
    let t = row_told (told_at g.T.Tell.tells c.args.n c.args.items.now g.T.Tell.none) c.args.b c.args.k in
    c.loop-j.invariant ∙ first_and_rest t c.loop-j.j _ false c.loop-j-test.true (sym c.row_any.ensures ∙ c.if-row_any.false)
