-- `box_any` asks layer by layer, up to the first that has a mark, unless rows or layers are empty. Assumes nothing.
use Rattle.std.proofs.Common.{sym, ◌∙◌, true, false}
use Rattle.box_looking.specs.Told.{told_at, layer_told}
use Rattle.box_looking.proofs.Ranges.{first_and_rest, box_by_ranges, none_passes}
use Rattle.box_looking.proofs.box_any.Goals as goal

pub returns-then-b : goal.returns-then-b
returns-then-b g c = none_passes (told_at g.T.Tell.tells c.args.n c.args.items.now g.T.Tell.none) c.args.b c.then-b.either

pub loop-k-init : goal.loop-k-init
loop-k-init g c = sym (box_by_ranges (told_at g.T.Tell.tells c.args.n c.args.items.now g.T.Tell.none) c.args.b)

pub returns-then-layer_any : goal.returns-then-layer_any
returns-then-layer_any g c =
    let t = layer_told (told_at g.T.Tell.tells c.args.n c.args.items.now g.T.Tell.none) c.args.b in
    sym (c.loop-k.invariant ∙ first_and_rest t c.loop-k.k _ true c.loop-k-test.true (sym c.layer_any.ensures ∙ c.if-layer_any.true))

pub loop-k-preserved : goal.loop-k-preserved
loop-k-preserved g c =
    let t = layer_told (told_at g.T.Tell.tells c.args.n c.args.items.now g.T.Tell.none) c.args.b in
    c.loop-k.invariant ∙ first_and_rest t c.loop-k.k _ false c.loop-k-test.true (sym c.layer_any.ensures ∙ c.if-layer_any.false)
