use mathlib.Core.Path.{◌∙◌}
use native.Mathlib.Omega.{arith}
use Rattle.text.proofs.Texts.{put_both, each_more}
use Rattle.text.proofs.listing.put_quads.Goals as goal

pub loop-q-preserved : goal.loop-q-preserved
loop-q-preserved c =
    let l = c.loop-q in
    let p = c.put_quad-next in
    (p.auto.out ∙ l.invariant.0, omega (arith, l.invariant.1, p.ensures.1), rw (each_more _ l.q) (put_both l.invariant.2 p.ensures.0))
