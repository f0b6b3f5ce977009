use mathlib.Core.Path.{◌∙◌, ap}
use Rattle.rules.specs.Lattice.{coord}
use Rattle.rules.specs.declared.Axis.{Axis}
use Rattle.halving.proofs.Rows.{planing_on, planing_end}
use Rattle.pairing.proofs.cut_plane.Goals as goal

pub loop-v-preserved : goal.loop-v-preserved
loop-v-preserved c =
    planing_on _ _ _ _ _ _ _ _ _ _ _ _ c.loop-v.invariant c.loop-v-test.true _ _ _ c.pair_row-h.ensures.0 c.pair_row-h.ensures.1

pub returns : goal.returns
returns c =
    planing_end _ _ _ _ c.requires.fits c.requires.lo_below c.requires.hi_above _ _ c.requires.sized.work_long _ _ _ _ _ _ _ _
    c.loop-v.invariant
    c.loop-v-test.false (c.coordinate-from.ensures ∙ ap (λ (x : Axis). coord x c.args.b.lo) c.earlier-c.ensures)
    (c.coordinate-to.ensures ∙ ap (λ (x : Axis). coord x c.args.b.hi) c.earlier-c.ensures)
    (c.coordinate-end.ensures ∙ ap (λ (x : Axis). coord x c.args.b.hi) c.later-d.ensures)
    (c.coordinate-first.ensures ∙ ap (λ (x : Axis). coord x c.args.b.lo) c.later-d.ensures)
