use Rattle.halving.proofs.Rows.{rowing_on}
use Rattle.pairing.proofs.pair_row.Goals as goal

pub loop-u-preserved : goal.loop-u-preserved
loop-u-preserved c =
    rowing_on _ _ _ _ _ _ _ _ _ _ _ c.loop-u.invariant c.loop-u-test.true _ _ _ c.pair_spot-h.ensures.0 c.pair_spot-h.ensures.1
