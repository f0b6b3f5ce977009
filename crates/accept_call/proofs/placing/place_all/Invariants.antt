-- `place_all`. The loop's invariant: the quads that are left, placed in the work as it is, give what all of them gave at the start. Assumes nothing.
use Rattle.std.proofs.Common.{◌≡◌, length, drop, map}
use Rattle.accepting.specs.Placing.{placing}
use Rattle.surfacing.specs.Sides.{fours}
use Rattle.quad_reading.specs.Read.{four_in}
use Rattle.accept_call.proofs.placing.place_all.Given as goal

abbrev pub invariant-loop-quad : goal.invariant-loop-quad
invariant-loop-quad l = (length l.work ≡ length l.initial.work)
    × (placing l.n (map four_in (drop l.quad-index l.quads)) l.work ≡ placing l.n (fours l.list) l.initial.work)
