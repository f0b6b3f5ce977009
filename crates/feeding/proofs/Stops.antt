-- No reason to stop has the number 0. Assumes nothing.
use Rattle.std.proofs.Common.{◌≡◌, arith}
use Rattle.refusals.proofs.Reasons.{refusal_some}
use Rattle.feeding.specs.declared.Stop.{Stop}
use Rattle.feeding.specs.declared.Stop.TheVariants.{TooMany, Below, Above, NotFinite, Refused}
use Rattle.feeding.specs.Stops.{stop_number}

pub stop_some : (why : Stop) → stop_number why ≡ 0 → ⊥
stop_some TooMany e = omega arith
stop_some Below e = omega arith
stop_some Above e = omega arith
stop_some NotFinite e = omega arith
stop_some (Refused why) e = refusal_some why e
