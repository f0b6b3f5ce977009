-- What C is told of what a call that marks answers. Assumes nothing.
use Rattle.std.specs.Prelude.{Result, Ok, Err, List, ℕ}
use Rattle.lattice.specs.Cells.{index_of}
use Rattle.refusals.specs.Reasons.{number_of}
use Rattle.marking.specs.declared.MarkRefusal.{MarkRefusal}
use Rattle.marking.specs.declared.MarkRefusal.TheVariants.{Refused as Refuses, Below as LiesBelow, Above as LiesAbove}
use Rattle.marking.specs.Mark.{Outcome, done}
use Rattle.mark_telling.specs.declared.MarkTold.{MarkTold}
use Rattle.mark_telling.specs.declared.MarkTold.TheVariants.{Done, Refused, Below, Above}

-- an answer, with its axis by its number
abbrev pub as_told : {P : Type 0} → Result (Unit {0}) (MarkRefusal P) → MarkTold P
as_told (Ok _) = Done
as_told (Err (Refuses r)) = Refused r
as_told (Err (LiesBelow place axis)) = Below place (index_of axis)
as_told (Err (LiesAbove place axis)) = Above place (index_of axis)

-- this paper's number and values for each, and the buffers afterwards: any axis is told as it is
abbrev pub outcome_of : MarkTold ℕ → List ℕ → List ℕ → Outcome
outcome_of Done g t = done g t
outcome_of (Refused r) g t = record { number = number_of r; place = 0; axis = 0; grid = g; totals = t }
outcome_of (Below place axis) g t = record { number = 4; place = place; axis = axis; grid = g; totals = t }
outcome_of (Above place axis) g t = record { number = 24; place = place; axis = axis; grid = g; totals = t }
