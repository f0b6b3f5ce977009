-- This paper's number for each reason to stop. Assumes nothing.
use Rattle.std.specs.Prelude.{Result, Ok, Err, ℕ}
use Rattle.refusals.specs.Reasons.{number_of}
use Rattle.feeding.specs.declared.Stop.{Stop}
use Rattle.feeding.specs.declared.Stop.TheVariants.{TooMany, Below, Above, NotFinite, Refused}

abbrev pub stop_number : Stop → ℕ
stop_number TooMany = 9
stop_number Below = 4
stop_number Above = 24
stop_number NotFinite = 12
stop_number (Refused why) = number_of why

-- 0 where nothing stops
abbrev pub answer_number : Result (Unit {0}) Stop → ℕ
answer_number (Ok _) = 0
answer_number (Err why) = stop_number why
