-- C is told of an answer what the definition of mark has for it. Assumes nothing.
use Rattle.std.proofs.Common.{◌≡◌, refl, Result, Ok, Err, List, ℕ}
use Rattle.marking.specs.declared.MarkRefusal.{MarkRefusal}
use Rattle.marking.specs.declared.MarkRefusal.TheVariants.{Refused, Below, Above}
use Rattle.marking.specs.Mark.{told}
use Rattle.mark_telling.specs.Told.{as_told, outcome_of}

pub told_is : (r : Result (Unit {0}) (MarkRefusal ℕ)) (g t : List ℕ) → outcome_of (as_told r) g t ≡ told r g t
told_is (Ok _) g t = refl
told_is (Err (Refused r)) g t = refl
told_is (Err (Below place axis)) g t = refl
told_is (Err (Above place axis)) g t = refl
