-- C is told of an answer what the definition of read_stl has for it. Assumes nothing.
use Rattle.std.proofs.Common.{◌≡◌, refl, Result, Ok, Err, List, ℕ}
use lib.IntN.{ℤ}
use Rattle.stl_reading.specs.declared.ReadRefusal.{ReadRefusal}
use Rattle.stl_reading.specs.declared.ReadRefusal.TheVariants.{NotFinite, Refused}
use Rattle.stl_reading.specs.Call.{told}
use Rattle.file_telling.specs.Told.{as_told, outcome_of}

pub told_is : (r : Result ℕ ReadRefusal) (l : List ℤ) → outcome_of (as_told r) l ≡ told r l
told_is (Ok n) l = refl
told_is (Err (NotFinite a)) l = refl
told_is (Err (Refused r)) l = refl
