-- What C is told of what read_stl answers. Assumes nothing.
use Rattle.std.specs.Prelude.{Result, Ok, Err, List, ℕ, ℤ}
use Rattle.lattice.specs.Cells.{index_of}
use Rattle.refusals.specs.Reasons.{number_of}
use Rattle.stl_reading.specs.declared.ReadRefusal.{ReadRefusal}
use Rattle.stl_reading.specs.declared.ReadRefusal.TheVariants.{NotFinite as OnAxis, Refused as Refuses}
use Rattle.stl_reading.specs.Call.{Outcome}
use Rattle.file_telling.specs.declared.ReadTold.{ReadTold}
use Rattle.file_telling.specs.declared.ReadTold.TheVariants.{Done, NotFinite, Refused}

-- an answer, with its axis by its number
abbrev pub as_told : Result ℕ ReadRefusal → ReadTold
as_told (Ok n) = Done n
as_told (Err (OnAxis a)) = NotFinite (index_of a)
as_told (Err (Refuses r)) = Refused r

-- this paper's number and values for each, and the list afterwards: any axis is told as it is
abbrev pub outcome_of : ReadTold → List ℤ → Outcome
outcome_of (Done n) l = record { number = 0; triangles = n; axis = 0; list = l }
outcome_of (NotFinite a) l = record { number = 12; triangles = 0; axis = a; list = l }
outcome_of (Refused r) l = record { number = number_of r; triangles = 0; axis = 0; list = l }
