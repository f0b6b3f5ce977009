-- Bodies as the functions that put them are lent them: each its bytes, or none. Assumes nothing.
use Rattle.std.specs.Borrow.{Bor}
use Rattle.std.specs.Prelude.{Option, None, Some, Bool, true, false, List, [], ℕ}
use Rattle.job_format.specs.Format.{Body}
use Rattle.job_writing.specs.declared.bodies.Bodies.{Bodies}
use Rattle.job_writing.specs.Write.{Wanted, keep, chosen}
use Rattle.job_writing.specs.Sizes.{FitsU32, Sizes}

abbrev pub is_held : Option (Bor (List ℕ)) → Bool
is_held None = false
is_held (Some b) = true

-- none has no bytes
abbrev pub held : Option (Bor (List ℕ)) → List ℕ
held None = []
held (Some b) = b.now

-- the body, if there is one, with its kind
abbrev pub kept : ℕ → Option (Bor (List ℕ)) → List Body
kept k b = keep (is_held b) k (held b)

-- all three
abbrev pub wanted : Bodies → Wanted
wanted b = record { grid = is_held b.grid; triangles = is_held b.triangles; quads = is_held b.quads }

abbrev pub all_of : Bodies → List Body
all_of b = chosen (wanted b) (held b.grid) (held b.triangles) (held b.quads)

-- and their sizes fit the table
abbrev pub Fits : ℕ → Option (Bor (List ℕ)) → Type 0
Fits at b = FitsU32 (is_held b) at (held b)

abbrev pub AllFit : ℕ → Bodies → Type 0
AllFit start b = Sizes start (wanted b) (held b.grid) (held b.triangles) (held b.quads)
