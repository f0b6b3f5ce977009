-- `put_triangles` meets its contract. The loop's invariant: with the numbers from triangle t on written, the list is as with all of them
-- written. Assumes nothing.
use mathlib.Core.Path.{◌≡◌}
use Prim.Native.Nat.{◌*◌}
use lib.ListN.{length}
use lib.Seq.{sets}
use Rattle.rounding.specs.Pattern.{round_times}
use Rattle.rounding.specs.Scales.{exponent_of}
use Rattle.stl_reading.specs.File.{numbers_of}
use Rattle.stl_reading.proofs.Numbers.{numbers_from}
use Rattle.stl_triangles.proofs.triangles.put_triangles.Given as goal

abbrev pub invariant-loop-t : goal.invariant-loop-t
invariant-loop-t l = (length l.list ≡ length l.initial.list)
    × (sets l.list (9 * l.t) (numbers_from (round_times (exponent_of l.s)) l.file l.t l.count)
    ≡ sets l.initial.list 0 (numbers_of (round_times (exponent_of l.s)) l.file l.count))
