-- `put_quads`: the loop's invariant is that the lines of the first q quads stand there, each of 26 bytes at most. Assumes nothing.
use mathlib.Core.Path.{◌≡◌}
use Prim.Native.Nat.{◌+◌, ◌*◌, ◌≤◌}
use lib.ListN.{length}
use Rattle.rules.specs.Lists.{each, upto}
use Rattle.text.specs.Text.{Put}
use Rattle.text.specs.Listing.{quad_line}
use Rattle.text.proofs.listing.put_quads.Given as goal

abbrev pub invariant-loop-q : goal.invariant-loop-q
invariant-loop-q l =
    (length l.out ≡ length l.initial.out) × (l.next ≤ l.at + 26 * l.q)
    × Put l.initial.out l.at (each (quad_line l.list) (upto 0 l.q)) l.out l.next
