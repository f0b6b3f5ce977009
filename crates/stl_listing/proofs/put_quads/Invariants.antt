-- `put_quads` meets its contract. The loop's invariant: the scan stands at point q, of number p, and with the quads from there on put at
-- `at` the buffer is as with all of them put. Assumes nothing.
use mathlib.Core.Path.{◌≡◌}
use mathlib.Core.List.{List}
use Prim.Native.Nat.{ℕ, ◌+◌, ◌≤◌}
use lib.ListN.{length}
use Rattle.rules.specs.Lists.{each}
use Rattle.rules.specs.Lattice.{point_count}
use Rattle.rules.specs.Grid.{marks, inside}
use Rattle.grids.proofs.Points.{At}
use Rattle.surfacing.proofs.Quads.{given_from}
use Rattle.octets.specs.Octets.{puts}
use Rattle.rounding.specs.Scales.{exponent_of}
use Rattle.stl_records.specs.File.{facings, quad_bytes}
use Rattle.stl_listing.proofs.Edges.{bytes_of}
use Rattle.stl_listing.proofs.put_quads.Given as goal

-- the bytes from a point on
abbrev pub left : ℕ → ℕ → ℕ → List ℕ → ℕ → List ℕ
left n side s g p = given_from n (marks n g) (bytes_of side (exponent_of s) (inside n g)) p

abbrev pub invariant-loop-p : goal.invariant-loop-p
invariant-loop-p l =
    (l.count ≡ point_count l.n)
    × At l.n l.p l.q
    × (length l.out ≡ length l.initial.out)
    × (l.at + length (left l.n l.side l.s l.grid l.p) ≤ length l.out)
    × (puts l.out l.at (left l.n l.side l.s l.grid l.p)
    ≡ puts l.initial.out 84 (each (quad_bytes l.side (exponent_of l.s)) (facings l.n (marks l.n l.grid) (inside l.n l.grid))))
