-- `signing::sign_grid` meets its contract. The loop's invariant: the bytes from p on are as they came, `inside` is the sign of point p, and
-- with the bytes from p on written the buffer is as with all of them written. Assumes nothing.
use mathlib.Core.Path.{◌≡◌}
use mathlib.Core.List.{map}
use Prim.Native.Nat.{ℕ, ◌-◌, ◌≤◌}
use lib.ListN.{length, get_or}
use lib.Seq.{sets}
use Rattle.rules.specs.Lists.{upto}
use Rattle.rules.specs.Lattice.{point_count, point_of}
use Rattle.rules.specs.Grid.{marks}
use Rattle.rules.specs.Signs.{sign}
use Rattle.signing.proofs.Rows.{sign_of}
use Rattle.signing.proofs.sign_grid.Given as goal

abbrev pub invariant-loop-p : goal.invariant-loop-p
invariant-loop-p l =
    (l.count ≡ point_count l.n)
    × (length l.grid ≡ length l.initial.grid)
    × ((i : ℕ) → l.p ≤ i → get_or l.grid i 0 ≡ get_or l.initial.grid i 0)
    × (l.inside ≡ sign (marks l.n l.initial.grid) (point_of l.n l.p))
    × (sets l.grid l.p (map (sign_of l.n (marks l.n l.initial.grid)) (upto l.p (point_count l.n - l.p)))
    ≡ sets l.initial.grid 0 (map (sign_of l.n (marks l.n l.initial.grid)) (upto 0 (point_count l.n - 0))))
