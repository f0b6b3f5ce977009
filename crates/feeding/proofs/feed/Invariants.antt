-- `feed` meets its contract. The loop's invariant: whatever follows the block, what is left from here, taken from the state now, comes to the
-- whole. Assumes nothing.
use mathlib.Core.Path.{◌≡◌}
use mathlib.Core.List.{List, ◌++◌}
use Prim.Native.Nat.{ℕ, ◌+◌, ◌-◌, ◌*◌, ◌≤◌}
use lib.ListN.{length, drop}
use Rattle.lattice.specs.Levels.{number_of}
use Rattle.lattice.specs.Buffers.{Ready}
use Rattle.feeding.specs.Taken.{taken}
use Rattle.feeding.specs.Feed.{Uncut}
use Rattle.feeding.proofs.feed.Given as goal

abbrev pub invariant-loop-c : goal.invariant-loop-c
invariant-loop-c l =
    record {
      counted : l.triangles ≡ l.count + l.c-index;
      most : l.triangles ≤ 100000;
      long : length l.grid ≡ length l.initial.grid;
      ready : Ready l.l l.grid;
      goes_on : (rest : List ℕ) → Uncut l.block rest
          → taken (number_of l.l) (100000 - l.count) (l.block ++ rest) l.count l.initial.grid
          ≡ taken (number_of l.l) (100000 - l.triangles) (drop (36 * l.c-index) l.block ++ rest) l.triangles l.grid;
    }
