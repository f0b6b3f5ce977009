-- `left_of_kept` meets its contract: at axis k the edges left are those that none of the first k separates. Assumes nothing.
use mathlib.Core.Path.{◌≡◌}
use mathlib.Core.Bool.{◌&&◌}
use Prim.Native.Nat.{◌<◌}
use Rattle.rules.specs.declared.Axis.{Axis}
use Rattle.rules.specs.Grid.{has}
use Rattle.corners.specs.Corner.{none_parts}
use Rattle.sifting.proofs.left_of_kept.Given as goal

abbrev pub invariant-loop-a : goal.invariant-loop-a
invariant-loop-a l = (l.left < 8) × ((a : Axis) → has a l.left ≡ has a l.left-2 && none_parts l.kept l.a-index l.p a)
