-- `left_of_rest` meets its contract: at axis k what is left and the rest from k on come to the whole. Assumes nothing.
use mathlib.Core.Path.{◌≡◌}
use Prim.Native.Nat.{◌<◌}
use Rattle.rules.specs.declared.Axis.{Axis}
use Rattle.rules.specs.Grid.{has}
use Rattle.corners.specs.Corner.{KeepsAxes, rest_left}
use Rattle.sifting.proofs.left_of_rest.Given as goal

abbrev pub invariant-loop-k : goal.invariant-loop-k
invariant-loop-k l =
    (l.axes.built ≡ l.k) × (l.left < 8) × KeepsAxes l.fn.l l.t l.k l.axes.kept
    × ((a : Axis) → rest_left l.fn.l l.t l.k l.fn.c a (has a l.left) ≡ rest_left l.fn.l l.t l.initial.axes.built l.fn.c a (has a l.left-2))
