-- `keep_marks` meets its contract. The loop's invariant: the bytes before the index are written anew, and the others are as they came. Assumes nothing.
use Rattle.std.proofs.Common.{◌≡◌, ◌++◌, map, take, drop}
use Rattle.byte.specs.Byte.{low}
use Rattle.grids.proofs.keep_marks.Given as goal

abbrev pub invariant-loop-b : goal.invariant-loop-b
invariant-loop-b l = l.b-items ≡ map low (take l.b-index l.initial.b-items) ++ drop l.b-index l.initial.b-items
