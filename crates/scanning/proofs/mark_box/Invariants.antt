-- `mark_box` meets its contract. The loops' invariants: the edges met at the cells passed so far are added, by layer, row and cell.
-- Assumes nothing.
use Rattle.lattice.specs.Levels.{cells_of}
use Rattle.meeting.specs.Met.{met}
use Rattle.corners.specs.Corner.{KeepsAxes}
use Rattle.meeting.specs.Adding.{Added}
use Rattle.scanning.proofs.Scanning.{layers, rows, run, in_part}
use Rattle.scanning.proofs.mark_box.Given as goal

abbrev pub invariant-loop-k : goal.invariant-loop-k
invariant-loop-k l = record {
  keeps : KeepsAxes l.l l.t l.axes.built l.axes.kept;
  added : Added (cells_of l.l) (in_part (layers l.b l.k) (met l.l l.t)) l.initial.grid l.grid;
}

abbrev pub invariant-loop-j : goal.invariant-loop-j
invariant-loop-j l = record {
  keeps : KeepsAxes l.l l.t l.axes.built l.axes.kept;
  added : Added (cells_of l.l) (in_part (rows l.b l.k l.j) (met l.l l.t)) l.initial.grid l.grid;
}

abbrev pub invariant-loop-i : goal.invariant-loop-i
invariant-loop-i l = record {
  keeps : KeepsAxes l.l l.t l.axes.built l.axes.kept;
  added : Added (cells_of l.l) (in_part (run l.b l.k l.j l.i) (met l.l l.t)) l.initial.grid l.grid;
}
