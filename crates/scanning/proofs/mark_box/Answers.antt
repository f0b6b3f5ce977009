use mathlib.Core.Path.{◌≡◌, refl, ◌∙◌}
use mathlib.Core.Bool.{true, false}
use Prim.Native.Nat.{zero-le}
use native.Mathlib.Nat.{not-suc-le-zero}
use native.Mathlib.Omega.{arith}
use Rattle.rules.specs.declared.Axis.TheVariants.{X, Y, Z}
use Rattle.rules.specs.declared.Point.{Point}
use Rattle.rules.specs.Lattice.{in_box}
use Rattle.rules.proofs.Boxes.{in_box←}
use Rattle.lattice.specs.Levels.{cells_of}
use Rattle.meeting.specs.Met.{met}
use Rattle.meeting.proofs.Outside.{met_covered}
use Rattle.corners.proofs.Planes.{covers_reaches}
use Rattle.scanning.proofs.Scanning.{layers, rows, run, part_empty, run_next, rows_next, layers_next, layers_all}
use Rattle.scanning.proofs.mark_box.Goals as goal

pub loop-k-init : goal.loop-k-init
loop-k-init c = record {
  keeps = record { most = zero-le; long = refl; axis = λ k h. absurd (not-suc-le-zero h) };
  added = part_empty (cells_of c.args.l) (met c.args.l c.args.t) (layers c.args.b c.args.b.lo.k) (λ p o. omega arith) c.args.grid.now;
}

pub loop-j-init : goal.loop-j-init
loop-j-init c = record {
  keeps = c.loop-k.invariant.keeps;
  added = part_empty (cells_of c.args.l) (met c.args.l c.args.t) (rows c.args.b c.loop-k.k c.args.b.lo.j) (λ p o. omega arith) c.loop-k.grid;
}

pub loop-i-init : goal.loop-i-init
loop-i-init c = record {
  keeps = c.loop-j.invariant.keeps;
  added = part_empty (cells_of c.args.l) (met c.args.l c.args.t) (run c.args.b c.loop-k.k c.loop-j.j c.args.b.lo.i) (λ p o. omega arith) c.loop-j.grid;
}

pub mark_cell-requires : goal.mark_cell-requires
mark_cell-requires c =
    let v = c.requires.covers in
    let x = v X in
    let y = v Y in
    let z = v Z in
    let p : Point = record { i = c.loop-i.i; j = c.loop-j.j; k = c.loop-k.k } in
    let h = in_box← c.args.b false false false p (omega arith, omega arith, omega arith) in
    record {
      inside = c.requires.inside;
      keeps = c.loop-i.invariant.keeps;
      cells_are = c.cells-n.ensures;
      grid_long = rw (c.loop-i.invariant.added.long ∙ c.loop-j.invariant.added.long ∙ c.loop-k.invariant.added.long) c.requires.grid_long;
      cell = omega arith;
      reaches = covers_reaches c.args.l c.args.t c.args.b v p h;
    }

pub loop-i-preserved : goal.loop-i-preserved
loop-i-preserved c =
    let next = run_next (cells_of c.args.l) (met c.args.l c.args.t) c.args.b c.loop-k.k c.loop-j.j c.loop-i.i c.loop-i.auto.i in
    record { keeps = c.mark_cell.ensures.0; added = next c.loop-i.invariant.added c.mark_cell.ensures.1 }

pub loop-j-preserved : goal.loop-j-preserved
loop-j-preserved c =
    let x = (c.requires.covers X).some in
    let end : c.loop-i.i ≡ c.args.b.hi.i = omega arith in
    let next = rows_next (cells_of c.args.l) (met c.args.l c.args.t) c.args.b c.loop-k.k c.loop-j.j c.loop-j.auto.j in
    record { keeps = c.loop-i.invariant.keeps; added = next c.loop-j.invariant.added (rw end at c.loop-i.invariant.added) }

pub loop-k-preserved : goal.loop-k-preserved
loop-k-preserved c =
    let y = (c.requires.covers Y).some in
    let end : c.loop-j.j ≡ c.args.b.hi.j = omega arith in
    let next = layers_next (cells_of c.args.l) (met c.args.l c.args.t) c.args.b c.loop-k.k c.loop-k.auto.k in
    record { keeps = c.loop-j.invariant.keeps; added = next c.loop-k.invariant.added (rw end at c.loop-j.invariant.added) }

pub returns : goal.returns
returns c =
    let z = (c.requires.covers Z).some in
    let end : c.loop-k.k ≡ c.args.b.hi.k = omega arith in
    layers_all (cells_of c.args.l) (met c.args.l c.args.t) c.args.b (λ a p e. met_covered c.args.l c.args.t a p c.args.b c.requires.covers e)
    (rw end at c.loop-k.invariant.added)
