use mathlib.Core.Path.{refl, sym, ap, ◌∙◌}
use Prim.Native.Nat.{◌<◌}
use native.Mathlib.Numerals.{add-one}
use native.Mathlib.Omega.{arith}
use lib.ListN.{length}
use Rattle.rules.specs.Lattice.{point_count}
use Rattle.rules.specs.Grid.{marks, inside}
use Rattle.grids.proofs.Points.{at_start, at_next}
use Rattle.surfacing.proofs.Quads.{given_end, given_written}
use Rattle.octets.specs.Octets.{puts}
use Rattle.octets.proofs.Puts.{puts_none}
use Rattle.rounding.specs.Scales.{exponent_of}
use Rattle.stl_records.specs.File.{facings}
use Rattle.stl_records.proofs.File.{quads_length}
use Rattle.stl_listing.proofs.Corners.{side_wide}
use Rattle.stl_listing.proofs.Edges.{bytes_of, bytes_start, bytes_byte, bytes_room, marks_surrounded}
use Rattle.stl_listing.proofs.Counted.{facings_count}
use Rattle.stl_listing.proofs.put_quads.Goals as goal

pub loop-p-init : goal.loop-p-init
loop-p-init c =
    let n = c.args.n in
    let e = exponent_of c.args.s in
    let E = marks n c.args.grid.now in
    let s = inside n c.args.grid.now in
    let all = bytes_start c.args.side e n E s in
    let m = ap length all ∙ quads_length c.args.side e (facings n E s) in (
      c.point_count-count.ensures.0,
      at_start _,
      refl,
      omega (arith, m, facings_count n E s, c.requires.out_room),
      ap
          (puts c.args.out.now 84) all,
    )

pub put_edges-at-requires : goal.put_edges-at-requires
put_edges-at-requires c =
    let n = c.args.n in
    let side = c.args.side in
    let g = c.args.grid.now in
    let pre = c.requires in
    let h : c.loop-p.p < point_count n = omega (arith, c.loop-p.invariant.0, c.loop-p-test.true) in record {
      side_least = side_wide n side pre.sized.small pre.side_is;
      scale = pre.scale;
      surrounded = marks_surrounded n side g c.loop-p.p c.loop-p.q pre.side_is pre.sized.long pre.is_grid c.loop-p.invariant.1 h;
      out_room = bytes_room side (exponent_of c.args.s) n g c.loop-p.p c.loop-p.q _ c.loop-p.at c.loop-p.out pre.sized.long pre.is_grid c.loop-p.invariant.1 h
          c.is_inside.ensures c.loop-p.invariant.3;
    }

pub loop-p-preserved : goal.loop-p-preserved
unfolding puts
loop-p-preserved c =
    let n = c.args.n in
    let side = c.args.side in
    let e = exponent_of c.args.s in
    let g = c.args.grid.now in
    let pre = c.requires in
    let h : c.loop-p.p < point_count n = omega (arith, c.loop-p.invariant.0, c.loop-p-test.true) in
    let put = rw (bytes_byte side e n g c.loop-p.p c.loop-p.q _ pre.sized.long pre.is_grid c.loop-p.invariant.1 h c.is_inside.ensures) at
    c.put_edges-at.ensures in
    let w = given_written n (marks n g)
    (bytes_of side e (inside n g)) c.loop-p.p c.loop-p.q c.loop-p.invariant.1 h c.loop-p.at _ c.loop-p.out _ put c.loop-p.invariant.3 in (
      c.loop-p.invariant.0,
      rw (add-one, c.next_point-q.ensures) (at_next n c.loop-p.p c.loop-p.q c.loop-p.invariant.1 h),
      w.0 ∙ c.loop-p.invariant.2,
      rw add-one w.1,
      rw add-one (w.2 ∙ c.loop-p.invariant.4),
    )

pub returns : goal.returns
returns c =
    let n = c.args.n in
    let g = c.args.grid.now in
    let none = given_end n (marks n g) (bytes_of c.args.side (exponent_of c.args.s) (inside n g)) c.loop-p.p
    (omega (arith, c.loop-p.invariant.0, c.loop-p-test.false)) in
    sym (ap (puts c.loop-p.out c.loop-p.at) none ∙ puts_none c.loop-p.out c.loop-p.at) ∙ c.loop-p.invariant.4
