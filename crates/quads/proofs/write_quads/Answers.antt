use mathlib.Core.Path.{refl, sym, ap, ◌∙◌}
use Prim.Native.Nat.{◌*◌, ◌<◌}
use native.Mathlib.Numerals.{add-one}
use native.Mathlib.Omega.{arith}
use lib.ListN.{length}
use lib.Seq.{sets}
use Rattle.rules.specs.Lattice.{point_count}
use Rattle.rules.specs.Grid.{marks, inside}
use Rattle.rules.specs.Quads.{quad, quads}
use Rattle.grids.proofs.Points.{at_start, at_next}
use Rattle.lattice.proofs.Written.{written}
use Rattle.surfacing.specs.Listing.{quad_count}
use Rattle.surfacing.specs.Call.{surface_done}
use Rattle.surfacing.proofs.Around.{marks_inner_at}
use Rattle.surfacing.proofs.Quads.{quads_start, given_end, quads_byte, quads_length, given_written, byte_room}
use Rattle.quads.proofs.write_quads.Goals as goal

pub loop-p-init : goal.loop-p-init
loop-p-init c =
    let n = c.args.n in
    let E = marks n c.args.grid.now in
    let s = inside n c.args.grid.now in
    let e = quads_start n E s in (
      c.point_count-count.ensures.0,
      at_start _,
      refl,
      omega (arith, ap length e, quads_length n E s, c.requires.list_room),
      ap (sets c.args.list.now 0) e,
    )

pub put_quads-at-requires : goal.put_quads-at-requires
put_quads-at-requires c =
    let n = c.args.n in
    let g = c.args.grid.now in
    let h : c.loop-p.p < point_count n = omega (arith, c.loop-p.invariant.0, c.loop-p-test.true) in record {
      small = c.requires.sized.small;
      marks_inner = marks_inner_at n g c.loop-p.p c.loop-p.q c.requires.sized.long c.requires.is_grid c.loop-p.invariant.1 h;
      list_room = byte_room n g c.loop-p.p c.loop-p.q _ c.loop-p.at c.loop-p.list c.requires.sized.long c.requires.is_grid
          c.loop-p.invariant.1 h c.loop-p.invariant.3;
    }

pub loop-p-preserved : goal.loop-p-preserved
loop-p-preserved c =
    let n = c.args.n in
    let g = c.args.grid.now in
    let h : c.loop-p.p < point_count n = omega (arith, c.loop-p.invariant.0, c.loop-p-test.true) in
    let byte = quads_byte n g c.loop-p.p c.loop-p.q _ c.requires.sized.long c.requires.is_grid c.loop-p.invariant.1 h c.is_inside.ensures in
    let e = rw byte at c.put_quads-at.ensures in
    let w = given_written n (marks n g)
    (quad n (inside n g)) c.loop-p.p c.loop-p.q c.loop-p.invariant.1 h c.loop-p.at _ c.loop-p.list _ e c.loop-p.invariant.3 in (
      c.loop-p.invariant.0,
      rw (add-one, c.next_point-q.ensures) (at_next n c.loop-p.p c.loop-p.q c.loop-p.invariant.1 h),
      w.0 ∙ c.loop-p.invariant.2,
      rw add-one w.1,
      rw add-one (w.2 ∙ c.loop-p.invariant.4),
    )

pub returns : goal.returns
unfolding surface_done
returns c =
    let n = c.args.n in
    let E = marks n c.args.grid.now in
    let s = inside n c.args.grid.now in
    sym (ap (sets c.loop-p.list c.loop-p.at) (given_end n E (quad n s) c.loop-p.p (omega (arith, c.loop-p.invariant.0, c.loop-p-test.false))))
    ∙ c.loop-p.invariant.4
    ∙ written c.args.list.now (quads n E s) (4 * quad_count n E) (quads_length n E s) c.requires.list_room
