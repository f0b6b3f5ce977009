use mathlib.Core.Path.{◌≡◌, refl, ◌∙◌}
use Prim.Native.Nat.{◌<◌}
use native.Mathlib.Numerals.{add-one}
use native.Mathlib.Omega.{arith}
use lib.ListN.{length, length-set}
use Rattle.rules.specs.Lattice.{point_count}
use Rattle.grids.proofs.Points.{points_start, points_end, at_start, at_next}
use Rattle.picture.specs.Picture.{drawn}
use Rattle.text.proofs.Texts.{put_none}
use Rattle.picture.proofs.Pictures.{picture_points, picture_next}
use Rattle.picture.proofs.put_picture.Goals as goal

pub loop-p-init : goal.loop-p-init
loop-p-init c =
    let a = c.args in
    let e = picture_points a.n (drawn a.w a.n a.grid.now) in
    (c.point_count-count.ensures.0, omega arith, refl, at_start _, λ x r h. rw e (rw (points_start a.n) at h))

pub loop-p-preserved : goal.loop-p-preserved
loop-p-preserved c =
    let a = c.args in
    let h : c.loop-p.p < point_count a.n = omega (arith, c.loop-p.invariant.0, c.loop-p-test.true) in
    let g : c.loop-p.at < length c.loop-p.out =
    omega (arith, c.loop-p.invariant.0, c.loop-p.invariant.1, c.loop-p.invariant.2, c.loop-p-test.true, c.requires.out_room) in (
      c.loop-p.invariant.0,
      omega (arith, c.loop-p.invariant.1, c.put_end-at.ensures.1),
      c.put_end-at.auto.out ∙ length-set c.loop-p.out c.loop-p.at c.drawn_at.result ∙ c.loop-p.invariant.2,
      rw (c.next_point-q.ensures, add-one c.loop-p.p) (at_next a.n c.loop-p.p c.loop-p.q c.loop-p.invariant.3 h),
      λ x r t. c.loop-p.invariant.4 x r
          (picture_next a.n (drawn a.w a.n a.grid.now) c.loop-p.p c.loop-p.q c.loop-p.invariant.3 h g c.drawn_at.ensures c.put_end-at.ensures.0 t),
    )

pub returns : goal.returns
returns c =
    let e : c.loop-p.p ≡ point_count c.args.n = omega (arith, c.loop-p.invariant.0) in
    let w = c.loop-p.invariant.4 c.loop-p.out c.loop-p.at (rw (points_end c.args.n c.loop-p.p (omega arith)) (put_none c.loop-p.out c.loop-p.at)) in
    (w, omega (arith, c.loop-p.invariant.1, e))
