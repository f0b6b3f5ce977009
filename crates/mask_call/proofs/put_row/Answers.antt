use mathlib.Core.Path.{◌≡◌, subst, ◌∙◌}
use mathlib.Core.List.{map}
use Prim.Native.Nat.{ℕ, ◌+◌, ◌*◌, ◌<◌}
use native.Mathlib.Nat.{add_assoc}
use native.Mathlib.Omega.{arith}
use lib.ListN.{length, length-set}
use Rattle.rules.specs.Lists.{upto}
use Rattle.text.specs.Text.{Put}
use Rattle.text.proofs.Texts.{put_both, put_byte}
use Rattle.text.proofs.Numbers.{map_more}
use Rattle.masks.specs.Mask.{pixel_at, packed, row_bytes, row_at}
use Rattle.mask_call.proofs.put_row.Goals as goal

pub loop-b-preserved : goal.loop-b-preserved
loop-b-preserved c =
    let a = c.args in
    let v = c.packed.result in
    let h : a.at + c.loop-b.b < length c.loop-b.out = omega (arith, c.requires.out_room, c.loop-b.invariant.0, c.loop-b.invariant.1, c.loop-b-test.true) in
    let p = put_both c.loop-b.invariant.2 (put_byte c.loop-b.out (a.at + c.loop-b.b) v h) in (
      c.loop-b.invariant.0,
      length-set c.loop-b.out (a.at + c.loop-b.b) v ∙ c.loop-b.invariant.1,
      rw (map_more _ c.loop-b.b, ← c.packed.ensures, ← add_assoc a.at c.loop-b.b 1) p,
    )

pub returns : goal.returns
unfolding row_at
returns c =
    let a = c.args in
    let e : c.loop-b.b ≡ row_bytes a.w = omega (arith, c.loop-b.invariant.0) in
    subst (λ (k : ℕ). Put a.out.now a.at (map (λ d. packed (λ x. pixel_at a.grid.now a.from a.w (8 * d + x)) 8) (upto 0 k)) c.loop-b.out
    (a.at + k)) e c.loop-b.invariant.2
