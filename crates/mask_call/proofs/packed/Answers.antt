use mathlib.Core.Path.{refl, sym, ◌∙◌}
use Prim.Native.Nat.{ℕ, ◌+◌, ◌*◌}
use native.Mathlib.Omega.{arith}
use Rattle.masks.specs.Mask.{pixel_at, packed}
use Rattle.mask_call.proofs.Packing.{packed_more, power_more}
use Rattle.mask_call.proofs.packed.Goals as goal

pub loop-x-init : goal.loop-x-init
unfolding packed
loop-x-init c = (omega arith, refl)

pub loop-x-preserved : goal.loop-x-preserved
loop-x-preserved c =
    let a = c.args in
    let f : ℕ → ℕ = λ y. pixel_at a.grid.now a.from a.w (8 * a.b + y) in (
      omega (arith, power_more c.loop-x.x, c.pixel.ensures.1, c.loop-x.invariant.0),
      (λ i. 2 * c.loop-x.invariant.1 i + c.pixel.ensures.0 i) ∙ sym (packed_more f c.loop-x.x),
    )
