use mathlib.Core.Path.{◌≡◌, sym, ap, ◌∙◌}
use mathlib.Core.Bool.{Bool, false, not, ◌&&◌}
use Prim.Native.Nat.{ℕ, suc, ◌+◌}
use native.Mathlib.Omega.{arith}
use lib.ListN.{length}
use Rattle.rules.specs.declared.Axis.{Axis}
use Rattle.rules.specs.Grid.{has}
use Rattle.rules.proofs.Bits.{&&_true, &&_assoc}
use Rattle.lattice.specs.Cells.{index_of}
use Rattle.triangles.specs.declared.Kept.{Kept}
use Rattle.triangles.specs.Keeping.{parts}
use Rattle.corners.specs.Corner.{kept_at, none_parts, still_left}
use Rattle.corners.proofs.Corner.{none_left, zero_has}
use Rattle.sifting.proofs.left_of_kept.Goals as goal

pub loop-a-init : goal.loop-a-init
unfolding none_parts
loop-a-init c = (c.requires.left_fits, λ a. sym (&&_true (has a c.args.left)))

pub returns-then-left-eq0 : goal.returns-then-left-eq0
returns-then-left-eq0 c =
    let w = c.args.kept.now in
    let none : (a : Axis) → has a c.loop-a.left ≡ false = λ a. ap (has a) c.if-left-eq0.true ∙ zero_has a in (
      c.loop-a.invariant.0,
      λ a. none a
          ∙ sym (none_left w c.args.p a (has a c.args.left) c.loop-a.a-index (length w) (omega arith) (sym (c.loop-a.invariant.1 a) ∙ none a)),
    )

pub loop-a-preserved : goal.loop-a-preserved
unfolding none_parts
loop-a-preserved c =
    let w = c.args.kept.now in
    let k = c.loop-a.a-index in
    let one : k + 1 ≡ suc k = omega arith in (
      c.still_left-left.ensures.0,
      λ a.
          c.still_left-left.ensures.1 a
          ∙ ap (λ (b : Bool). b && not (parts (kept_at w k) c.args.p (index_of a))) (c.loop-a.invariant.1 a)
          ∙ &&_assoc (has a c.args.left) (none_parts w k c.args.p a) (not (parts (kept_at w k) c.args.p (index_of a)))
          ∙ ap (λ (m : ℕ). has a c.args.left && none_parts w m c.args.p a) (sym one),
    )
