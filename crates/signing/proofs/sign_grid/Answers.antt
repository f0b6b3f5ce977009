use mathlib.Core.Path.{◌≡◌, sym, ap, ap₂, ◌∙◌}
use mathlib.Core.Bool.{Bool}
use mathlib.Core.List.{List, map}
use Prim.Native.Nat.{ℕ, ◌+◌, ◌-◌, ◌%◌, ◌<◌}
use native.Mathlib.Numerals.{add-one}
use native.Mathlib.Omega.{arith}
use lib.ListN.{length-set}
use lib.Seq.{sets}
use Rattle.rules.specs.declared.Axis.TheVariants.{X}
use Rattle.rules.specs.Lists.{◌⊕◌, upto}
use Rattle.rules.specs.Lattice.{point_count}
use Rattle.rules.specs.Grid.{has, value, marks}
use Rattle.rules.specs.Signs.{sign_bytes}
use Rattle.lattice.proofs.Written.{written, write_end, rewrite_kept, rewrite_on}
use Rattle.grids.proofs.Unsigning.{low_byte}
use Rattle.signing.proofs.Rows.{sign_of, signs_by_number, signs_length, sign_next}
use Rattle.signing.proofs.sign_grid.Goals as goal

pub loop-p-preserved : goal.loop-p-preserved
loop-p-preserved c =
    let n = c.args.n in
    let g = c.args.grid.now in
    let E = marks n g in
    let h : c.loop-p.p < point_count n = omega arith in
    let k = c.loop-p.invariant.2 c.loop-p.p (omega arith) in
    let e = ap (λ (b : ℕ). b % 8) k ∙ low_byte n g c.requires.sized.long c.requires.is_grid c.loop-p.p h in
    let next = sign_next n g c.requires.sized.long c.requires.is_grid c.requires.even c.loop-p.p h in (
      c.loop-p.invariant.0,
      length-set c.loop-p.grid c.loop-p.p _ ∙ c.loop-p.invariant.1,
      rewrite_kept g c.loop-p.grid c.loop-p.p _ c.loop-p.invariant.2,
      rw add-one (c.across-inside.ensures ∙ ap₂ ◌⊕◌ c.loop-p.invariant.3 (ap (has X) k) ∙ sym next),
      rewrite_on (sign_of n E) c.loop-p.grid c.loop-p.p (point_count n) _ _ h
          (c.with_sign.ensures ∙ ap₂ ◌+◌ e (ap (λ (b : Bool). value b 8) c.loop-p.invariant.3)) c.loop-p.invariant.4,
    )

pub returns : goal.returns
returns c =
    let n = c.args.n in
    let E = marks n c.args.grid.now in
    sym (write_end (sign_of n E) c.loop-p.grid c.loop-p.p (point_count n) (omega arith))
    ∙ c.loop-p.invariant.4
    ∙ ap (λ (k : ℕ). sets c.args.grid.now 0 (map (sign_of n E) (upto 0 k))) (let e : point_count n - 0 ≡ point_count n = omega arith in e)
    ∙ ap (λ (l : List ℕ). sets c.args.grid.now 0 l) (sym (signs_by_number n E))
    ∙ written c.args.grid.now (sign_bytes n E) (point_count n) (signs_length n E) c.requires.sized.long
