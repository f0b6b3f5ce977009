use mathlib.Core.Path.{◌≡◌, ◌∙◌}
use Prim.Native.Nat.{◌+◌, ◌*◌}
use native.Mathlib.Nat.{add_assoc}
use native.Mathlib.Omega.{arith}
use Rattle.text.proofs.Texts.{put_both, each_more}
use Rattle.masks.specs.Mask.{row_bytes, rows_at}
use Rattle.masks.proofs.Sizes.{piece_more, row_length}
use Rattle.mask_call.proofs.put_rows.Goals as goal

pub loop-j-preserved : goal.loop-j-preserved
loop-j-preserved c =
    let a = c.args in
    let j = c.loop-j.j in (
      c.put_row-next.ensures.place
          ∙ (λ i. c.loop-j.invariant.0 i + row_length a.grid.now (a.from + a.w * j) a.w i)
          ∙ rw (piece_more (row_bytes a.w) j) (add_assoc a.at (row_bytes a.w * j) (row_bytes a.w)),
      c.put_row-next.auto.out ∙ c.loop-j.invariant.1,
      rw (each_more _ j) (put_both c.loop-j.invariant.2 c.put_row-next.ensures),
    )

pub returns : goal.returns
unfolding rows_at
returns c =
    let e : c.loop-j.j ≡ c.args.w = omega arith in
    rw e at c.loop-j.invariant.2
