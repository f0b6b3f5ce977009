use mathlib.Core.Path.{◌∙◌}
use Prim.Native.Nat.{◌+◌, ◌*◌, ◌-◌, ◌≤◌}
use native.Mathlib.Nat.{zero-add, mul_comm}
use native.Mathlib.Omega.{arith}
use borrow.Rule.Slice.PartMut.{same_len_mid}
use lib.ListN.{length}
use Rattle.text.proofs.Texts.{put_both, each_more}
use Rattle.masks.specs.Mask.{mask_size}
use Rattle.masks.proofs.Sizes.{piece_more, piece_room, mask_length}
use Rattle.mask_call.proofs.Parted.{part_room, put_part}
use Rattle.mask_call.proofs.put_masks.Goals as goal

pub put_mask-at-requires : goal.put_mask-at-requires
put_mask-at-requires c =
    let w = c.args.w in
    let r = piece_room (mask_size w) c.loop-k.k w c.loop-k-test.true in
    let q = piece_room (w * w) c.loop-k.k w c.loop-k-test.true in record {
      small = c.requires.small;
      grid_room = omega (arith, q, c.requires.grid_room);
      part_room = part_room c.loop-k.out c.loop-k.at (mask_size w)
          (omega (arith, r, mul_comm w (mask_size w), c.requires.out_room, c.loop-k.invariant.0, c.loop-k.invariant.1));
    }

pub loop-k-preserved : goal.loop-k-preserved
loop-k-preserved c =
    let a = c.args in
    let w = a.w in
    let r = piece_room (mask_size w) c.loop-k.k w c.loop-k-test.true in
    let fits : c.loop-k.at ≤ length c.loop-k.out =
    omega (arith, r, mul_comm w (mask_size w), c.requires.out_room, c.loop-k.invariant.0, c.loop-k.invariant.1) in
    let size = c.put_mask-at.ensures.place ∙ zero-add _ ∙ mask_length a.grid.now (w * w * c.loop-k.k) w in (
      rw (piece_more (mask_size w) c.loop-k.k) (λ i. c.loop-k.invariant.0 i + size i),
      same_len_mid c.loop-k.at (length c.loop-k.out - c.loop-k.at) c.loop-k.out c.put_mask-at.new.part c.put_mask-at.auto.part ∙ c.loop-k.invariant.1,
      rw (each_more _ c.loop-k.k) (put_both c.loop-k.invariant.2 (put_part {l = c.loop-k.out} {at = c.loop-k.at} fits c.put_mask-at.ensures)),
    )
