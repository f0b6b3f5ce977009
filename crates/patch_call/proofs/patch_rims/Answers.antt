-- `patch_rims` finds the odd faces, puts the marks by, and patches every rim. Assumes nothing.
use mathlib.Core.Path.{ap, ◌∙◌}
use Prim.Native.Nat.{ℕ}
use Rattle.byte.specs.Byte.{marks_put_by}
use Rattle.patching.specs.Paint.{paint}
use Rattle.patch_call.proofs.Begins.{fine_start}
use Rattle.patch_call.proofs.Ends.{rims_done}
use Rattle.patch_call.proofs.patch_rims.Goals as goal

pub all_rims-rims-requires : goal.all_rims-rims-requires
all_rims-rims-requires c =
    let f = c.find_odd-came.ensures.2 in (
      record {
        small = c.requires.sized.small;
        grid_long = rw c.put_by.auto.grid c.requires.sized.grid_long;
        work_long = rw f.long
            c.requires.sized.work_long;
      },
      fine_start c.args.n c.args.grid.now _ _ c.requires.sized.grid_long c.requires.is_grid f,
    )

pub returns : goal.returns
returns c =
    let g = c.args.grid.now in
    let e = c.put_by.ensures ∙ ap (λ (k : ℕ). paint marks_put_by k g) c.point_count.ensures.0 in (
      rims_done c.args.n g c.args.work.now _ _ _ _ _ c.requires.sized.grid_long c.requires.is_grid c.find_odd-came.ensures.2 e c.all_rims-rims.ensures,
      c.find_odd-came.ensures.0,
      c.find_odd-came.ensures.1,
    )
