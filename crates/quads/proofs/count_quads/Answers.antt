-- `count_quads`: the marks of all bytes, added up. Assumes nothing.
use mathlib.Core.Path.{ap, ◌∙◌}
use Prim.Native.Nat.{ℕ}
use lib.ListN.{take}
use Rattle.std.specs.List.{sum_by}
use Rattle.rules.specs.Grid.{byte_marks}
use Rattle.quads.proofs.Counted.{marks_summed, sum_most}
use Rattle.quads.proofs.count_quads.Goals as goal

pub returns : goal.returns
returns c =
    let all = ap (λ (k : ℕ). sum_by byte_marks (take k c.args.grid.now)) c.point_count.ensures.0 in (
      c.marks_of.ensures ∙ all ∙ marks_summed c.args.n c.args.grid.now c.requires.0.long c.requires.1,
      rw c.marks_of.ensures (sum_most c.point_count.result c.args.grid.now c.point_count.ensures.1),
    )
