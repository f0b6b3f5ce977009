use mathlib.Core.Path.{refl, sym, ap, ◌∙◌}
use mathlib.Core.List.{List}
use Prim.Native.Nat.{◌+◌, ◌*◌}
use native.Mathlib.Omega.{arith}
use lib.IntN.{ℤ}
use lib.Seq.{sets}
use Rattle.rounding.specs.Pattern.{is_near, round_times}
use Rattle.rounding.specs.Scales.{exponent_of}
use Rattle.stl_reading.proofs.Faults.{first_clear}
use Rattle.stl_reading.proofs.Numbers.{numbers_from, numbers_start, numbers_more, numbers_end, numbers_written}
use Rattle.stl_triangles.proofs.triangles.put_triangles.Goals as goal

pub loop-t-init : goal.loop-t-init
loop-t-init c = (refl, ap (sets c.args.list.now 0) (numbers_start (round_times (exponent_of c.args.s)) c.args.file.now c.args.count))

pub put_triangle-requires : goal.put_triangle-requires
put_triangle-requires c = record {
  file_room = omega arith;
  scale = c.requires.scale;
  list_room = omega (arith, c.loop-t.invariant.0);
  clear = first_clear (is_near (exponent_of c.args.s)) c.args.file.now c.loop-t.t c.args.count c.requires.clear (omega arith);
}

pub loop-t-preserved : goal.loop-t-preserved
loop-t-preserved c =
    let number = round_times (exponent_of c.args.s) in
    let s = c.args.file.now in
    let n = c.args.count in (
      c.put_triangle.auto.list ∙ c.loop-t.invariant.0,
      ap (λ (l : List ℤ). sets l (9 * (c.loop-t.t + 1)) (numbers_from number s (c.loop-t.t + 1) n)) c.put_triangle.ensures
          ∙ numbers_more number s c.loop-t.list c.loop-t.t n (omega arith)
          ∙ c.loop-t.invariant.1,
    )

pub returns : goal.returns
returns c =
    let number = round_times (exponent_of c.args.s) in
    let s = c.args.file.now in
    sym (numbers_end number s c.loop-t.list c.loop-t.t c.args.count (omega arith))
    ∙ c.loop-t.invariant.1
    ∙ numbers_written number s c.args.list.now c.args.count c.requires.list_room
