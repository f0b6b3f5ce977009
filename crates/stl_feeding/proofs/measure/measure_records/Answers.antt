-- `measure_records` meets its contract: all have come, a record is refused, the next one, and what is left of the block. Assumes nothing.
use Rattle.std.proofs.Common.{◌≡◌, ◌≢◌, ◌<◌, ◌≤◌, ◌+◌, ◌-◌, ◌*◌, ◌/◌, ℕ, List, ◌++◌, length, drop, arith, sym, ap, ◌∙◌}
use Rattle.std.proofs.lemmas.Result.{err_from_is_err_and}
use Rattle.feeding.specs.declared.Stop.TheVariants.{NotFinite}
use Rattle.std.proofs.lemmas.Bool.{eqb-true, eqb-false}
use Rattle.std.proofs.Math.ListN.{drop_of_length-le}
use Rattle.stl_feeding.specs.Measured.{measured}
use Rattle.stl_feeding.proofs.Records.{record_of_chunk}
use Rattle.stl_feeding.proofs.Measured.{seen_all, seen_short, seen_not, seen_next}
use Rattle.stl_feeding.proofs.measure.measure_records.Goals as goal
use Rattle.stl_feeding.proofs.measure.measure_records.Goals.{else-triangles-all-2-via-then-triangles-all-2+else-not-is_empty}
use Rattle.stl_feeding.proofs.measure.measure_records.Goals.{else-triangles-all-2-via-else-triangles-all-2}

pub returns-then-triangles-all : goal.returns-then-triangles-all
returns-then-triangles-all c =
    let e = c.if-triangles-all.true in
    record {
      counted = (omega arith, λ f t. rw e t);
      goes_on = λ rest d. c.loop-r.invariant.goes_on rest d ∙ seen_all c.args.all _ _ c.args.block.now rest _ e rest
          ∙ ap (λ (t : ℕ). measured (c.args.all - t) rest t c.loop-r.extent) (sym e);
    }

pub returns-in_err-extent : goal.returns-in_err-extent
returns-in_err-extent c =
    let l = c.loop-r.invariant in
    let p = err_from_is_err_and c.from_residual.result c.from_residual.ensures.1 in
    let i : 50 * c.loop-r.r-index + 50 ≤ length c.args.block.now = omega (arith, c.as_chunks.ensures.front_len) in
    let q : c.in_err-extent.field-0.0 ≡ NotFinite = grind arith in
    rw (p.1, p.2, q)
    (record {
      counted = tt;
      goes_on = λ rest w. l.goes_on rest w
          ∙ seen_not c.args.all _ _ c.args.block.now rest _ (omega (arith, l.most, c.if-triangles-all.false)) (omega arith) _
          (record_of_chunk _ c.args.block.now _ c.as_chunks.ensures.front (omega (arith, c.as_chunks.ensures.front_len))) _ c.look_at.ensures (grind arith);
    })

pub loop-r-preserved : goal.loop-r-preserved
loop-r-preserved c =
    let l = c.loop-r.invariant in
    let i : 50 * c.loop-r.r-index + 50 ≤ length c.args.block.now = omega (arith, c.as_chunks.ensures.front_len) in
    let next : 50 * c.loop-r.r-index + 50 ≡ 50 * (c.loop-r.r-index + 1) = omega arith in
    record {
      counted = omega (arith, l.counted);
      most = omega (arith, l.most, c.if-triangles-all.false);
      goes_on = λ rest w. l.goes_on rest w
          ∙ seen_next c.args.all _ _ c.args.block.now rest _ (omega (arith, l.most, c.if-triangles-all.false)) (omega arith) _
          (record_of_chunk _ c.args.block.now _ c.as_chunks.ensures.front (omega (arith, c.as_chunks.ensures.front_len))) _ c.look_at.ensures _ (grind arith)
          ∙ ap (λ (at : ℕ). measured (c.args.all - (c.loop-r.triangles + 1)) (drop at c.args.block.now ++ rest)
          (c.loop-r.triangles + 1) c.in_ok-extent.extent) next;
    }

pub returns-then-not-is_empty : goal.returns-then-not-is_empty
returns-then-not-is_empty c =
    let l = c.loop-r.invariant in
    let some : length c.as_chunks.result.1.now ≢ 0 = eqb-false _ 0 (sym c.is_empty.ensures ∙ c.if-not-is_empty.true) in
    record {
      counted = tt;
      goes_on = λ rest w. l.goes_on rest w
          ∙ seen_short c.args.all _ _ c.args.block.now rest _ (omega arith) w (omega arith)
          (omega (arith, c.as_chunks.ensures.front_len, c.as_chunks.ensures.back_len)) (omega (arith, c.as_chunks.ensures.front_len));
    }

pub returns : goal.returns
returns c =
    let l = c.loop-r.invariant in
    let n = c.as_chunks.ensures in
    elim c.else-triangles-all-2.branch [
      | else-triangles-all-2-via-then-triangles-all-2+else-not-is_empty w ↦
          let none : length c.as_chunks.result.1.now ≡ 0 = eqb-true _ 0 (sym w.is_empty.ensures ∙ w.if-not-is_empty.false) in
          record {
            counted = (l.most, λ f t. omega (arith, l.counted, n.front_len));
            goes_on = λ rest d. l.goes_on rest d
                ∙ ap (λ (left : List ℕ). measured (c.args.all - c.loop-r.triangles) (left ++ rest) c.loop-r.triangles c.loop-r.extent)
                (drop_of_length-le c.args.block.now (omega (arith, n.front_len, n.back_len)));
          }
      | else-triangles-all-2-via-else-triangles-all-2 w ↦
          let e : c.loop-r.triangles ≡ c.args.all = omega (arith, l.most, w.if-triangles-all-2.false) in
          record {
            counted = (l.most, λ f t. rw e t);
            goes_on = λ rest d. l.goes_on rest d ∙ seen_all c.args.all _ _ c.args.block.now rest _ e rest
                ∙ ap (λ (t : ℕ). measured (c.args.all - t) rest t c.loop-r.extent) (sym e);
          }
    ]
