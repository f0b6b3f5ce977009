-- `feed_records` meets its contract: all have come, a record is refused, the next one, and what is left of the block. Assumes nothing.
use Rattle.std.proofs.Common.{◌≡◌, ◌≢◌, ◌<◌, ◌≤◌, ◌+◌, ◌-◌, ◌*◌, ◌/◌, ℕ, List, ◌++◌, length, drop, arith, refl, sym, ap, ◌∙◌}
use Rattle.std.proofs.lemmas.Result.{err_from_is_err_and}
use Rattle.feeding.proofs.Stops.{stop_some}
use Rattle.std.proofs.lemmas.Bool.{eqb-true, eqb-false}
use Rattle.std.proofs.Math.ListN.{drop_of_length-le}
use Rattle.lattice.specs.Levels.{number_of}
use Rattle.rounding.specs.Scales.{exponent_of}
use Rattle.stl_feeding.specs.Taken.{taken}
use Rattle.stl_feeding.proofs.Records.{record_of_chunk}
use Rattle.stl_feeding.proofs.Taken.{block_done, block_short, block_refused, block_next}
use Rattle.stl_feeding.proofs.feed_records.Goals as goal
use Rattle.stl_feeding.proofs.feed_records.Goals.{else-triangles-all-2-via-then-triangles-all-2+else-not-is_empty}
use Rattle.stl_feeding.proofs.feed_records.Goals.{else-triangles-all-2-via-else-triangles-all-2}

pub returns-then-triangles-all : goal.returns-then-triangles-all
returns-then-triangles-all c =
    let l = c.loop-r.invariant in
    record {
      ready = l.ready;
      counted = (omega arith, λ n f. f);
      goes_on = λ rest w. l.goes_on rest w ∙ block_done c.args.l _ _ c.args.all _ _ c.args.block.now rest _ c.if-triangles-all.true rest;
    }

pub returns-in_err-mark_record : goal.returns-in_err-mark_record
returns-in_err-mark_record c =
    let l = c.loop-r.invariant in
    let p = err_from_is_err_and c.from_residual.result c.from_residual.ensures.1 in
    let why = c.in_err-mark_record.field-0.0 in
    let m = c.in_err-mark_record.ensures in
    let i : 50 * c.loop-r.r-index + 50 ≤ length c.args.block.now = omega (arith, c.as_chunks.ensures.front_len) in
    rw (p.1, p.2)
    (record {
      ready = m.ready;
      counted = tt;
      goes_on = λ rest w. l.goes_on rest w
          ∙ block_refused c.args.l _ _ c.args.all _ _ c.args.block.now rest _ (omega (arith, l.most, c.if-triangles-all.false)) (omega arith) _
          (record_of_chunk _ c.args.block.now _ c.as_chunks.ensures.front (omega (arith, c.as_chunks.ensures.front_len))) _ m.number_is
          (stop_some why);
    })

pub loop-r-preserved : goal.loop-r-preserved
loop-r-preserved c =
    let l = c.loop-r.invariant in
    let m = c.in_ok-mark_record.ensures in
    let i : 50 * c.loop-r.r-index + 50 ≤ length c.args.block.now = omega (arith, c.as_chunks.ensures.front_len) in
    let next : 50 * c.loop-r.r-index + 50 ≡ 50 * (c.loop-r.r-index + 1) = omega arith in
    record {
      counted = omega (arith, l.counted);
      most = omega (arith, l.most, c.if-triangles-all.false);
      long = c.mark_record.auto.grid ∙ l.long;
      ready = m.ready;
      goes_on = λ rest w. l.goes_on rest w
          ∙ block_next c.args.l _ _ c.args.all _ _ c.args.block.now rest _ (omega (arith, l.most, c.if-triangles-all.false)) (omega arith) _
          (record_of_chunk _ c.args.block.now _ c.as_chunks.ensures.front (omega (arith, c.as_chunks.ensures.front_len))) _ m.number_is
          refl _ (m.grid_is refl)
          ∙ ap (λ (at : ℕ). taken (number_of c.args.l) (exponent_of c.args.s) c.args.shift (c.args.all - (c.loop-r.triangles + 1))
          (drop at c.args.block.now ++ rest) (c.loop-r.triangles + 1) c.mark_record.new.grid) next;
    }

pub returns-then-not-is_empty : goal.returns-then-not-is_empty
returns-then-not-is_empty c =
    let l = c.loop-r.invariant in
    let some : length c.as_chunks.result.1.now ≢ 0 = eqb-false _ 0 (sym c.is_empty.ensures ∙ c.if-not-is_empty.true) in
    record {
      ready = l.ready;
      counted = tt;
      goes_on = λ rest w. l.goes_on rest w
          ∙ block_short c.args.l _ _ c.args.all _ _ c.args.block.now rest _ (omega arith) w (omega arith)
          (omega (arith, c.as_chunks.ensures.front_len, c.as_chunks.ensures.back_len)) (omega (arith, c.as_chunks.ensures.front_len));
    }

pub returns : goal.returns
returns c =
    let l = c.loop-r.invariant in
    let n = c.as_chunks.ensures in
    elim c.else-triangles-all-2.branch [
      | else-triangles-all-2-via-then-triangles-all-2+else-not-is_empty w ↦
          let none : length c.as_chunks.result.1.now ≡ 0 = eqb-true _ 0 (sym w.is_empty.ensures ∙ w.if-not-is_empty.false) in
          record {
            ready = l.ready;
            counted = (l.most, λ f t. omega (arith, l.counted, n.front_len));
            goes_on = λ rest d. l.goes_on rest d
                ∙ ap (λ (left : List ℕ). taken (number_of c.args.l) (exponent_of c.args.s) c.args.shift (c.args.all - c.loop-r.triangles) (left ++ rest)
                c.loop-r.triangles c.loop-r.grid) (drop_of_length-le c.args.block.now (omega (arith, n.front_len, n.back_len)));
          }
      | else-triangles-all-2-via-else-triangles-all-2 w ↦
          let e : c.loop-r.triangles ≡ c.args.all = omega (arith, l.most, w.if-triangles-all-2.false) in
          record {
            ready = l.ready;
            counted = (l.most, λ f t. rw e t);
            goes_on = λ rest d. l.goes_on rest d ∙ block_done c.args.l _ _ c.args.all _ _ c.args.block.now rest _ e rest
                ∙ ap (λ (t : ℕ). taken (number_of c.args.l) (exponent_of c.args.s) c.args.shift (c.args.all - t) rest t c.loop-r.grid) (sym e);
          }
    ]
