-- `feed` meets its contract: what is known of the block's end, of a refused triangle and of the next one. Assumes nothing.
use Rattle.std.proofs.Common.{◌≡◌, ◌≢◌, ◌<◌, ◌≤◌, ◌+◌, ◌-◌, ◌*◌, length, drop, ◌++◌, arith, sym, ap, ◌∙◌}
use Rattle.std.proofs.lemmas.Result.{err_from_is_err_and}
use Rattle.std.proofs.lemmas.Bool.{eqb-false}
use Rattle.lattice.specs.Levels.{number_of}
use Rattle.marking.specs.Mark.{mark_call}
use Rattle.feeding.specs.Lent.{lent_totals}
use Rattle.feeding.specs.Taken.{refused_by, taken}
use Rattle.feeding.proofs.Stops.{stop_some}
use Rattle.feeding.proofs.Chunks.{numbers_of_chunk}
use Rattle.feeding.proofs.Taken.{block_full, block_short, block_refused, block_next}
use Rattle.feeding.proofs.feed.Goals as goal

pub returns-then-triangles-eq-MOST_TRIANGLES : goal.returns-then-triangles-eq-MOST_TRIANGLES
returns-then-triangles-eq-MOST_TRIANGLES c =
    let l = c.loop-c.invariant in
    let i : 36 * c.loop-c.c-index < length c.args.block.now = omega (arith, c.as_chunks.ensures.front_len) in
    record {
      ready = l.ready;
      counted = tt;
      goes_on = λ rest w. l.goes_on rest w ∙ block_full c.args.l _ _ c.args.block.now rest _ i c.if-triangles-eq-MOST_TRIANGLES.true;
    }

pub returns-then-triangles-eq-MOST_TRIANGLES-2 : goal.returns-then-triangles-eq-MOST_TRIANGLES-2
returns-then-triangles-eq-MOST_TRIANGLES-2 c =
    let l = c.loop-c.invariant in
    let some : length c.as_chunks.result.1.now ≢ 0 = eqb-false _ 0 (sym c.is_empty.ensures ∙ c.if-is_empty.false) in
    let i : 36 * c.loop-c.c-index < length c.args.block.now = omega (arith, c.as_chunks.ensures.front_len, c.as_chunks.ensures.back_len) in
    record {
      ready = l.ready;
      counted = tt;
      goes_on = λ rest w. l.goes_on rest w ∙ block_full c.args.l _ _ c.args.block.now rest _ i c.if-triangles-eq-MOST_TRIANGLES-2.true;
    }

pub returns : goal.returns
returns c =
    let l = c.loop-c.invariant in
    let some : length c.as_chunks.result.1.now ≢ 0 = eqb-false _ 0 (sym c.is_empty.ensures ∙ c.if-is_empty.false) in
    let i : 36 * c.loop-c.c-index < length c.args.block.now = omega (arith, c.as_chunks.ensures.front_len, c.as_chunks.ensures.back_len) in
    record {
      ready = l.ready;
      counted = tt;
      goes_on = λ rest w.
          l.goes_on rest w
          ∙ block_short c.args.l _ _ c.args.block.now rest _ i (omega arith) l.ready w (omega arith) (omega (arith, c.as_chunks.ensures.front_len));
    }

pub returns-in_err-mark_numbers : goal.returns-in_err-mark_numbers
returns-in_err-mark_numbers c =
    let p = err_from_is_err_and c.from_residual.result c.from_residual.ensures.1 in
    let l = c.loop-c.invariant in
    let why = c.in_err-mark_numbers.field-0.0 in
    let m = c.in_err-mark_numbers.ensures in
    let i : 36 * c.loop-c.c-index + 36 ≤ length c.args.block.now = omega (arith, c.as_chunks.ensures.front_len) in
    let n = c.numbers_at.ensures ∙ numbers_of_chunk _ c.args.block.now _ c.as_chunks.ensures.front (omega (arith, c.as_chunks.ensures.front_len)) in
    rw (p.1, p.2)
    (record {
      ready = m.ready;
      counted = tt;
      goes_on = λ rest w.
          l.goes_on rest w
          ∙ block_refused c.args.l _ _ c.args.block.now rest _ (omega arith) (omega arith) (omega arith) _
          (ap (λ (x : _). mark_call (number_of c.args.l) c.loop-c.grid x lent_totals) n)
          (λ z. stop_some why (m.number_is ∙ z))
          ∙ ap refused_by (sym m.number_is);
    })

pub loop-c-preserved : goal.loop-c-preserved
loop-c-preserved c =
    let l = c.loop-c.invariant in
    let m = c.in_ok-mark_numbers.ensures in
    let i : 36 * c.loop-c.c-index + 36 ≤ length c.args.block.now = omega (arith, c.as_chunks.ensures.front_len) in
    let n = c.numbers_at.ensures ∙ numbers_of_chunk _ c.args.block.now _ c.as_chunks.ensures.front (omega (arith, c.as_chunks.ensures.front_len)) in
    let next : 36 * c.loop-c.c-index + 36 ≡ 36 * (c.loop-c.c-index + 1) = omega arith in
    record {
      counted = omega (arith, l.counted);
      most = omega arith;
      long = c.mark_numbers.auto.grid ∙ l.long;
      ready = m.ready;
      goes_on = λ rest w.
          l.goes_on rest w
          ∙ block_next c.args.l _ _ c.args.block.now rest _ (omega arith) (omega arith) (omega arith) _
          (ap (λ (x : _). mark_call (number_of c.args.l) c.loop-c.grid x lent_totals) n) (sym m.number_is)
          ∙ (λ j. taken (number_of c.args.l) (100000 - (c.loop-c.triangles + 1)) (drop (next j) c.args.block.now ++ rest) (c.loop-c.triangles + 1)
          (sym m.grid_is j));
    }
