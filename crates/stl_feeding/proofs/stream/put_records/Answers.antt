-- `put_records` meets its contract: none is put at first, a record is refused, the next one, and what is left of the block. Assumes nothing.
use Rattle.std.proofs.Common.{◌≡◌, ◌≢◌, ◌<◌, ◌≤◌, ◌+◌, ◌*◌, ◌/◌, ℕ, suc, length, drop, refl, arith, sym, ap, ◌∙◌, add-one}
use Rattle.std.proofs.lemmas.Result.{err_from_is_err_and}
use Rattle.feeding.proofs.Stops.{stop_some}
use Rattle.std.proofs.lemmas.Bool.{eqb-false}
use Rattle.std.proofs.lemmas.List.{length-drop, length-take-le}
use Rattle.octets.specs.Octets.{puts}
use Rattle.octets.proofs.Puts.{puts_none}
use Rattle.rounding.specs.Scales.{exponent_of}
use Rattle.stl_feeding.specs.Stream.{refusal_of}
use Rattle.stl_feeding.proofs.Records.{record_of_chunk, chunk_long}
use Rattle.stl_feeding.proofs.Streamed.{stream_none, stream_more, refusal_none, next_short, next_fault}
use Rattle.stl_feeding.proofs.stream.put_records.Goals as goal

pub loop-r-init : goal.loop-r-init
loop-r-init c =
    let a = c.args in
    record {
      counted = omega arith;
      most = c.requires.count_most;
      bytes_is = refl;
      long = refl;
      put_is = sym (ap (puts a.out.now 0) (stream_none (exponent_of a.s) a.shift a.block.now) ∙ puts_none a.out.now 0);
      none_refused = refusal_none (exponent_of a.s) a.block.now;
    }

pub returns-in_err-put_record : goal.returns-in_err-put_record
returns-in_err-put_record c =
    let l = c.loop-r.invariant in
    let b = c.args.block.now in
    let i : c.loop-r.r-index < length b / 50 = omega (arith, c.as_chunks.ensures.front_len) in
    let here = record_of_chunk _ b _ c.as_chunks.ensures.front i in
    let p = err_from_is_err_and c.from_residual.result c.from_residual.ensures.1 in
    rw (p.1, p.2)
    (record {
      ahead = c.loop-r.r-index;
      some = stop_some c.in_err-put_record.field-0.0;
      fewer = omega (arith, l.counted, l.most, c.if-triangles-all.false);
      none_refused = l.none_refused;
      refused_by = next_fault _ b _ _ l.none_refused refl _ here (chunk_long _ b _ here i) _ c.in_err-put_record.ensures.number_is;
    })

pub loop-r-preserved : goal.loop-r-preserved
loop-r-preserved c =
    let l = c.loop-r.invariant in
    let b = c.args.block.now in
    let i : c.loop-r.r-index < length b / 50 = omega (arith, c.as_chunks.ensures.front_len) in
    let here = record_of_chunk _ b _ c.as_chunks.ensures.front i in
    let m = c.in_ok-put_record.ensures in
    record {
      counted = omega (arith, l.counted);
      most = omega (arith, l.most, c.if-triangles-all.false);
      bytes_is = omega (arith, l.bytes_is);
      long = c.put_record.auto.out ∙ l.long;
      put_is = stream_more _ _ c.args.out.now c.loop-r.out _ b _ _ _ _ _ l.put_is (m.put_is refl) here refl l.bytes_is
          (add-one c.loop-r.r-index);
      none_refused = ap (λ (k : ℕ). refusal_of (exponent_of c.args.s) k b) (add-one c.loop-r.r-index)
          ∙ next_fault _ b _ _ l.none_refused refl _ here (chunk_long _ b _ here i) _ m.number_is;
    }

pub returns-then-not-is_empty : goal.returns-then-not-is_empty
returns-then-not-is_empty c =
    let l = c.loop-r.invariant in
    let b = c.args.block.now in
    let some : length c.as_chunks.result.1.now ≢ 0 = eqb-false _ 0 (sym c.is_empty.ensures ∙ c.if-not-is_empty.true) in
    record {
      ahead = c.loop-r.r-index;
      some = λ z. omega arith;
      fewer = omega (arith, l.counted);
      none_refused = l.none_refused;
      refused_by = next_short _ b _ _ l.none_refused refl (omega (arith, c.as_chunks.ensures.front_len));
    }
