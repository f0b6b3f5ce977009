-- `lines` are the nine bytes of each entry. Assumes nothing.
use Rattle.std.proofs.Common.{◌≡◌, ◌+◌, ◌-◌, ◌*◌, ◌/◌, ◌∙◌, length, take, drop, ap, arith}
use Rattle.std.specs.Simd.{first_chunks}
use Rattle.std.proofs.lemmas.List.{length-take-le, length-drop}
use Rattle.job_tables.proofs.Tables.{lines_are}
use Rattle.job_tables.proofs.lines.Goals as goal

pub returns : goal.returns
returns c =
    let rest = drop 2 c.args.file.now in
    let n = c.args.n in
    let size : 2 + 9 * n - 2 ≡ 9 * n = omega arith in
    let long = length-take-le (9 * n) rest (omega (arith, length-drop 2 c.args.file.now)) in
    let count : length (take (9 * n) rest) / 9 ≡ n = omega (arith, long) in
    let front = c.as_chunks.ensures.front ∙ ap (λ m. first_chunks 9 (length (take m rest) / 9) (take m rest)) size
    ∙ ap (λ m. first_chunks 9 m (take (9 * n) rest)) count in
    record {
      many = c.as_chunks.ensures.front_len ∙ ap (λ m. length (take m rest) / 9) size ∙ count;
      entries = rw front (lines_are c.args.file.now 2 n c.requires.1);
    }
