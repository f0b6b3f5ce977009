use Rattle.std.proofs.Common.{arith, rules, ◌≡◌, ◌-◌, sym, ◌∙◌, ap, ℕ, eqb, take, drop, sum_by}
use Rattle.std.proofs.lemmas.Grind.{common_steps}
use Rattle.rules.specs.declared.Axis.TheVariants.{X}
use Rattle.rules.specs.Patch.{side}
use Rattle.byte.specs.Byte.{low}
use Rattle.halving.specs.Clear.{row_clear}
use Rattle.halving.proofs.Clear.{row_fits_law, row_tells}
use Rattle.halving.proofs.halves.row_is_clear.Goals as goal

pub returns : goal.returns
returns c =
    let from = c.number_of-from.result in
    let fits = row_fits_law c.args.n c.args.b c.args.work.now c.args.j c.args.k c.requires.sized.long c.requires.fits c.requires.row c.requires.layer in
    let held : c.loop-byte.held ≡ sum_by low (take (side c.args.b X) (drop from c.args.work.now)) = grind (arith, common_steps) in
    ap (λ (s : ℕ). eqb s 0) held ∙ row_tells c.args.work.now from (side c.args.b X) (omega (arith, fits))
    ∙ ap (λ (i : ℕ). row_clear c.args.work.now i (side c.args.b X)) c.number_of-from.ensures.0
