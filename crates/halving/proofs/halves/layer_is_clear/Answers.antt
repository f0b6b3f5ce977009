use Rattle.std.proofs.Common.{rules, ◌≡◌, ◌-◌, ◌∙◌, refl}
use Rattle.std.specs.List.{list_all, range_with_len}
use Rattle.std.proofs.lemmas.Iterator.{YieldsList-from_range}
use Rattle.std.proofs.lemmas.Iterator.Search.{all_from_yields_List}
use Rattle.halving.specs.Clear.{box_row_clear, layer_clear}
use Rattle.halving.proofs.Clear.{all_range}
use Rattle.halving.proofs.halves.layer_is_clear.Goals as goal

pub returns : goal.returns
unfolding layer_clear
returns c =
    let rows = box_row_clear c.args.n c.args.b c.args.work.now c.args.k in
    let j = c.args.b.lo.j in
    let count = c.args.b.hi.j - j in
    all_from_yields_List rows _ _ _ c.all.ensures.ran (YieldsList-from_range j c.args.b.hi.j count refl refl) (λ x b q h. search rules)
    ∙ all_range rows j count
