use Rattle.std.proofs.Common.{rules, ◌≡◌, ◌-◌, ◌∙◌, refl}
use Rattle.std.proofs.lemmas.Iterator.{YieldsList-from_range}
use Rattle.std.proofs.lemmas.Iterator.Search.{all_from_yields_List}
use Rattle.halving.specs.Clear.{layer_clear, box_clear}
use Rattle.halving.proofs.Clear.{all_range}
use Rattle.halving.proofs.halves.is_clear.Goals as goal

pub returns : goal.returns
unfolding box_clear
returns c =
    let layers = layer_clear c.args.n c.args.b c.args.work.now in
    let k = c.args.b.lo.k in
    let count = c.args.b.hi.k - k in
    all_from_yields_List layers _ _ _ c.all.ensures.ran (YieldsList-from_range k c.args.b.hi.k count refl refl) (λ x b q h. search rules)
    ∙ all_range layers k count
