-- `omphirun_mark` meets its contract: what C is told of an answer is what the definition has for it. Assumes nothing.
use Rattle.std.proofs.Common.{ap, ◌∙◌}
use Rattle.mark_telling.specs.Told.{outcome_of}
use Rattle.mark_telling.proofs.Told.{told_is}
use Rattle.stage.proofs.omphirun_mark.Goals as goal

pub returns : goal.returns
returns c =
    let t = c.tell_mark.ensures in
    t.2 c.mark.new.grid c.mark.new.totals ∙ ap (λ a. outcome_of a c.mark.new.grid c.mark.new.totals) t.1
    ∙ told_is _ _ _ ∙ c.mark.ensures
