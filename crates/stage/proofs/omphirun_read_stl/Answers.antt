-- `omphirun_read_stl` meets its contract: what C is told of an answer is what the definition has for it. Assumes nothing.
use Rattle.std.proofs.Common.{ap, ◌∙◌}
use mir.Syntax.{w32}
use mir.ValLaws.{to_z-of_z}
use Rattle.stl_reading.specs.Call.{read_call}
use Rattle.file_telling.specs.Told.{outcome_of}
use Rattle.file_telling.proofs.Told.{told_is}
use Rattle.stage.proofs.omphirun_read_stl.Goals as goal

pub returns : goal.returns
returns c =
    let t = c.tell_read_stl.ensures in
    t.2 c.read_stl.new.list ∙ ap (λ a. outcome_of a c.read_stl.new.list) t.1 ∙ told_is _ _ ∙ c.read_stl.ensures
    ∙ ap (λ e. read_call e c.args.file.now c.args.list.now) (to_z-of_z w32 _ c.ranges.e)
