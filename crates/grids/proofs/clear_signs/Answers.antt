-- `clear_signs` meets its contract: a grid without signs is left as it is, and is what it is without them. Assumes nothing.
use mathlib.Core.Path.{ap, ◌∙◌}
use Rattle.std.specs.Prelude.{Some}
use Rattle.grids.proofs.Reading.{read_some, read_unsigned}
use Rattle.grids.proofs.Unsigning.{unsigned_same}
use Rattle.grids.proofs.clear_signs.Goals as goal

pub returns-else-signed : goal.returns-else-signed
returns-else-signed c =
    let n = c.args.n in
    let g = c.args.grid.now in
    let none = read_unsigned n g (c.requires.1 ∙ ap Some c.if-signed.false) in
    unsigned_same n g c.requires.0.long (read_some n g _ c.requires.1) none
