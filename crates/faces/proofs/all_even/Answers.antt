-- `all_even` tells of the lower faces of all cells, layer by layer. Assumes nothing.
use Rattle.std.proofs.Common.{rules, arith, refl, sym, ◌∙◌}
use Rattle.std.proofs.lemmas.Iterator.{YieldsList-from_range}
use Rattle.std.proofs.lemmas.Iterator.Search.{all_from_yields_List}
use borrow.Author.Tests.{tests}
use Rattle.std.specs.List.{list_all, range_with_len}
use Rattle.rules.specs.Grid.{marks}
use Rattle.grids.proofs.Library.{points_by_ranges}
use Rattle.faces.specs.Even.{lower_even}
use Rattle.faces.proofs.Told.{even_cells}
use Rattle.faces.proofs.all_even.Goals as goal

pub returns : goal.returns
returns c =
    let n = c.args.n in
    let E = marks n c.args.grid.now in
    all_from_yields_List
    (λ k. list_all (λ j. list_all (λ i. lower_even E (record { i = i; j = j; k = k })) (range_with_len 0 n)) (range_with_len 0 n)) _ _ c.all.result
    c.all.ensures.ran (YieldsList-from_range 0 n n refl (omega arith)) (λ x b q k. search (rules, tests))
    ∙ points_by_ranges (lower_even E) n ∙ sym (even_cells n E)
