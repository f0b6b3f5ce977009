-- `signs_fit` asks for point (0,0,0), and for all points layer by layer. Assumes nothing.
use Rattle.std.proofs.Common.{rules, arith, refl, sym, ap, ℕ, not, ◌∙◌, ◌+◌}
use Rattle.std.proofs.lemmas.Iterator.{YieldsList-from_range}
use Rattle.std.proofs.lemmas.Iterator.Search.{all_from_yields_List}
use borrow.Author.Tests.{tests}
use Rattle.std.specs.List.{list_all, range_with_len}
use native.Mathlib.Numerals.{add-one}
use Rattle.rules.specs.Lists.{all_of}
use Rattle.rules.specs.Lattice.{points}
use Rattle.rules.specs.Grid.{marks, inside}
use Rattle.grids.proofs.Library.{points_by_ranges}
use Rattle.surfacing.specs.Fit.{point_fits}
use Rattle.surfacing.proofs.Fits.{origin_inside, origin_outside}
use Rattle.fitting.proofs.signs_fit.Goals as goal

pub returns-then-not-is_inside : goal.returns-then-not-is_inside
returns-then-not-is_inside c =
    let n = c.args.n in
    let g = c.args.grid.now in
    let f = point_fits n (marks n g) (inside n g) in
    all_from_yields_List
    (λ k. list_all (λ j. list_all (λ i. f (record { i = i; j = j; k = k })) (range_with_len 0 (n + 1))) (range_with_len 0 (n + 1))) _ _ c.all.result
    c.all.ensures.ran (YieldsList-from_range 0 (n + 1) (n + 1) refl (omega arith)) (λ x b q k. search (rules, tests))
    ∙ points_by_ranges f (n + 1) ∙ ap (λ (m : ℕ). all_of f (points m)) (add-one n)
    ∙ origin_outside n (marks n g) g (sym c.is_inside.ensures ∙ c.if-not-is_inside.true)

pub returns-else-not-is_inside : goal.returns-else-not-is_inside
returns-else-not-is_inside c =
    ap not c.if-not-is_inside.false ∙ origin_inside _ _ c.args.grid.now (sym c.is_inside.ensures ∙ c.if-not-is_inside.false)
