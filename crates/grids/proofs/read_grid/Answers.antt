-- `read_grid` meets its contract: a byte above 15 makes the buffer no grid, and where there is none it is one exactly where every mark fits. Assumes
-- nothing.
use mathlib.Core.Path.{◌≡◌, sym, ap, ◌∙◌}
use mathlib.Core.Bool.{true, false}
use mathlib.Core.List.{List}
use Prim.Native.Nat.{ℕ, max, ◌≤◌}
use native.Mathlib.Omega.{arith}
use lib.Dec.{ltb}
use lib.ListN.{take, length}
use Rattle.std.specs.List.{fold}
use Rattle.rules.specs.Lattice.{point_count}
use Rattle.std.specs.Prelude.{Some}
use Rattle.grids.specs.Reading.{largest}
use Rattle.grids.proofs.Reading.{largest_fold, low_enough, too_high, read_is}
use Rattle.grids.proofs.read_grid.Goals as goal

-- the largest byte that was found
most_is : (m c n : ℕ) (g : List ℕ) → m ≡ fold max 0 (take c g) → c ≡ point_count n → point_count n ≤ length g → m ≡ largest (point_count n) g
most_is m c n g e h long = e ∙ ap (λ (k : ℕ). fold max 0 (take k g)) h ∙ largest_fold (point_count n) g long

pub returns-then-most-gt15 : goal.returns-then-most-gt15
returns-then-most-gt15 c =
    let e = most_is _ _ c.args.n c.args.grid.now c.largest-most.ensures c.point_count.ensures.0 c.requires.long in
    sym (read_is c.args.n c.args.grid.now false (too_high c.args.n c.args.grid.now (omega (arith, e, c.if-most-gt15.true))))

pub returns-then-not-all_fit : goal.returns-then-not-all_fit
returns-then-not-all_fit c =
    let e = most_is _ _ c.args.n c.args.grid.now c.largest-most.ensures c.point_count.ensures.0 c.requires.long in
    let l = low_enough c.args.n c.args.grid.now (omega (arith, e, c.if-most-gt15.false)) in
    sym (read_is c.args.n c.args.grid.now false (l ∙ sym c.all_fit.ensures ∙ c.if-not-all_fit.true))

pub returns : goal.returns
returns c =
    let e = most_is _ _ c.args.n c.args.grid.now c.largest-most.ensures c.point_count.ensures.0 c.requires.long in
    let l = low_enough c.args.n c.args.grid.now (omega (arith, e, c.if-most-gt15.false)) in
    ap (λ (m : ℕ). Some (ltb 7 m)) e ∙ sym (read_is c.args.n c.args.grid.now true (l ∙ sym c.all_fit.ensures ∙ c.if-not-all_fit.false))
