use mathlib.Core.Path.{◌≡◌, sym, ap, ◌∙◌}
use mathlib.Core.Bool.{Bool, true, false, not, ◌||◌}
use mathlib.Core.List.{List}
use borrow.Author.Tests.{not-true, not-false}
use Prim.Native.Nat.{ℕ, ◌<◌}
use native.Mathlib.Omega.{arith}
use native.Mathlib.Numerals.{add-one}
use lib.ListN.{get_or, take, length, length-take}
use Rattle.std.proofs.lemmas.List.{get_or-take}
use Rattle.rules.specs.declared.Axis.TheVariants.{X}
use Rattle.rules.specs.Lists.{◌⊕◌}
use Rattle.rules.specs.Lattice.{point_count, point_of}
use Rattle.rules.specs.Grid.{has, says_inside, marks}
use Rattle.rules.specs.Signs.{sign}
use Rattle.rules.proofs.Lists.{range_more, range_fails}
use Rattle.signing.proofs.Rows.{first_outside, sign_next}
use Rattle.accepting.proofs.Loops.{said_at, said_start}
use Rattle.accept_call.proofs.said_inside.Goals as goal

-- the test of a byte, by the sign that was run up to it
wrong : (n : ℕ) (w : List ℕ) (p : ℕ) (x : Bool) {b : Bool} → x ≡ sign (marks n w) (point_of n p) → not (says_inside (get_or w p 0)) || x ≡ b → said_at n w p ≡ b
wrong n w p x e f = ap (λ (y : Bool). not (says_inside (get_or w p 0)) || y) (sym e) ∙ f

-- a byte of the first so many, and its place
first_of : (n k : ℕ) (w : List ℕ) (p : ℕ) → k ≡ point_count n → p < length (take k w) → (p < point_count n) × (get_or (take k w) p 0 ≡ get_or w p 0)
first_of n k w p e h = let l = length-take k w in (omega arith, get_or-take k w p 0 (omega arith))

pub loop-b-init : goal.loop-b-init
loop-b-init c =
    let n = c.args.n in
    let w = c.args.work.now in
    (sym (first_outside n (marks n w)), said_start n w)

pub returns-then-says_wrongly : goal.returns-then-says_wrongly
returns-then-says_wrongly c =
    let n = c.args.n in
    let w = c.args.work.now in
    let p = c.loop-b.b-index in
    let f = first_of n _ w p c.point_count.ensures.0 c.loop-b-test.true in
    let said = rw f.1 at c.says_wrongly.ensures in
    let e : said_at n w p ≡ false = wrong n w p c.loop-b.inside c.loop-b.invariant.0 (not-true _ (sym said ∙ c.if-says_wrongly.true)) in
    sym (range_fails (said_at n w) p (point_count n) f.0 e) ∙ c.loop-b.invariant.1

pub loop-b-preserved : goal.loop-b-preserved
loop-b-preserved c =
    let n = c.args.n in
    let w = c.args.work.now in
    let p = c.loop-b.b-index in
    let f = first_of n _ w p c.point_count.ensures.0 c.loop-b-test.true in
    let said = rw f.1 at c.says_wrongly.ensures in
    let e : said_at n w p ≡ true = wrong n w p c.loop-b.inside c.loop-b.invariant.0 (not-false _ (sym said ∙ c.if-says_wrongly.false)) in
    let next = sign_next n w c.requires.sized.long c.requires.is_grid c.requires.even p f.0 in
    let across = rw f.1 at c.across-inside.ensures in (
      rw add-one (across ∙ ap (λ (b : Bool). b ⊕ has X (get_or w p 0)) c.loop-b.invariant.0 ∙ sym next),
      rw add-one (range_more (said_at n w) p (point_count n) f.0 e ∙ c.loop-b.invariant.1),
    )
