use mathlib.Core.Path.{◌≡◌, sym, ◌∙◌}
use native.Mathlib.Omega.{arith}
use lib.ListN.{drop, length-set, length-drop}
use lib.Seq.{take_all}
use mir.Syntax.{w32}
use mir.ValLaws.{to_z-of_z}
use Rattle.text.proofs.Numbers.{numbers_next, numbers_whole}
use Rattle.text.proofs.words.numbers_at.Goals as goal

pub loop-k-preserved : goal.loop-k-preserved
loop-k-preserved c =
    let l = c.loop-k in
    let s = c.args in
    let e = to_z-of_z w32 _ (record { sfits = c.i32_at.type_inv }) ∙ c.i32_at.ensures in
    (length-set l.c l.k _ ∙ l.invariant.0, numbers_next l.c s.s.now s.at l.k _ e (omega arith) l.invariant.1)

pub returns : goal.returns
returns c =
    let l = c.loop-k in
    let a = c.args in
    let e : l.k ≡ 9 = omega arith in
    sym (take_all 9 l.c (omega (arith, l.invariant.0))) ∙ rw e at l.invariant.1 ∙ sym
    (numbers_whole (drop a.at a.s.now) (omega (arith, length-drop a.at a.s.now, c.requires)))
