use mathlib.Core.Path.{◌≡◌, sym, ap, ◌∙◌}
use mathlib.Core.Bool.{true, false}
use Prim.Native.Nat.{◌≤◌}
use native.Mathlib.Omega.{arith}
use borrow.Author.Rules.{rules}
use lib.IntN.{pos}
use lib.ListN.{length, get_or, drop, drop_of_length-le}
use mir.Syntax.{w32}
use Rattle.marking.proofs.OutOfRange.{first_here, first_later}
use Rattle.marking.specs.Ranges.{in_range}
use Rattle.marking.specs.OutOfRange.{first_out}
use Rattle.meeting.proofs.Positive.{Plain}
use Rattle.ranging.proofs.first_out.Goals as goal

pub returns-then-not-in_range : goal.returns-then-not-in_range
returns-then-not-in_range c =
    let e : Plain w32 (get_or c.args.c.now c.loop-k.k (pos 0)) = search rules in
    let h : in_range c.args.l (get_or c.args.c.now c.loop-k.k (pos 0)) ≡ false = cc c.if-not-in_range.true in
    sym (first_here c.args.l c.args.c.now c.loop-k.k (omega arith) h) ∙ c.loop-k.invariant

pub loop-k-preserved : goal.loop-k-preserved
loop-k-preserved c =
    let e : Plain w32 (get_or c.args.c.now c.loop-k.k (pos 0)) = search rules in
    let h : in_range c.args.l (get_or c.args.c.now c.loop-k.k (pos 0)) ≡ true = cc c.if-not-in_range.false in
    sym (first_later c.args.l c.args.c.now c.loop-k.k (omega arith) h) ∙ c.loop-k.invariant

pub returns : goal.returns
unfolding first_out
returns c =
    let k : length c.args.c.now ≤ c.loop-k.k = omega arith in
    let e : first_out c.args.l (drop c.loop-k.k c.args.c.now) ≡ 0 = ap (first_out c.args.l) (drop_of_length-le c.args.c.now k) in
    omega (arith, c.loop-k.invariant)
