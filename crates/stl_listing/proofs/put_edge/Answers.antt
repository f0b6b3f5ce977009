-- `put_edge` meets its contract: the quad of a marked edge, and nothing of another. Assumes nothing.
use mathlib.Core.Path.{◌≡◌, refl, sym, ap, ◌∙◌}
use mathlib.Core.Bool.{Bool, cond}
use mathlib.Core.List.{[]}
use Prim.Native.Nat.{◌*◌}
use native.Mathlib.Nat.{add-zero}
use native.Mathlib.Omega.{arith}
use lib.ListN.{length}
use Rattle.rules.specs.Grid.{value}
use Rattle.octets.specs.Octets.{puts}
use Rattle.octets.proofs.Puts.{puts_none}
use Rattle.rounding.specs.Scales.{exponent_of}
use Rattle.stl_records.specs.File.{facing, quad_bytes}
use Rattle.stl_listing.specs.Listing.{edge, byte_edge}
use Rattle.stl_listing.proofs.Edges.{edge_long}
use Rattle.stl_listing.proofs.put_edge.Goals as goal

pub returns-then-not-bit : goal.returns-then-not-bit
returns-then-not-bit c = simp (sym c.bit.ensures ∙ c.if-not-bit.true, add-zero, puts_none) (refl, refl)

pub put_quad-requires : goal.put_quad-requires
put_quad-requires c =
    let h = sym c.bit.ensures ∙ c.if-not-bit.false in
    let l : length (byte_edge c.args.side (exponent_of c.args.s) c.args.b c.args.upward c.args.a c.args.q) ≡ 100 =
    edge_long c.args.side (exponent_of c.args.s) c.args.b c.args.upward c.args.a c.args.q ∙ ap (λ (t : Bool). 100 * value t 1) h in
    record {
      side_least = c.requires.side_least;
      scale = c.requires.scale;
      surrounded = c.requires.surrounded h;
      out_room = omega (arith, l, c.requires.out_room);
    }

pub returns : goal.returns
returns c =
    let h = sym c.bit.ensures ∙ c.if-not-bit.false in
    let e = exponent_of c.args.s in
    let l : length (byte_edge c.args.side e c.args.b c.args.upward c.args.a c.args.q) ≡ 100 =
    edge_long c.args.side e c.args.b c.args.upward c.args.a c.args.q ∙ ap (λ (t : Bool). 100 * value t 1) h in (
      omega (arith, l),
      c.put_quad.ensures
          ∙ ap (puts c.args.out.now c.args.at)
          (sym (ap (λ (t : Bool). cond t (quad_bytes c.args.side e (facing (λ p. c.args.upward) (edge c.args.a c.args.q))) []) h)),
    )
