-- `Triangle::normal` crosses two differences of lattice coordinates, which are small enough for the products to fit. Assumes nothing.
use mathlib.Core.Path.{◌∙◌}
use Rattle.triangles.specs.Vectors.{cross}
use Rattle.triangles.specs.Axes.{normal}
use Rattle.triangles.proofs.Sizes.{minus_size}
use borrow.Author.Rules.{rules}
use Rattle.triangles.proofs.Triangle.normal.Goals as goal

pub cross-requires : goal.cross-requires
cross-requires c = record {
  each = rw c.minus-p.ensures (minus_size (search rules) (search rules));
  each_2 = rw c.minus-q.ensures (minus_size (search rules) (search rules));
}

pub returns : goal.returns
unfolding normal
returns c = c.cross.ensures ∙ (λ i. cross (c.minus-p.ensures i) (c.minus-q.ensures i))
