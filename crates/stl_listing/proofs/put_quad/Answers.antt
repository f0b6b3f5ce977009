-- `put_quad` meets its contract: the corners are those of the quad, in the one turn or in the other. Assumes nothing.
use mathlib.Core.Path.{sym, subst}
use Rattle.stl_records.specs.Records.{CellInLattice}
use Rattle.stl_listing.proofs.Corners.{down_placed, below_placed}
use Rattle.stl_listing.proofs.put_quad.Goals as goal

pub corner-first-requires : goal.corner-first-requires
corner-first-requires c =
    record {
      side_least = c.requires.side_least;
      scale = c.requires.scale;
      placed = subst (CellInLattice c.args.side) (sym c.down.ensures)
          (down_placed c.args.side c.next-u.result c.down-below.result
          (below_placed c.args.a c.next-u.result c.next.result c.args.q c.down-below.result c.next-u.ensures c.next.ensures
          c.down-below.ensures c.args.side c.requires.surrounded));
    }

pub corner-second-requires : goal.corner-second-requires
corner-second-requires c =
    record {
      side_least = c.requires.side_least;
      scale = c.requires.scale;
      placed = below_placed c.args.a c.next-u.result c.next.result c.args.q c.down-below.result c.next-u.ensures
          c.next.ensures c.down-below.ensures c.args.side c.requires.surrounded;
    }
