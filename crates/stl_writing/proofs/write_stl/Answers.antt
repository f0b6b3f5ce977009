-- `write_stl`: the rows behind the scale's, and what the file is written with. Assumes nothing.
use Rattle.std.proofs.Common.{sym, ap, ◌∙◌, le-ltb, w32}
use mir.ValLaws.{to_z-of_z}
use Rattle.lattice.proofs.LevelFacts.{cells_most, side_whole}
use Rattle.rounding.specs.Scales.{scale_of}
use Rattle.rounding.proofs.Scaled.{scale_told}
use Rattle.stl_writing.specs.Call.{write_rows, write_call}
use Rattle.stl_writing.proofs.write_stl.Goals as goal

pub returns-then-not-is_grid : goal.returns-then-not-is_grid
unfolding write_rows write_call
returns-then-not-is_grid c =
    let held = c.in_ok-l.ensures in
    let scale = scale_told c.args.e c.in_ok-s.s (sym c.in_ok-s.ensures.ok_part ∙ c.scale_of.ensures ∙ ap scale_of (to_z-of_z w32 _ c.ranges.e)) in
    let none = sym (rw c.cells-n.ensures at c.is_grid.ensures) ∙ c.if-not-is_grid.true in
    simp (held.known, held.is, le-ltb _ _ held.long, scale.good, none)

pub returns-then-not-signs_fit : goal.returns-then-not-signs_fit
unfolding write_rows write_call
returns-then-not-signs_fit c =
    let held = c.in_ok-l.ensures in
    let scale = scale_told c.args.e c.in_ok-s.s (sym c.in_ok-s.ensures.ok_part ∙ c.scale_of.ensures ∙ ap scale_of (to_z-of_z w32 _ c.ranges.e)) in
    let grid = sym (rw c.cells-n.ensures at c.is_grid.ensures) ∙ c.if-not-is_grid.false in
    let out = sym (rw c.cells-n.ensures at c.signs_fit.ensures) ∙ c.if-not-signs_fit.true in
    simp (held.known, held.is, le-ltb _ _ held.long, scale.good, grid, out)

pub write_file-requires : goal.write_file-requires
write_file-requires c =
    let scale = scale_told c.args.e c.in_ok-s.s (sym c.in_ok-s.ensures.ok_part ∙ c.scale_of.ensures ∙ ap scale_of (to_z-of_z w32 _ c.ranges.e)) in
    let grid = sym (rw c.cells-n.ensures at c.is_grid.ensures) ∙ c.if-not-is_grid.false in
    rw (c.cells-n.ensures, c.side.ensures) (record {
      sized = record { small = cells_most c.in_ok-l.l; long = c.in_ok-l.ensures.long };
      side_is = side_whole c.in_ok-l.l;
      scale = scale.small;
      is_grid = grid;
    })
