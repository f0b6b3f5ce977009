-- `read_sized` meets its contract: each answer by the tests on the way to it. Assumes nothing.
use mathlib.Core.Path.{◌≡◌, sym, ap, subst, ◌∙◌}
use mathlib.Core.Bool.{Bool}
use Rattle.std.specs.Prelude.{Option}
use mathlib.Core.List.{List}
use lib.ListN.{length, get_or}
use Prim.Native.Nat.{ℕ, ◌+◌, ◌≤◌}
use Rattle.rules.specs.Lattice.{point_count}
use Rattle.job_format.specs.declared.Part.{Part}
use Rattle.job_format.specs.Format.{table_size}
use Rattle.job_format.specs.Table.{entries_of, placed, there, place_of, size_of, bytes_of, grid_fits}
use Rattle.job_reading.specs.Read.{done}
use Rattle.job_reading.proofs.Front.{grid_front}
use Rattle.job_reading.proofs.Front.{front_short, front_many, front_cut, front_kind, front_place, front_grid, front_whole}
use Rattle.job_reading.proofs.read_sized.Goals as goal

-- the test of places, with the number of points
places : (n points size : ℕ) (r : Bool) (s : List ℕ) → points ≡ point_count n →
    r ≡ placed points size (table_size (get_or s 1 0)) (entries_of s) →
    r ≡ placed (point_count n) size (table_size (get_or s 1 0)) (entries_of s)
places n points size r s e h = h ∙ ap (λ (p : ℕ). placed p size (table_size (get_or s 1 0)) (entries_of s)) e

pub returns-then-size-lt2 : goal.returns-then-size-lt2
returns-then-size-lt2 c =
    λ rest e.
    front_short c.args.n c.args.size c.args.front.now rest c.requires.small c.requires.front_of e c.if-size-lt2.true

pub returns-then-count-gt3 : goal.returns-then-count-gt3
returns-then-count-gt3 c =
    let many = rw c.from-count.ensures at c.if-count-gt3.true in
    λ rest e.
    front_many c.args.n c.args.size c.args.front.now rest c.requires.small c.requires.front_of e c.if-size-lt2.false many

pub returns-then-size-count : goal.returns-then-size-count
returns-then-size-count c =
    let few = rw c.from-count.ensures at c.if-count-gt3.false in
    let short = rw c.from-count.ensures at c.if-size-count.true in
    λ rest e.
    front_cut c.args.n c.args.size c.args.front.now rest c.requires.small c.requires.front_of e c.if-size-lt2.false few
    short

pub returns-then-not-kinds_rise : goal.returns-then-not-kinds_rise
returns-then-not-kinds_rise c =
    let few = rw c.from-count.ensures at c.if-count-gt3.false in
    let long = rw c.from-count.ensures at c.if-size-count.false in
    let rise = rw c.from-count.ensures at c.kinds_rise.ensures in
    λ rest e.
    front_kind c.args.n c.args.size c.args.front.now rest c.requires.small c.requires.front_of e c.if-size-lt2.false few long
    (sym rise ∙ c.if-not-kinds_rise.true)

pub returns-then-not-are_placed : goal.returns-then-not-are_placed
returns-then-not-are_placed c =
    let few = rw c.from-count.ensures at c.if-count-gt3.false in
    let long = rw c.from-count.ensures at c.if-size-count.false in
    let rise = rw c.from-count.ensures at c.kinds_rise.ensures in
    let put = rw c.from-count.ensures at c.are_placed.ensures in
    λ rest e.
    let kinds = sym rise ∙ c.if-not-kinds_rise.false in
    let fit = places c.args.n _ c.args.size _ c.args.front.now c.point_count.ensures.0 put in
    front_place c.args.n c.args.size c.args.front.now rest c.requires.small c.requires.front_of e c.if-size-lt2.false few
    long kinds (sym fit ∙ c.if-not-are_placed.true)

pub part_fits-requires : goal.part_fits-requires
part_fits-requires c =
    let few = rw c.from-count.ensures at c.if-count-gt3.false in
    let long = rw c.from-count.ensures at c.if-size-count.false in
    let rise = rw c.from-count.ensures at c.kinds_rise.ensures in
    let put = rw c.from-count.ensures at c.are_placed.ensures in
    let found_is = rw c.from-count.ensures at c.find-grid.ensures in
    let s = c.args.front.now in
    let kinds = sym rise ∙ c.if-not-kinds_rise.false in
    let fit = places c.args.n _ c.args.size _ s c.point_count.ensures.0 put in
    let f = found_is in (
      c.requires.small,
      λ t.
          let w = grid_front c.args.n c.args.size s c.requires.small c.requires.front_of few long kinds
          (sym fit ∙ c.if-not-are_placed.false)
          (sym (ap (λ (p : Option Part). there p) f) ∙ t) in
          (ap (λ (p : Option Part). size_of p) f ∙ w.0, subst (λ (p : Option Part). place_of p + size_of p ≤ length s) (sym f) w.1),
    )

pub returns-then-not-part_fits : goal.returns-then-not-part_fits
returns-then-not-part_fits c =
    let few = rw c.from-count.ensures at c.if-count-gt3.false in
    let long = rw c.from-count.ensures at c.if-size-count.false in
    let rise = rw c.from-count.ensures at c.kinds_rise.ensures in
    let put = rw c.from-count.ensures at c.are_placed.ensures in
    let found_is = rw c.from-count.ensures at c.find-grid.ensures in
    λ rest e.
    let s = c.args.front.now in
    let kinds = sym rise ∙ c.if-not-kinds_rise.false in
    let fit = places c.args.n _ c.args.size _ s c.point_count.ensures.0 put in
    let grid = c.part_fits.ensures ∙ ap (λ (p : Option Part). grid_fits c.args.n (there p) (bytes_of s p)) found_is in
    front_grid c.args.n c.args.size c.args.front.now rest c.requires.small c.requires.front_of e c.if-size-lt2.false few
    long kinds
    (sym fit ∙ c.if-not-are_placed.false) (sym grid ∙ c.if-not-part_fits.true)

pub returns : goal.returns
returns c =
    let few = rw c.from-count.ensures at c.if-count-gt3.false in
    let long = rw c.from-count.ensures at c.if-size-count.false in
    let rise = rw c.from-count.ensures at c.kinds_rise.ensures in
    let put = rw c.from-count.ensures at c.are_placed.ensures in
    let found_is = rw c.from-count.ensures at c.find-grid.ensures in
    let contents = rw c.from-count.ensures at c.contents_of.ensures in
    λ rest e.
    let s = c.args.front.now in
    let kinds = sym rise ∙ c.if-not-kinds_rise.false in
    let fit = places c.args.n _ c.args.size _ s c.point_count.ensures.0 put in
    let grid = c.part_fits.ensures ∙ ap (λ (p : Option Part). grid_fits c.args.n (there p) (bytes_of s p)) found_is in
    ap done contents
    ∙ front_whole c.args.n c.args.size c.args.front.now rest c.requires.small c.requires.front_of e c.if-size-lt2.false few
    long kinds
    (sym fit ∙ c.if-not-are_placed.false) (sym grid ∙ c.if-not-part_fits.false)
