-- `masks` gives the first row that applies, and writes the pictures where none does. Assumes nothing.
use mathlib.Core.Path.{◌≡◌, sym, ap, ap₂, ◌∙◌}
use mathlib.Core.List.{List}
use Prim.Native.Nat.{ℕ, ◌+◌, ◌*◌}
use native.Mathlib.Numerals.{add-one}
use borrow.Author.Tests.{lt-ltb, le-ltb}
use lib.ListN.{length}
use Rattle.rules.specs.Lists.{each, upto}
use Rattle.rules.specs.Grid.{inside}
use Rattle.lattice.specs.declared.level.Level.{Level}
use Rattle.lattice.specs.Levels.{cells_of}
use Rattle.refusals.specs.Judged.{Held}
use Rattle.text.specs.Text.{Put}
use Rattle.masks.specs.Mask.{masks, mask_at, mask_size}
use Rattle.masks.specs.Call.{Outcome, done, masks_rows, masks_call}
use Rattle.mask_call.proofs.Parted.{put_front}
use Rattle.masks.proofs.Shown.{masks_are, masks_length}
use Rattle.mask_call.proofs.masks.Goals as goal

module _ (l : Level) (g : List ℕ) where
  -- the pictures' length, as the code has it
  room : (w size : ℕ) → w ≡ cells_of l + 1 → size ≡ mask_size w → length (masks (cells_of l) (inside (cells_of l) g)) ≡ w * size
  room w size e f = masks_length (cells_of l) g ∙ rw (f, e, add-one (cells_of l))

  whole : (w r : ℕ) (o a : List ℕ) → w ≡ cells_of l + 1 → Put o 0 (each (λ k. mask_at g (w * w * k) w) (upto 0 w)) a r
      → ◌≡◌ {A = Outcome} (record { number = 0; bytes = r; out = a }) (done (masks (cells_of l) (inside (cells_of l) g)) o)
  whole w r o a e p =
      let q = put_front (rw (e, add-one (cells_of l), ← masks_are (cells_of l) g) at p) in
      ap₂ (λ (k : ℕ) (x : List ℕ). record { number = 0; bytes = k; out = x }) q.0 q.1

pub returns-then-out-w : goal.returns-then-out-w
unfolding masks_rows masks_call
returns-then-out-w c =
    let h : Held c.args.level c.args.grid.now c.in_ok-judge.field-0 = rw c.in_ok-judge.was at c.judge.ensures in
    let grid = sym (rw c.cells-n.ensures at c.is_grid.ensures) ∙ c.if-not-is_grid.false in
    let fit = sym (rw c.cells-n.ensures at c.signs_fit.ensures) ∙ c.if-not-signs_fit.false in
    let size = room c.in_ok-judge.field-0 c.args.grid.now _ _ (ap (λ (n : ℕ). n + 1) c.cells-n.ensures) c.mask_size.ensures.0 in
    simp (h.known, h.is, le-ltb _ _ h.long, grid, fit, lt-ltb _ _ (rw (← size) at c.if-out-w.true))

pub returns : goal.returns
unfolding masks_rows masks_call
returns c =
    let h : Held c.args.level c.args.grid.now c.in_ok-judge.field-0 = rw c.in_ok-judge.was at c.judge.ensures in
    let grid = sym (rw c.cells-n.ensures at c.is_grid.ensures) ∙ c.if-not-is_grid.false in
    let fit = sym (rw c.cells-n.ensures at c.signs_fit.ensures) ∙ c.if-not-signs_fit.false in
    let w = ap (λ (n : ℕ). n + 1) c.cells-n.ensures in
    let size = room c.in_ok-judge.field-0 c.args.grid.now _ _ w c.mask_size.ensures.0 in
    simp (h.known, h.is, le-ltb _ _ h.long, grid, fit, le-ltb _ _ (rw (← size) at c.if-out-w.false))
    (whole c.in_ok-judge.field-0 c.args.grid.now _ _ _ _ w c.put_masks.ensures)
