-- Some point of a box, asked by ranges of numbers. Assumes nothing.
use mathlib.Core.Path.{◌≡◌, refl, sym, ap, ◌∙◌}
use mathlib.Core.Bool.{Bool, false, ◌||◌}
use mathlib.Core.List.{List, [], ◌∷◌}
use mathlib.Core.Logic.{◌⊎◌, ⊎_elim}
use Prim.Native.Nat.{ℕ, zero, suc, ◌+◌, ◌-◌, ◌≤◌, ◌<◌}
use native.Mathlib.Omega.{arith}
use lib.ListN.{get_or, length}
use native.Mathlib.Numerals.{add-one}
use Rattle.std.specs.List.{list_any, range_with_len}
use Rattle.rules.specs.declared.Axis.TheVariants.{Y, Z}
use Rattle.rules.specs.declared.Point.{Point}
use Rattle.rules.specs.declared.Box.{Box}
use Rattle.rules.specs.Lists.{any_of, upto}
use Rattle.rules.specs.Lattice.{point_number}
use Rattle.rules.specs.Patch.{extent}
use Rattle.rules.proofs.Bits.{is_false}
use Rattle.totals.specs.Totals.{box_points}
use Rattle.asking.specs.Walk.{row_any, layer_any}
use Rattle.asking.proofs.Some.{any_like, in_turn, box_found}
use Rattle.box_looking.specs.Told.{told_at, row_told, layer_told}

any_range : (f : ℕ → Bool) (a n : ℕ) → list_any f (range_with_len a n) ≡ any_of f (upto a n)
any_range f a zero = refl
any_range f a (suc n) = ap (λ (b : Bool). f a || b) (rw add-one (any_range f (suc a) n))

pub box_by_ranges : (f : Point → Bool) (b : Box) → list_any (layer_told f b) (range_with_len b.lo.k (b.hi.k - b.lo.k)) ≡ any_of f (box_points b)
unfolding row_any layer_any
box_by_ranges f b =
    any_range (layer_told f b) b.lo.k (b.hi.k - b.lo.k)
    ∙ any_like (extent b Z) (λ k.
    any_range (row_told f b k) b.lo.j (b.hi.j - b.lo.j)
    ∙ any_like (extent b Y) (λ j. any_range (λ i. f (record { i = i; j = j; k = k })) b.lo.i (b.hi.i - b.lo.i)))
    ∙ sym (in_turn f b)

-- the numbers from a on, below b: what is held of the first, and of those after it
pub first_and_rest : (f : ℕ → Bool) (a b : ℕ) (x : Bool) → a < b → f a ≡ x →
    list_any f (range_with_len a (b - a)) ≡ (x || list_any f (range_with_len (a + 1) (b - (a + 1))))
first_and_rest f a b x h q =
    let e : b - a ≡ suc (b - (a + 1)) = omega arith in
    ap (λ m. list_any f (range_with_len a m)) e ∙ ap (λ (y : Bool). y || list_any f (range_with_len (a + 1) (b - (a + 1)))) q

at_place : {A : Type 0} (s : List A) (p : ℕ) (d x : A) → p < length s → get_or s p d ≡ get_or s p x
at_place [] p d x h = absurd (omega (arith, h))
at_place (y ∷ s) zero d x h = refl
at_place (y ∷ s) (suc p) d x h = at_place s p d x (omega (arith, h))

-- what stands at a point's place in a row, given the number of the row's first, is held of the point
told_there : {A : Type 0} (f : A → Bool) (n : ℕ) (s : List A) (d : A) (i j k from : ℕ) → from ≡ point_number n (record { i = 0; j = j; k = k }) →
    (x : A) → from + i < length s → x ≡ get_or s (from + i) x → told_at f n s d (record { i = i; j = j; k = k }) ≡ f x
told_there f n s d i j k from e x h at =
    let p : point_number n (record { i = i; j = j; k = k }) ≡ from + i = omega (arith, e) in
    ap (λ q. f (get_or s q d)) p ∙ ap f (at_place s (from + i) d x h ∙ sym at)

-- what is held of point y of the row (j, k)
abbrev in_row : {A : Type 0} → (A → Bool) → ℕ → List A → A → ℕ → ℕ → ℕ → Bool
in_row f n s d j k y = told_at f n s d (record { i = y; j = j; k = k })

-- of a row's points from i on: what is held of point i's item, and of the points after it
pub row_first : {A : Type 0} (f : A → Bool) (n : ℕ) (s : List A) (d : A) (i end j k from : ℕ) (x : A) (v : Bool) →
    from ≡ point_number n (record { i = 0; j = j; k = k }) → from + i < length s → x ≡ get_or s (from + i) x → f x ≡ v → i < end →
    list_any (in_row f n s d j k) (range_with_len i (end - i)) ≡ (v || list_any (in_row f n s d j k) (range_with_len (i + 1) (end - (i + 1))))
row_first f n s d i end j k from x v e h at q l = first_and_rest (in_row f n s d j k) i end v l (told_there f n s d i j k from e x h at ∙ q)

-- a box whose rows or layers are empty has no point that passes
pub none_passes : (f : Point → Bool) (b : Box) → (b.hi.i ≤ b.lo.i) ⊎ ((b.lo.i < b.hi.i) × (b.hi.j ≤ b.lo.j)) → false ≡ any_of f (box_points b)
none_passes f b e = sym (is_false (any_of f (box_points b)) (λ q.
    let h = (box_found f b q).held in
    ⊎_elim (λ r. omega (arith, r, h.i_from, h.i_below)) (λ r. omega (arith, r.1, h.j_from, h.j_below)) e))
