-- The tests of points as the library's chains tell them: over ranges, layer by layer. Assumes nothing.
use Rattle.std.proofs.Common.{◌≡◌, refl, ap, sym, ◌∙◌, Bool, ◌&&◌, List, [], ◌∷◌, ℕ, zero, suc, ◌+◌, map, add-one}
use Rattle.std.specs.List.{list_all, range_with_len}
use Rattle.rules.specs.declared.Point.{Point}
use Rattle.rules.specs.Lists.{all_of, each, upto}
use Rattle.rules.specs.Lattice.{points}
use Rattle.rules.proofs.Lists.{all_of_append, all_of_map}
use Rattle.grids.specs.Reading.{fits_at, row_fits, all_fit}

pub range_upto : (a n : ℕ) → range_with_len a n ≡ upto a n
range_upto a zero = refl
range_upto a (suc n) = rw add-one (ap (λ (l : List ℕ). a ∷ l) (range_upto (suc a) n))

module _ {A : Type 0} (f : A → Bool) where
  pub list_all_of : (l : List A) → list_all f l ≡ all_of f l
  list_all_of [] = refl
  list_all_of (x ∷ l) = ap (λ (b : Bool). f x && b) (list_all_of l)

module _ {A B : Type 0} (f : B → Bool) (g : A → List B) where
  pub all_of_each : (l : List A) → all_of f (each g l) ≡ all_of (λ x. all_of f (g x)) l
  all_of_each [] = refl
  all_of_each (x ∷ l) = all_of_append f (g x) (each g l) ∙ ap (λ (b : Bool). all_of f (g x) && b) (all_of_each l)

-- points by layers and rows
by_layers : (f : Point → Bool) (l m o : List ℕ) →
    all_of f (each (λ z. each (λ y. map (λ x. record { i = x; j = y; k = z }) l) m) o)
    ≡ all_of (λ z. all_of (λ y. all_of (λ x. f (record { i = x; j = y; k = z })) l) m) o
by_layers f l m o = simp (all_of_each, all_of_map)

-- a test of all points, layer by layer and row by row
pub points_by_ranges : (f : Point → Bool) (n : ℕ) →
    list_all (λ k. list_all (λ j. list_all (λ i. f (record { i = i; j = j; k = k })) (range_with_len 0 n)) (range_with_len 0 n)) (range_with_len 0 n)
    ≡ all_of f (points n)
points_by_ranges f n = simp (range_upto, list_all_of) (sym (by_layers f (upto 0 n) (upto 0 n) (upto 0 n)))

in_ranges : (f : ℕ → ℕ → Bool) (n : ℕ) →
    list_all (λ k. list_all (λ j. f j k) (range_with_len 0 n)) (range_with_len 0 n) ≡ all_of (λ k. all_of (λ j. f j k) (upto 0 n)) (upto 0 n)
in_ranges f n = simp (range_upto, list_all_of)

pub all_by_layers : (n : ℕ) (g : List ℕ) →
    list_all (λ k. list_all (λ j. row_fits n g j k) (range_with_len 0 (n + 1))) (range_with_len 0 (n + 1)) ≡ all_fit n g
unfolding all_fit
all_by_layers n g =
    in_ranges (row_fits n g) (n + 1) ∙ rw add-one (sym (by_layers (fits_at n g) (upto 0 (suc n)) (upto 0 (suc n)) (upto 0 (suc n))))
