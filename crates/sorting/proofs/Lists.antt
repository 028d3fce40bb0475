-- Sorting what is made of each. Assumes nothing.
use mathlib.Core.Path.{◌≡◌, refl, ap, ◌∙◌}
use mathlib.Core.Bool.{Bool, true, false, cond}
use mathlib.Core.List.{List, [], ◌∷◌, map}
use Rattle.text.specs.Print.{Every}
use Rattle.reorder.specs.Blocks.{only}
use Rattle.reorder.specs.Sorted.{insert_by, sort_by, placed}

module _ {X Y : Type 0} (f : X → Y) where
  pub only-map : (test : Y → Bool) (xs : List X) → only test (map f xs) ≡ map f (only (λ (x : X). test (f x)) xs)
  only-map test [] = refl
  only-map test (x ∷ xs) = go (test (f x)) (only-map test xs)
    where
      go : (b : Bool) → only test (map f xs) ≡ map f (only (λ (z : X). test (f z)) xs)
          → cond b (f x ∷ only test (map f xs)) (only test (map f xs))
          ≡ map f (cond b (x ∷ only (λ (z : X). test (f z)) xs) (only (λ (z : X). test (f z)) xs))
      go true ih = ap (λ (z : List Y). f x ∷ z) ih
      go false ih = ih

  insert-map : (before : Y → Y → Bool) (x : X) (ys : List X)
      → insert_by before (f x) (map f ys) ≡ map f (insert_by (λ (a b : X). before (f a) (f b)) x ys)
  insert-map before x [] = refl
  insert-map before x (y ∷ ys) = go (before (f x) (f y)) (insert-map before x ys)
    where
      go : (b : Bool) → insert_by before (f x) (map f ys) ≡ map f (insert_by (λ (a b : X). before (f a) (f b)) x ys)
          → cond b (f x ∷ f y ∷ map f ys) (f y ∷ insert_by before (f x) (map f ys))
          ≡ map f (cond b (x ∷ y ∷ ys) (y ∷ insert_by (λ (a b : X). before (f a) (f b)) x ys))
      go true ih = refl
      go false ih = ap (λ (z : List Y). f y ∷ z) ih

  pub sort_map : (before : Y → Y → Bool) (xs : List X) → sort_by before (map f xs) ≡ map f (sort_by (λ (a b : X). before (f a) (f b)) xs)
  sort_map before [] = refl
  sort_map before (x ∷ xs) =
      ap (insert_by before (f x)) (sort_map before xs) ∙ insert-map before x (sort_by (λ (a b : X). before (f a) (f b)) xs)

  pub placed-map : (test : Y → Bool) (ys xs : List X) → placed test (map f ys) (map f xs) ≡ map f (placed (λ (x : X). test (f x)) ys xs)
  placed-map test ys [] = refl
  placed-map test [] (x ∷ xs) = ap (λ (z : List Y). f x ∷ z) (placed-map test [] xs)
  placed-map test (y ∷ ys) (x ∷ xs) = go (test (f x)) (placed-map test ys xs) (placed-map test (y ∷ ys) xs)
    where
      go : (b : Bool) → placed test (map f ys) (map f xs) ≡ map f (placed (λ (z : X). test (f z)) ys xs)
          → placed test (f y ∷ map f ys) (map f xs) ≡ map f (placed (λ (z : X). test (f z)) (y ∷ ys) xs)
          → cond b (f y ∷ placed test (map f ys) (map f xs)) (f x ∷ placed test (f y ∷ map f ys) (map f xs))
          ≡ map f (cond b (y ∷ placed (λ (z : X). test (f z)) ys xs) (x ∷ placed (λ (z : X). test (f z)) (y ∷ ys) xs))
      go true on past = ap (λ (z : List Y). f y ∷ z) on
      go false on past = ap (λ (z : List Y). f x ∷ z) past

-- what is so of each is so of each
module _ {X : Type 0} (Q : X → Type 0) where
  pub only_every : (test : X → Bool) (xs : List X) → Every Q xs → Every Q (only test xs)
  only_every test [] a = tt
  only_every test (x ∷ xs) a = go (test x) (only_every test xs a.1)
    where
      go : (b : Bool) → Every Q (only test xs) → Every Q (cond b (x ∷ only test xs) (only test xs))
      go true ih = (a.0, ih)
      go false ih = ih

  insert_every : (before : X → X → Bool) (x : X) (ys : List X) → Q x → Every Q ys → Every Q (insert_by before x ys)
  insert_every before x [] q a = (q, tt)
  insert_every before x (y ∷ ys) q a = go (before x y) (insert_every before x ys q a.1)
    where
      go : (b : Bool) → Every Q (insert_by before x ys) → Every Q (cond b (x ∷ y ∷ ys) (y ∷ insert_by before x ys))
      go true ih = (q, a)
      go false ih = (a.0, ih)

  pub sort_every : (before : X → X → Bool) (xs : List X) → Every Q xs → Every Q (sort_by before xs)
  sort_every before [] a = tt
  sort_every before (x ∷ xs) a = insert_every before x (sort_by before xs) a.0 (sort_every before xs a.1)

  pub placed_every : (test : X → Bool) (ys xs : List X) → Every Q ys → Every Q xs → Every Q (placed test ys xs)
  placed_every test ys [] a b = tt
  placed_every test [] (x ∷ xs) a b = (b.0, placed_every test [] xs tt b.1)
  placed_every test (y ∷ ys) (x ∷ xs) a b = go (test x) (placed_every test ys xs a.1 b.1) (placed_every test (y ∷ ys) xs a b.1)
    where
      go : (t : Bool) → Every Q (placed test ys xs) → Every Q (placed test (y ∷ ys) xs)
          → Every Q (cond t (y ∷ placed test ys xs) (x ∷ placed test (y ∷ ys) xs))
      go true on past = (a.0, on)
      go false on past = (b.0, past)
