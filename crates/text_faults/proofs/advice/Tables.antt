-- The tables of forms say what the forms say: n fields, each as wanted. Assumes nothing.
use mathlib.Core.Path.{◌≡◌, refl, sym, ap, ◌∙◌}
use mathlib.Core.Bool.{Bool, true, false, cond, ◌&&◌}
use mathlib.Core.List.{List, [], ◌∷◌}
use Prim.Native.Nat.{ℕ, zero, suc, ◌+◌}
use native.Mathlib.Omega.{arith}
use native.Mathlib.Numerals.{add-one}
use lib.Dec.{eqb}
use lib.ListN.{length, get_or, drop, drop_of_length-le}
use lib.Seq.{drop-cons}
use borrow.Author.Tests.{eq-eqb, ne_eqb, eqb-true, eqb-false}
use Rattle.text_faults.specs.Fault.{right, is_right, fault_of}
use Rattle.text_faults.specs.declared.fault.Want.{Want}
use Rattle.text_faults.proofs.fault.Honest.{told_exactly}
use Rattle.text_faults.specs.Advice.{is_fine, first_fault, by_count, advice_on}
use Rattle.text_faults.specs.declared.advice.Advice.TheVariants.{Letter, Count, Field}

-- are these fields right, of which the first is field k
abbrev all_right : (ℕ → Want) → ℕ → List (List ℕ) → Bool
all_right want k [] = true
all_right want k (f ∷ fs) = right (want k) f && all_right want (k + 1) fs

-- no fault is told exactly where all are
fine-all : (want : ℕ → Want) (k : ℕ) (fs : List (List ℕ)) → is_fine (first_fault want k fs) ≡ all_right want k fs
fine-all want k [] = refl
fine-all want k (f ∷ fs) = go (is_right (fault_of (want k) f)) (right (want k) f) (told_exactly (want k) f) (fine-all want (k + 1) fs)
  where
    go : (a b : Bool) → a ≡ b → is_fine (first_fault want (k + 1) fs) ≡ all_right want (k + 1) fs
        → is_fine (cond a (first_fault want (k + 1) fs) (Field k (want k) (fault_of (want k) f))) ≡ (b && all_right want (k + 1) fs)
    go true b e ih = rw (← e) ih
    go false b e ih = rw (← e)

-- the same, field by field: n of them from field i + 1 on, which stands at i
abbrev pub right_from : (ℕ → Want) → ℕ → ℕ → List (List ℕ) → Bool
right_from want i zero fs = true
right_from want i (suc n) fs = right (want (i + 1)) (get_or fs i []) && right_from want (i + 1) n fs

all_from : (want : ℕ → Want) (n i : ℕ) (fs : List (List ℕ)) → length fs ≡ i + n → all_right want (i + 1) (drop i fs) ≡ right_from want i n fs
all_from want zero i fs h = ap (all_right want (i + 1)) (drop_of_length-le fs {i = i} (omega arith))
all_from want (suc n) i fs h =
    let d : drop i fs ≡ get_or fs i [] ∷ drop (i + 1) fs = rw add-one (drop-cons fs i [] (omega arith)) in
    ap (all_right want (i + 1)) d ∙ ap (λ (b : Bool). right (want (i + 1)) (get_or fs i []) && b) (all_from want n (i + 1) fs (omega arith))

-- n + 1 fields, of which those after the letter are as x says: that is what the table says
pub line_exact : (want : ℕ → Want) (n : ℕ) (f : List ℕ) (fs : List (List ℕ)) (x : Bool) → (n ≡ 0 → ⊥) → x ≡ right_from want 0 n fs
    → (eqb (length (f ∷ fs)) (suc n) && x) ≡ is_fine (advice_on want n fs)
line_exact want n f fs x some e = sym (ap (λ (b : Bool). is_fine (cond b Letter (by_count want n fs))) (ne_eqb n 0 some) ∙ go (eqb (length fs) n) refl)
  where
    go : (b : Bool) → eqb (length fs) n ≡ b → is_fine (cond b (first_fault want 1 fs) (Count (length fs) n)) ≡ (eqb (length (f ∷ fs)) (suc n) && x)
    go true q =
        let l : length fs ≡ n = eqb-true (length fs) n q in
        let m : eqb (length (f ∷ fs)) (suc n) ≡ true = eq-eqb (length (f ∷ fs)) (suc n) (omega arith) in
        fine-all want 1 fs ∙ all_from want n 0 fs (omega arith) ∙ sym e ∙ ap (λ (b : Bool). b && x) (sym m)
    go false q =
        let m : eqb (length (f ∷ fs)) (suc n) ≡ false = ne_eqb (length (f ∷ fs)) (suc n) (λ z. eqb-false (length fs) n q (omega arith)) in
        ap (λ (b : Bool). b && x) (sym m)

-- a count that isn't 0
pub some_count : (n : ℕ) → eqb n 0 ≡ false → n ≡ 0 → ⊥
some_count n e z = let q : eqb n 0 ≡ true = rw z refl in let w : ◌≡◌ {A = ℕ} 0 1 = cc in omega arith

-- ---- tests one after another
pub one : (a : Bool) → a ≡ (a && true)
one true = refl
one false = refl

module _ (a b : Bool) where
  pub two : (a && b) ≡ (a && (b && true))
  two = ap (λ (x : Bool). a && x) (one b)

  module _ (c : Bool) where
    pub three : (a && (b && c)) ≡ (a && (b && (c && true)))
    three = ap (λ (x : Bool). a && (b && x)) (one c)

    pub four : (d : Bool) → (a && (b && (c && d))) ≡ (a && (b && (c && (d && true))))
    four d = ap (λ (x : Bool). a && (b && (c && x))) (one d)

    -- three, and then others
    pub regroup : (r : Bool) → ((a && (b && c)) && r) ≡ (a && (b && (c && r)))
    regroup r = by_tests a b
      where
        by_tests : (a b : Bool) → ((a && (b && c)) && r) ≡ (a && (b && (c && r)))
        by_tests true true = refl
        by_tests true false = refl
        by_tests false b = refl
