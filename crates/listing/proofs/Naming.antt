-- A number names one candidate, and a candidate has one first reading. Assumes nothing.
use mathlib.Core.Path.{◌≡◌, refl, sym, ap, ◌∙◌}
use mathlib.Core.Bool.{Bool, true, false, cond}
use mathlib.Core.List.{List, [], ◌∷◌, ◌++◌, map}
use Prim.Native.Nat.{ℕ, zero, suc, ◌+◌, ◌<◌}
use native.Mathlib.Omega.{arith}
use lib.Dec.{eqb}
use lib.ListN.{length}
use borrow.Author.Tests.{eq-eqb, ne_eqb, eqb-true}
use Rattle.rows.specs.Parts.{Wide}
use Rattle.text.specs.Print.{Every}
use Rattle.frame_definition.specs.Definition.{Set, definition}
use Rattle.header_rules.specs.Data.{P, Field, Candidate}
use Rattle.header_rules.specs.Lawful.{Reading}
use Rattle.header_rules.specs.Demand.{First}
use Rattle.header_rules.specs.Answer.{answered}
use Rattle.header_rules.specs.Table.{row_width, numbers_of, rows_each, inner_table, table_from, table_of}
use Rattle.header_rules.specs.Told.{candidates_of}
use Rattle.header_rules.proofs.Answer.{answer-only}
use Rattle.header_rules.proofs.Reading.{reading-only}
use Rattle.header_named.specs.Named.{named}
use Rattle.reorder.proofs.Foremost.{Rises, candidates_rise}
use Rattle.std.specs.Prelude.{Some}

-- ---- the candidate that a number names
named_in : (xs : List (Candidate 7)) (c : Candidate 7) (ys : List (Candidate 7)) → Rises (map (λ b. b.number) (xs ++ c ∷ ys))
    → named c.number (xs ++ c ∷ ys) ≡ Some c
named_in [] c ys r = rw (eq-eqb c.number c.number refl)
named_in (x ∷ xs) c ys r =
    let l : x.number < c.number = above xs r.0 in
    rw (ne_eqb x.number c.number (λ e. omega arith)) (named_in xs c ys r.1)
  where
    above : (xs : List (Candidate 7)) → Every (λ y. x.number < y) (map (λ b. b.number) (xs ++ c ∷ ys)) → x.number < c.number
    above [] a = a.0
    above (z ∷ zs) a = above zs a.1

pub named_at : (t : List ℕ) (key : ℕ) (xs : List (Candidate 7)) (c : Candidate 7) (ys : List (Candidate 7))
    → candidates_of key (definition t) ≡ xs ++ c ∷ ys → named c.number (candidates_of key (definition t)) ≡ Some c
named_at t key xs c ys e = rw e (named_in xs c ys (rw e at (candidates_rise key t)))

pub named-number : (n : ℕ) (cs : List (Candidate 7)) (c : Candidate 7) → named n cs ≡ Some c → c.number ≡ n
named-number n [] c e = absurd (let z : ◌≡◌ {A = ℕ} 0 1 = cc in omega arith)
named-number n (b ∷ cs) c e = go (eqb b.number n) refl e (named-number n cs c)
  where
    go : (t : Bool) → eqb b.number n ≡ t → cond t (Some b) (named n cs) ≡ Some c → (named n cs ≡ Some c → c.number ≡ n) → c.number ≡ n
    go true q e ih = let z : b ≡ c = cc in ap (λ (x : Candidate 7). x.number) (sym z) ∙ eqb-true b.number n q
    go false q e ih = ih e

-- ---- one first candidate, one reading
module _ (d : List ℕ) (base : List (P 7)) (cs : List (Candidate 7)) (c : Candidate 7) (fs : List (Field 7)) (f : First 7 d base cs c fs) where
  module _ (b : Candidate 7) (gs : List (Field 7)) (g : First 7 d base cs b gs) where
    both : answered c fs ≡ answered b gs
    both = answer-only 7 d base cs (answered c fs) f ∙ sym (answer-only 7 d base cs (answered b gs) g)

    pub one_first : c ≡ b
    one_first = let e : answered c fs ≡ answered b gs = both in cc

    pub one_reading : fs ≡ gs
    one_reading = let e : answered c fs ≡ answered b gs = both in cc

  pub first-reading : (gs : List (Field 7)) → Reading 7 d base c.params gs → gs ≡ fs
  first-reading gs r = reading-only 7 d base c.params gs r ∙ sym (reading-only 7 d base c.params fs f.holds.lawful)

-- ---- each row has seven numbers
wide_append : (rs ss : List (List ℕ)) → Wide row_width rs → Wide row_width ss → Wide row_width (rs ++ ss)
wide_append [] ss a b = b
wide_append (r ∷ rs) ss a b = (a.0, wide_append rs ss a.1 b)

wide_each : {F : Type 0} (rows_at : ℕ → F → List (List ℕ)) → ((at : ℕ) (f : F) → Wide row_width (rows_at at f)) → (at : ℕ) (fs : List F)
    → Wide row_width (rows_each rows_at at fs)
unfolding rows_each
wide_each rows_at w at [] = tt
wide_each rows_at w at (f ∷ fs) =
    wide_append (rows_at at f) (rows_each rows_at (at + length (rows_at at f)) fs) (w at f) (wide_each rows_at w (at + length (rows_at at f)) fs)

wide_inner : (n : ℕ) (d : List ℕ) (sets : List Set) (at : ℕ) (f : Field n) → Wide row_width (inner_table n d sets at f)
unfolding inner_table numbers_of
wide_inner zero d sets at f = tt
wide_inner (suc n) d sets at f =
    wide_each (λ m g. numbers_of d sets at g ∷ inner_table n d sets (m + 1) g) (λ m g. (refl, wide_inner n d sets (m + 1) g)) at f.inner

pub table_wide : (d : List ℕ) (sets : List Set) (fs : List (Field 7)) → Wide 7 (table_of 7 d sets fs)
unfolding table_from numbers_of
table_wide d sets fs = wide_each (λ m g. numbers_of d sets 0 g ∷ inner_table 7 d sets (m + 1) g) (λ m g. (refl, wide_inner 7 d sets (m + 1) g)) 0 fs
