-- Laws of the tidied text: what it has in common with the text, and that nothing else is moved. Assumes nothing.
use mathlib.Core.Path.{◌≡◌, refl, sym, ap, ◌∙◌}
use mathlib.Core.Bool.{Bool, true, false, cond, ◌&&◌}
use mathlib.Core.List.{List, [], ◌∷◌}
use Prim.Native.Nat.{ℕ, zero, suc, ◌<◌}
use native.Mathlib.Omega.{arith}
use lib.Dec.{eqb}
use lib.ListN.{length, get_or}
use borrow.Author.Tests.{eqb-true, eqb-false}
use Rattle.refusal.specs.declared.Refusal.TheVariants.{Limit, Owner}
use Rattle.text.specs.Text.{onto, lines, fields}
use Rattle.text.specs.Place.{kind_of}
use Rattle.text.specs.Judge.{sentence, judge}
use Rattle.text.specs.Records.{records}
use Rattle.text.specs.Records as records
use Rattle.text.specs.Print.{Every}
use Rattle.text.proofs.Judging.{split_some, judge_line}
use Rattle.command_text.specs.Form.{Record, form}
use Rattle.command_text.specs.Rules.{over, lost, rules, verdict}
use Rattle.command_class.specs.Definition.{entries_at, definition}
use Rattle.tidy.specs.Tidy.{tidy_byte, tidy_from, tidied}
use Rattle.std.specs.Prelude.{Option, Some, None, Result, Err}
use Rattle.refusal.specs.declared.Refusal.{Refusal}

-- ---- bytes
end_stays : (first : Bool) (x : ℕ) → eqb (tidy_byte first x) 10 ≡ eqb x 10
end_stays first x = go (first && eqb x 85) refl
  where
    enum : (f : Bool) → (f && eqb x 85) ≡ true → x ≡ 85
    enum true e = eqb-true x 85 e
    enum false e = absurd (let z : ◌≡◌ {A = ℕ} 0 1 = cc in omega arith)

    go : (u : Bool) → (first && eqb x 85) ≡ u → eqb (cond u 83 x) 10 ≡ eqb x 10
    go true e = rw (enum first e)
    go false e = refl

byte_twice : (first : Bool) (x : ℕ) → tidy_byte first (tidy_byte first x) ≡ tidy_byte first x
byte_twice false x = refl
byte_twice true x = go (eqb x 85) refl
  where
    go : (u : Bool) → eqb x 85 ≡ u → cond (eqb (cond u 83 x) 85) 83 (cond u 83 x) ≡ cond u 83 x
    go true e = refl
    go false e = rw e

twice-from : (first : Bool) (t : List ℕ) → tidy_from first (tidy_from first t) ≡ tidy_from first t
twice-from first [] = refl
twice-from first (x ∷ xs) = rw (byte_twice first x, end_stays first x, twice-from (eqb x 10) xs)

-- U4: tidying twice is tidying once
pub tidied-twice : (t : List ℕ) → tidied (tidied t) ≡ tidied t
unfolding tidied
tidied-twice t = twice-from true t

length_from : (first : Bool) (t : List ℕ) → length (tidy_from first t) ≡ length t
length_from first [] = refl
length_from first (x ∷ xs) = ap suc (length_from (eqb x 10) xs)

-- U4: it is as long
pub tidied-length : (t : List ℕ) → length (tidied t) ≡ length t
unfolding tidied
tidied-length t = length_from true t

-- does a line begin at byte i, where the first byte is that of a line or not
abbrev pub begins_at : Bool → List ℕ → ℕ → Bool
begins_at first t zero = first
begins_at first t (suc i) = eqb (get_or t i 0) 10

byte_at : (first : Bool) (t : List ℕ) (i : ℕ) → i < length t → get_or (tidy_from first t) i 0 ≡ tidy_byte (begins_at first t i) (get_or t i 0)
byte_at first [] i h = absurd (omega arith)
byte_at first (x ∷ xs) zero h = refl
byte_at first (x ∷ xs) (suc zero) h = byte_at (eqb x 10) xs zero (omega arith)
byte_at first (x ∷ xs) (suc (suc i)) h = byte_at (eqb x 10) xs (suc i) (omega arith)

-- U4: a byte is another only if it is a U with which a line begins
pub tidied_at : (t : List ℕ) (i : ℕ) → i < length t → get_or (tidied t) i 0 ≡ tidy_byte (begins_at true t i) (get_or t i 0)
unfolding tidied
tidied_at t i h = byte_at true t i h

-- ---- lines
abbrev tidy_line : List ℕ → List ℕ
tidy_line [] = []
tidy_line (x ∷ xs) = tidy_byte true x ∷ xs

abbrev tidy_lines : List (List ℕ) → List (List ℕ)
tidy_lines [] = []
tidy_lines (l ∷ ls) = tidy_line l ∷ tidy_lines ls

-- the first of these lines begins before them, or not
abbrev tidy_rest : Bool → List (List ℕ) → List (List ℕ)
tidy_rest true ls = tidy_lines ls
tidy_rest false [] = []
tidy_rest false (l ∷ ls) = l ∷ tidy_lines ls

lines_from : (first : Bool) (t : List ℕ) → lines (tidy_from first t) ≡ tidy_rest first (lines t)
lines_from true [] = refl
lines_from false [] = refl
lines_from first (x ∷ xs) = rw (end_stays first x) (go (eqb x 10) refl (lines_from (eqb x 10) xs))
  where
    begun : (f : Bool) (ps : List (List ℕ)) → tidy_rest f ([] ∷ ps) ≡ [] ∷ tidy_lines ps
    begun true ps = refl
    begun false ps = refl

    longer : (f : Bool) (ps : List (List ℕ)) → (ps ≡ [] → ⊥) → onto (tidy_byte f x) (tidy_rest false ps) ≡ tidy_rest f (onto x ps)
    longer f [] h = absurd (h refl)
    longer true (p ∷ ps) h = refl
    longer false (p ∷ ps) h = refl

    go : (e : Bool) → eqb x 10 ≡ e → lines (tidy_from e xs) ≡ tidy_rest e (lines xs)
        → cond e ([] ∷ lines (tidy_from e xs)) (onto (tidy_byte first x) (lines (tidy_from e xs)))
        ≡ tidy_rest first (cond e ([] ∷ lines xs) (onto x (lines xs)))
    go true q ih = rw ih (sym (begun first (lines xs)))
    go false q ih = rw ih (longer first (lines xs) (split_some 10 xs))

tidied-lines : (t : List ℕ) → lines (tidied t) ≡ tidy_lines (lines t)
unfolding tidied
tidied-lines t = lines_from true t

-- a line and its tidied form say the same
form_stays : (l : List ℕ) → form (fields (tidy_line l)) ≡ form (fields l)
form_stays [] = refl
form_stays (x ∷ xs) = go (eqb x 85) refl
  where
    enum : (ps : List (List ℕ)) → form (onto 83 ps) ≡ form (onto 85 ps)
    enum [] = refl
    enum ([] ∷ ps) = refl
    enum ((y ∷ ys) ∷ ps) = refl

    go : (u : Bool) → eqb x 85 ≡ u → form (fields (cond u 83 x ∷ xs)) ≡ form (fields (x ∷ xs))
    go true e = rw (eqb-true x 85 e) (enum (fields xs))
    go false e = refl

judge_stays : (before : List Record) (n : ℕ) (ls : List (List ℕ)) → judge rules before n (tidy_lines ls) ≡ judge rules before n ls
judge_stays before n [] = refl
judge_stays before n ([] ∷ []) = refl
judge_stays before n ((x ∷ xs) ∷ []) = refl
judge_stays before n (l ∷ m ∷ ms) =
    judge_line rules before n (tidy_line l) (tidy_lines (m ∷ ms)) (λ e. let z : ◌≡◌ {A = ℕ} 0 1 = cc in omega arith)
    ∙ rw (form_stays l) (go (form (fields l)) (λ r. judge_stays (r ∷ before) (suc n) (m ∷ ms)))
    ∙ sym (judge_line rules before n l (m ∷ ms) (λ e. let z : ◌≡◌ {A = ℕ} 0 1 = cc in omega arith))
  where
    go : (x : Option Record) → ((r : Record) → judge rules (r ∷ before) (suc n) (tidy_lines (m ∷ ms)) ≡ judge rules (r ∷ before) (suc n) (m ∷ ms))
        → sentence rules before n x (λ r. judge rules (r ∷ before) (suc n) (tidy_lines (m ∷ ms)))
        ≡ sentence rules before n x (λ r. judge rules (r ∷ before) (suc n) (m ∷ ms))
    go None ih = refl
    go (Some r) ih = ap (λ (v : Result (Unit {0}) Refusal). cond (over before r) (Err (Limit n)) (cond (lost before r) (Err (Owner n)) v)) (ih r)

-- U4: it has the verdict of the text, and a refusal the same line
pub tidied-verdict : (t : List ℕ) → verdict (tidied t) ≡ verdict t
tidied-verdict t = rw (tidied-length t, tidied-lines t, judge_stays [] 1 (lines t))

records_stay : (ls : List (List ℕ)) → records form (tidy_lines ls) ≡ records form ls
records_stay [] = refl
records_stay (l ∷ []) = refl
records_stay (l ∷ m ∷ ms) = rw (form_stays l, records_stay (m ∷ ms))

-- U4: its lines say what those of the text say
pub tidied-records : (t : List ℕ) → records form (lines (tidied t)) ≡ records form (lines t)
tidied-records t = rw (tidied-lines t) (records_stay (lines t))

-- U4: it stands for the same definition, with the same line numbers
pub tidied-definition : (t : List ℕ) → definition (tidied t) ≡ definition t
tidied-definition t = ap (entries_at 1) (tidied-records t)

-- ---- no U is left
no_enum : (l : List ℕ) → kind_of (fields (tidy_line l)) ≡ 85 → ⊥
no_enum [] e = let z : ◌≡◌ {A = ℕ} 0 85 = e in omega arith
no_enum (x ∷ xs) e = go (eqb x 85) refl e
  where
    other : (ps : List (List ℕ)) (y : ℕ) → (y ≡ 85 → ⊥) → kind_of (onto y ps) ≡ 85 → ⊥
    other [] y h q = h q
    other ([] ∷ ps) y h q = h q
    other ((z ∷ zs) ∷ ps) y h q = let w : ◌≡◌ {A = ℕ} 0 85 = q in omega arith

    by_tab : (b : Bool) (y : ℕ) → (y ≡ 85 → ⊥) → kind_of (cond b ([] ∷ fields xs) (onto y (fields xs))) ≡ 85 → ⊥
    by_tab true y h q = let w : ◌≡◌ {A = ℕ} 0 85 = q in omega arith
    by_tab false y h q = other (fields xs) y h q

    go : (u : Bool) → eqb x 85 ≡ u → kind_of (fields (cond u 83 x ∷ xs)) ≡ 85 → ⊥
    go true q h = by_tab (eqb 83 9) 83 (λ z. omega arith) h
    go false q h = by_tab (eqb x 9) x (eqb-false x 85 q) h

every_line : (ls : List (List ℕ)) → Every (λ l. kind_of (fields l) ≡ 85 → ⊥) (tidy_lines ls)
every_line [] = tt
every_line (l ∷ ls) = (no_enum l, every_line ls)

-- U4: no line of it is a U
pub tidied-none : (t : List ℕ) → Every (λ l. kind_of (fields l) ≡ 85 → ⊥) (lines (tidied t))
tidied-none t = rw (tidied-lines t) (every_line (lines t))
