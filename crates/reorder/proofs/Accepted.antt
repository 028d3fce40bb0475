-- A rearrangement of an accepted text is accepted, and as long. Assumes nothing.
use mathlib.Core.Path.{◌≡◌, refl, sym, ap, ◌∙◌, subst}
use mathlib.Core.Bool.{Bool, true, false, cond}
use mathlib.Core.List.{List, [], ◌∷◌, ◌++◌}
use Prim.Native.Nat.{ℕ, suc, ◌+◌, ◌≤◌}
use native.Mathlib.Omega.{arith}
use lib.Dec.{eqb}
use lib.ListN.{length}
use borrow.Author.Tests.{le-ltb}
use Rattle.refusal.specs.declared.Refusal.TheVariants.{Limit, Owner}
use Rattle.text.specs.Text.{split, lines, fields}
use Rattle.text.specs.Text as text
use Rattle.text.specs.Print.{Every}
use Rattle.text.specs.Judge.{sentence, judge}
use Rattle.text.specs.Records.{onto, records}
use Rattle.text.specs.Honest.{Keeps}
use Rattle.text.proofs.Judging.{split_some, judge_line}
use Rattle.text.proofs.Reading.{Allowed, accepted_line, accepted-short, accepted-lines}
use Rattle.text.proofs.Honest.{accepted_keeps}
use Rattle.frame_text.specs.Form.{Record, form}
use Rattle.frame_text.specs.Rules.{count, over, lost, rules, verdict}
use Rattle.frame_definition.proofs.Limits.{accepted-within}
use Rattle.reorder.specs.Blocks.{Section, blocks, lines_of, ended, Line, Has, says_of, sections_of}
use Rattle.reorder.specs.Moved.{Moved}
use Rattle.reorder.specs.Reorder.{Reordered}
use Rattle.reorder.proofs.Moved.{sum}
use Rattle.reorder.proofs.Parts.{records_of, records_of_lem}
use Rattle.reorder.proofs.Places.{every_moved, lines-moved, sum_moved}
use Rattle.reorder.proofs.Sections.{Proper, sections_proper}
use Rattle.reorder.proofs.Whole.{whole}
use Rattle.reorder.proofs.Kept.{Roomy, Local, locals, keeps_all, count_sections}
use Rattle.std.specs.Prelude.{Option, Some, Result, Ok, Err}
use Rattle.refusal.specs.declared.Refusal.{Refusal}

-- ---- how long a text is
abbrev size : Line → ℕ
size l = suc (length l)

onto-size : (x : ℕ) (ps : List Line) → (ps ≡ [] → ⊥) → sum size (text.onto x ps) ≡ suc (sum size ps)
onto-size x [] h = absurd (h refl)
onto-size x (p ∷ ps) h = omega arith

split-size : (b : ℕ) (l : List ℕ) → sum size (split b l) ≡ suc (length l)
split-size b [] = refl
split-size b (x ∷ xs) = go (eqb x b) (split-size b xs)
  where
    go : (c : Bool) → sum size (split b xs) ≡ suc (length xs) → sum size (cond c ([] ∷ split b xs) (text.onto x (split b xs))) ≡ suc (suc (length xs))
    go true e = omega arith
    go false e = onto-size x (split b xs) (split_some b xs) ∙ ap suc e

sum-append : {X : Type 0} (w : X → ℕ) (xs ys : List X) → sum w (xs ++ ys) ≡ sum w xs + sum w ys
sum-append w [] ys = omega arith
sum-append w (x ∷ xs) ys = let e = sum-append w xs ys in omega arith

abbrev size_of : Section Line → ℕ
size_of s = size s.owner + sum size s.under

size_sections : (ss : List (Section Line)) → sum size (lines_of says_of ss) ≡ sum size_of ss
size_sections [] = refl
size_sections (s ∷ ss) =
    let a = sum-append size s.under (lines_of says_of ss) in
    let b = size_sections ss in
    omega (arith, a, b)

has-length : (t : List ℕ) (ls : List Line) → Has t ls → length t ≡ sum size ls
has-length t ls e =
    let a : sum size (lines t) ≡ suc (length t) = split-size 0x0a t in
    let b : sum size (lines t) ≡ sum size ls + 1 = ap (sum size) e ∙ sum-append size ls ([] ∷ []) in
    omega (arith, a, b)

-- ---- each line says a record
abbrev Said : Line → Type 0
Said l = (r : Record) × (says_of l ≡ Some r)

-- ---- the verdict
not-accepted : (l : Line) (b : List Record) (n : ℕ) → judge rules b n (l ∷ []) ≡ Ok tt → l ≡ []
not-accepted [] b n e = refl
not-accepted (x ∷ xs) b n e = absurd (let z : ◌≡◌ {A = ℕ} 0 1 = cc in omega arith)

allowed : (b : List Record) (n : ℕ) (l m : Line) (ms : List Line) → judge rules b n (l ∷ m ∷ ms) ≡ Ok tt
    → Allowed rules b (form (fields l)) (λ r. judge rules (r ∷ b) (suc n) (m ∷ ms))
allowed b n l m ms e =
    accepted_line rules b n (form (fields l)) (λ r. judge rules (r ∷ b) (suc n) (m ∷ ms))
    (sym (judge_line rules b n l (m ∷ ms) (λ q. let z : ◌≡◌ {A = ℕ} 0 1 = cc in omega arith)) ∙ e)

lines-closed : (b : List Record) (n : ℕ) (ls : List Line) → (ls ≡ [] → ⊥) → judge rules b n ls ≡ Ok tt → ls ≡ ended ls ++ ([] ∷ [])
lines-closed b n [] h e = absurd (h refl)
lines-closed b n (l ∷ []) h e = ap (λ (z : Line). z ∷ []) (not-accepted l b n e)
lines-closed b n (l ∷ m ∷ ms) h e =
    let a = allowed b n l m ms e in
    ap (λ (z : List Line). l ∷ z) (lines-closed (a.said ∷ b) (suc n) (m ∷ ms) (λ q. let z : ◌≡◌ {A = ℕ} 0 1 = cc in omega arith) a.on)

-- an accepted text has the lines of its sections
pub accepted-has : (t : List ℕ) → verdict t ≡ Ok tt → Has t (lines_of says_of (sections_of t))
accepted-has t v =
    lines-closed [] 1 (lines t) (split_some 0x0a t) (accepted-lines rules t v)
    ∙ ap (λ (ls : List Line). ls ++ ([] ∷ [])) (whole t v)

moved_none : {X : Type 0} (xs : List X) → Moved xs xs
moved_none [] = refl
moved_none (x ∷ xs) = ([], xs, refl, moved_none xs)

-- and is a rearrangement of itself
pub unmoved : (t : List ℕ) → verdict t ≡ Ok tt → Reordered t t
unmoved t v = record { order = sections_of t; others = refl; moved = moved_none (blocks says_of (sections_of t)); has = accepted-has t v }

accepted-said : (b : List Record) (n : ℕ) (ls : List Line) → judge rules b n ls ≡ Ok tt → Every Said (ended ls)
unfolding says_of
accepted-said b n [] e = tt
accepted-said b n (l ∷ []) e = tt
accepted-said b n (l ∷ m ∷ ms) e = let a = allowed b n l m ms e in ((a.said, a.is), accepted-said (a.said ∷ b) (suc n) (m ∷ ms) a.on)

more-lines : (ls : List Line) → (ls ++ ([] ∷ [])) ≡ [] → ⊥
more-lines [] q = let z : ◌≡◌ {A = ℕ} 0 1 = cc in omega arith
more-lines (l ∷ ls) q = let z : ◌≡◌ {A = ℕ} 0 1 = cc in omega arith

judge_accepts : (ls : List Line) → Every Said ls → (b : List Record) (n : ℕ) → Keeps rules b (records_of says_of ls)
    → judge rules b n (ls ++ ([] ∷ [])) ≡ Ok tt
unfolding says_of
judge_accepts [] a b n k = refl
judge_accepts (l ∷ ls) a b n k =
    judge_line rules b n l (ls ++ ([] ∷ [])) (more-lines ls)
    ∙ ap (λ (x : Option Record). sentence rules b n x (λ r. judge rules (r ∷ b) (suc n) (ls ++ ([] ∷ [])))) a.0.1
    ∙ go (subst (λ (x : Option Record). Keeps rules b (onto x (records_of says_of ls))) a.0.1 k) (λ q. judge_accepts ls a.1 (a.0.0 ∷ b) (suc n) q)
  where
    r : Record
    r = a.0.0

    rest : Result (Unit {0}) Refusal
    rest = judge rules (r ∷ b) (suc n) (ls ++ ([] ∷ []))

    go : Keeps rules b (r ∷ records_of says_of ls) → (Keeps rules (r ∷ b) (records_of says_of ls) → rest ≡ Ok tt)
        → cond (over b r) (Err (Limit n)) (cond (lost b r) (Err (Owner n)) rest) ≡ Ok tt
    go w ih = (λ i. cond (w.0 i) (Err (Limit n)) (cond (w.1 i) (Err (Owner n)) rest)) ∙ ih w.2

-- ---- after the move
module _ (t t' : List ℕ) (w : Reordered t t') (v : verdict t ≡ Ok tt) where
  abbrev X : List (Section Line)
  X = sections_of t

  abbrev Y : List (Section Line)
  Y = w.order

  count_same : (k : ℕ) → count k (records_of says_of (lines_of says_of Y)) ≡ count k (records form (lines t))
  count_same k =
      count_sections says_of k Y
      ∙ sym (sum_moved says_of (λ s. count k (records_of says_of (s.owner ∷ s.under))) X Y w.others w.moved)
      ∙ sym (count_sections says_of k X)
      ∙ ap (λ (ls : List Line). count k (records_of says_of ls)) (sym (whole t v))
      ∙ ap (count k) (sym (records_of_lem (lines t)))

  roomy : Roomy [] (records_of says_of (lines_of says_of Y))
  roomy =
      let l = (accepted-within t v).1 in
      record {
        frequencies = omega (arith, count_same 0x46, l.frequencies);
        bases = omega (arith, count_same 0x42, l.bases);
        headers = omega (arith, count_same 0x48, l.headers);
        sets = omega (arith, count_same 0x44, l.sets);
      }

  kept : Keeps rules [] (records_of says_of (lines_of says_of Y))
  kept =
      keeps_all says_of Y
      (every_moved says_of (Proper says_of) X Y w.others w.moved (sections_proper says_of (ended (lines t)) 0 0))
      (every_moved says_of (Local says_of) X Y w.others w.moved
      (locals says_of (ended (lines t)) 0 0 [] (subst (Keeps rules []) (records_of_lem (lines t)) (accepted_keeps rules t v).1)))
      [] roomy

  said : Every Said (lines_of says_of Y)
  said = lines-moved says_of Said (ended (lines t)) 0 0 Y w.others w.moved (accepted-said [] 1 (lines t) (accepted-lines rules t v))

  -- as many bytes
  pub same_length : length t' ≡ length t
  same_length =
      has-length t' (lines_of says_of Y) w.has
      ∙ size_sections Y
      ∙ sym (sum_moved says_of size_of X Y w.others w.moved)
      ∙ sym (size_sections X)
      ∙ sym (has-length t (lines_of says_of X) (accepted-has t v))

  -- a rearrangement of an accepted text is accepted
  pub accepted-after : verdict t' ≡ Ok tt
  accepted-after =
      let l : length t' ≤ 60000 = (let a = accepted-short rules t v in let b = same_length in omega (arith, a, b)) in
      ap (λ (b : Bool). cond b (Err (Limit 0)) (judge rules [] 1 (lines t'))) (le-ltb 60000 (length t') l)
      ∙ ap (judge rules [] 1) w.has
      ∙ judge_accepts (lines_of says_of Y) said [] 1 kept
