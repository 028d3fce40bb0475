-- The key of a header has eight bits; by an accepted text and rows enough only 5, 6 and 7 refuse one. Assumes nothing.
use mathlib.Core.Path.{◌≡◌, refl, ap, ◌∙◌, subst}
use mathlib.Core.Bool.{Bool, true, false, cond, ◌&&◌}
use mathlib.Core.List.{List, [], ◌∷◌, map}
use Prim.Native.Nat.{ℕ, ◌/◌, ◌≤◌, ◌<◌}
use native.Mathlib.Omega.{arith}
use lib.Dec.{eqb, ltb}
use lib.ListN.{length, replicate, length-replicate}
use borrow.Author.Tests.{leb-true, le-ltb, ltb-false}
use Rattle.laws.proofs.Bools.{and_left, and_right}
use Rattle.refusal.specs.declared.Refusal.TheVariants.{TooLong, TooShort}
use Rattle.refusal.specs.Refusal.{number_of}
use Rattle.text.specs.Text.{lines, fields, field, worth, decimal, up_to}
use Rattle.text.specs.Print.{Every}
use Rattle.text.specs.Records.{onto, records}
use Rattle.frame_text.specs.Form as form
use Rattle.frame_text.specs.Rules.{verdict}
use Rattle.frame_definition.specs.Definition.{Frame, frames, definition, is_key, some?, candidates}
use Rattle.frame_definition.proofs.Views.{View, view}
use Rattle.crc.specs.Crc.{right}
use Rattle.header_rules.specs.Data.{Candidate}
use Rattle.header_rules.specs.Table.{row_width, most_numbers}
use Rattle.header_rules.specs.Trees.{candidate_of}
use Rattle.header_rules.specs.Says.{Says, Chosen}
use Rattle.header_rules.specs.Told.{Heading, Told, no_base, no_candidate, more_rows, header, candidates_of}
use Rattle.header_rules.proofs.Told.{told-says}
use Rattle.header_rules.proofs.Run.{every_split}
use Rattle.header.specs.declared.DecodedHeader.{DecodedHeader}
use Rattle.header.specs.Decode.{of_told, judged, key_of, told_of, decoded, number_in}
use Rattle.header.proofs.Says.{decodes}
use Rattle.std.specs.Prelude.{Option, Some, None, Result, Ok, Err}
use Rattle.refusal.specs.declared.Refusal.{Refusal}

-- ---- the key of an H line
abbrev Low : form.Record → Type 0
Low (form.frequency code key) = Unit
Low (form.base key) = Unit
Low (form.header h) = h.key ≤ 255
Low (form.param p) = Unit
Low (form.validation path value) = Unit
Low (form.set name) = Unit
Low (form.entry key text) = Unit

form-low : (fs : List (List ℕ)) (x : form.Record) → form.form fs ≡ Some x → Low x
form-low fs (form.frequency code key) e = tt
form-low fs (form.base key) e = tt
form-low fs (form.header h) e =
    let v : View fs (form.header h) = view fs (form.header h) e in
    let is : h.key ≡ worth 0 (field 1 fs) = ap (λ (x : form.Header). x.key) v.says in
    let number : up_to 255 (field 1 fs) ≡ true = and_left (up_to 255 (field 1 fs)) _ (and_right (eqb (length fs) 5) _ v.has) in
    let few = leb-true (worth 0 (field 1 fs)) 255 (and_right (decimal (field 1 fs)) _ number) in
    omega arith
form-low fs (form.param p) e = tt
form-low fs (form.validation path value) e = tt
form-low fs (form.set name) e = tt
form-low fs (form.entry key text) e = tt

records-low : (ls : List (List ℕ)) → Every Low (records form.form ls)
records-low [] = tt
records-low (l ∷ []) = tt
records-low (l ∷ m ∷ ms) = go (form.form (fields l)) (form-low (fields l)) (records-low (m ∷ ms))
  where
    go : (o : Option form.Record) → ((x : form.Record) → o ≡ Some x → Low x) → Every Low (records form.form (m ∷ ms))
        → Every Low (onto o (records form.form (m ∷ ms)))
    go None low rest = rest
    go (Some x) low rest = (low x refl, rest)

-- ---- that of a candidate
abbrev LowFrame : Frame → Type 0
LowFrame f = f.says.key ≤ 255

frames-low : (h n : ℕ) (rs : List form.Record) → Every Low rs → Every LowFrame (frames h n rs)
frames-low h n [] a = tt
frames-low h n (form.frequency code key ∷ rs) a = frames-low h n rs a.1
frames-low h n (form.base key ∷ rs) a = frames-low h n rs a.1
frames-low h n (form.header says ∷ rs) a = (a.0, frames-low _ n rs a.1)
frames-low h n (form.param p ∷ rs) a = frames-low h _ rs a.1
frames-low h n (form.validation path value ∷ rs) a = frames-low h n rs a.1
frames-low h n (form.set name ∷ rs) a = frames-low h n rs a.1
frames-low h n (form.entry key text ∷ rs) a = frames-low h n rs a.1

candidates-low : (key : ℕ) (fs : List Frame) → Every LowFrame fs → Every LowFrame (candidates key fs)
candidates-low key [] a = tt
candidates-low key (f ∷ fs) a = go (is_key key f.says.base && some? f.validations) (candidates-low key fs a.1)
  where
    go : (b : Bool) → Every LowFrame (candidates key fs) → Every LowFrame (cond b (f ∷ candidates key fs) (candidates key fs))
    go true rest = (a.0, rest)
    go false rest = rest

abbrev LowCandidate : Candidate 7 → Type 0
LowCandidate c = c.says.key ≤ 255

trees-low : (fs : List Frame) → Every LowFrame fs → Every LowCandidate (map candidate_of fs)
trees-low [] a = tt
trees-low (f ∷ fs) a = (a.0, trees-low fs a.1)

all-low : (t : List ℕ) (key : ℕ) → Every LowCandidate (candidates_of key (definition t))
all-low t key =
    trees-low (candidates key (definition t).frames)
    (candidates-low key (definition t).frames (frames-low 0 0 (records form.form (lines t)) (records-low (lines t))))

chosen_low : (t d : List ℕ) (key : ℕ) (h : Heading) → Chosen (definition t) d key h → h.key < 256
chosen_low t d key h c =
    let first = c.first in
    let low : c.one.says.key ≤ 255 =
    every_split LowCandidate first.front c.one first.back (subst (Every LowCandidate) first.place (all-low t key)) in
    let is : h.key ≡ c.one.says.key = ap (λ (x : Heading). x.key) c.heading in
    omega arith

-- ---- and so that of an answer
abbrev LowKey : Result DecodedHeader Refusal → Type 0
LowKey (Ok h) = h.key < 256
LowKey (Err x) = Unit

decoded-low : (t d : List ℕ) (region speed n : ℕ) → LowKey (decoded t d region speed n)
decoded-low t d region speed n =
    go (verdict t) (ltb 2048 (length d)) (ltb (length d) 2) (told_of t d region speed n)
    (told-says (definition t) d (n / row_width) (key_of t region speed) (told_of t d region speed n) refl)
  where
    go : (v : Result (Unit {0}) Refusal) (long short : Bool) (x : Told) → Says (definition t) d (n / row_width) (key_of t region speed) x
        → LowKey (judged v (cond long (Err (TooLong (length d))) (cond short (Err (TooShort (length d))) (of_told t (right d speed) x))))
    go (Err y) long short x s = tt
    go (Ok tt) true short x s = tt
    go (Ok tt) false true x s = tt
    go (Ok tt) false false (no_base k) s = tt
    go (Ok tt) false false no_candidate s = tt
    go (Ok tt) false false (more_rows k) s = tt
    go (Ok tt) false false (header h) s = chosen_low t d (key_of t region speed) h s.chosen

pub key_low : (t d : List ℕ) (region speed n : ℕ) (h : DecodedHeader) → decoded t d region speed n ≡ Ok h → h.key < 256
key_low t d region speed n h e = rw e at (decoded-low t d region speed n)

-- ---- what refuses
abbrev pub OnlyThree : Result DecodedHeader Refusal → Type 0
OnlyThree (Ok h) = Unit
OnlyThree (Err x) = (5 ≤ number_of x) × (number_of x ≤ 7)

pub only_three : (t d : List ℕ) (region speed : ℕ) → verdict t ≡ Ok tt → length d ≤ 2048
    → OnlyThree (decoded t d region speed most_numbers)
only_three t d region speed accepted few =
    rw (accepted, le-ltb 2048 (length d) few) (go (ltb (length d) 2) refl (told_of t d region speed most_numbers) refl)
  where
    table : List ℕ
    table = replicate most_numbers 0

    full : length table ≡ most_numbers
    full = length-replicate {A = ℕ} most_numbers 0

    never : 2 ≤ length d → number_in (decoded t d region speed most_numbers) ≡ 8 → ⊥
    never l q =
        let all = decodes t d region speed table (decoded t d region speed (length table)) _ refl refl in
        (all.by_readings (record { accepted = accepted; long = l; short = few })).enough (omega arith)
        (ap (λ (n : ℕ). number_in (decoded t d region speed n)) full ∙ q)

    go : (short : Bool) → ltb (length d) 2 ≡ short → (y : Told) → told_of t d region speed most_numbers ≡ y
        → OnlyThree (cond short (Err (TooShort (length d))) (of_told t (right d speed) y))
    go true q y is = (omega arith, omega arith)
    go false q (no_base k) is = (omega arith, omega arith)
    go false q no_candidate is = (omega arith, omega arith)
    go false q (more_rows k) is = absurd (never (ltb-false (length d) 2 q) (rw (accepted, le-ltb 2048 (length d) few, q, is) refl))
    go false q (header h) is = tt
