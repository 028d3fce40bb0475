-- LS7, LS8: every listing that is written gets yes, and no other does. Assumes nothing.
use mathlib.Core.Path.{◌≡◌, refl, sym, ap, ◌∙◌}
use mathlib.Core.List.{List}
use Prim.Native.Nat.{ℕ, ◌≤◌}
use native.Mathlib.Omega.{arith}
use lib.ListN.{length, take}
use Rattle.refusal.specs.declared.Refusal.TheVariants.{Listing}
use Rattle.buffer.proofs.Laws.{length-written, front_written}
use Rattle.text.specs.Text.{lines}
use Rattle.frame_definition.specs.Definition.{definition}
use Rattle.header_rules.specs.Data.{Field, Candidate}
use Rattle.header_rules.specs.Table.{most_numbers, table_of}
use Rattle.header_rules.specs.Trees.{trees}
use Rattle.header_rules.specs.Told.{candidates_of}
use Rattle.header.specs.declared.DecodedHeader.{DecodedHeader}
use Rattle.header.specs.Decode.{key_of, decoded}
use Rattle.listing_text.specs.Listing.{listing_of, form_of}
use Rattle.listing_text.specs.declared.form.Named.{Named}
use Rattle.listing.specs.declared.Judgement.{Judgement}
use Rattle.listing.specs.declared.Judgement.TheVariants.{Yes, Refused}
use Rattle.listing.specs.Judge.{Judges}
use Rattle.listing.specs.Steps.{Own}
use Rattle.listing.specs.Write.{Writes}
use Rattle.listing.proofs.Naming.{one_first, one_reading}
use Rattle.listing.proofs.Owning.{filled, owns}
use Rattle.std.specs.Prelude.{Result, Ok, Err}
use Rattle.refusal.specs.declared.Refusal.{Refusal}

module _ (t d : List ℕ) (region speed : ℕ) where
  abbrev cs : List (Candidate 7)
  cs = candidates_of (key_of t region speed) (definition t)

  -- LS8: what was written gets yes
  pub own_yes : (b : List ℕ) (x : Result ℕ Refusal) (b' : List ℕ) (n : ℕ) → Writes t d region speed b x b' → x ≡ Ok n
      → (r : Judgement) → Judges t d region speed (take n b') r → r ≡ Yes
  own_yes b x b' n w e r j = go (decoded t d region speed most_numbers) refl
    where
      go : (y : Result DecodedHeader Refusal) → decoded t d region speed most_numbers ≡ y → r ≡ Yes
      go (Err y) q = absurd (let z : Ok n ≡ Err y = sym e ∙ (w.refused y q).0 in let u : ◌≡◌ {A = ℕ} 0 1 = cc in
          omega arith)
      go (Ok h) q =
          let own = owns t d region speed h q in
          let g = w.written h q own.base own.base_is own.one own.fields own.first in
          let l-is : take n b' ≡ listing_of (table_of 7 d (definition t).sets own.fields) own.one.number =
          front_written _ b x b' n g.gives e in
          (j.judged h _ _ q (ap (λ (z : List ℕ). form_of 1 (lines z)) l-is ∙ g.form_is) own.base own.base_is).exactly.1
          (own.one, own.fields, own.first, l-is)

  -- R12: so many bytes as are answered stand in the buffer
  pub written-within : (b : List ℕ) (x : Result ℕ Refusal) (b' : List ℕ) (n : ℕ) → Writes t d region speed b x b' → x ≡ Ok n
      → n ≤ length b'
  written-within b x b' n w e = go (decoded t d region speed most_numbers) refl
    where
      go : (y : Result DecodedHeader Refusal) → decoded t d region speed most_numbers ≡ y → n ≤ length b'
      go (Err y) q = absurd (let z : Ok n ≡ Err y = sym e ∙ (w.refused y q).0 in let u : ◌≡◌ {A = ℕ} 0 1 = cc in
          omega arith)
      go (Ok h) q =
          let own = owns t d region speed h q in
          length-written _ b x b' n (w.written h q own.base own.base_is own.one own.fields own.first).gives e

  -- LS7: what gets yes is the listing of the first candidate that holds
  yes_own : (l : List ℕ) (r : Judgement) → Judges t d region speed l r → r ≡ Yes → (h : DecodedHeader)
      → decoded t d region speed most_numbers ≡ Ok h
      → (own : Own t d (key_of t region speed) h.number h.rows (filled t d region speed h))
      → l ≡ listing_of (table_of 7 d (definition t).sets own.fields) own.one.number
  yes_own l r j y h q own = go (form_of 1 (lines l)) refl
    where
      go : (x : Result Named ℕ) → form_of 1 (lines l) ≡ x → l ≡ listing_of (table_of 7 d (definition t).sets own.fields) own.one.number
      go (Err k) e = absurd (let z : Refused (Listing k) ≡ Yes = sym (j.wrong h k q e) ∙ y in let u : ◌≡◌ {A = ℕ} 0 1 = cc in omega arith)
      go (Ok n) e =
          let w = (j.judged h n.number n.line q e own.base own.base_is).exactly.0 y in
          let c-is : w.0 ≡ own.one =
          one_first d (trees own.base.params) cs w.0 w.1 w.2 own.one own.fields own.first in
          let gs-are : w.1 ≡ own.fields =
          one_reading d (trees own.base.params) cs w.0 w.1 w.2 own.one own.fields own.first in
          w.3 ∙ ap (λ (gs : List (Field 7)). listing_of (table_of 7 d (definition t).sets gs) w.0.number) gs-are
          ∙ ap (λ (c : Candidate 7). listing_of (table_of 7 d (definition t).sets own.fields) c.number) c-is

  -- LS7: yes means the same bytes
  pub only_own : (l m : List ℕ) (r s : Judgement) → Judges t d region speed l r → Judges t d region speed m s → r ≡ Yes → s ≡ Yes → l ≡ m
  only_own l m r s j k y z = go (decoded t d region speed most_numbers) refl
    where
      go : (x : Result DecodedHeader Refusal) → decoded t d region speed most_numbers ≡ x → l ≡ m
      go (Err x) q = absurd (let w : Refused x ≡ Yes = sym (j.refused x q) ∙ y in let u : ◌≡◌ {A = ℕ} 0 1 = cc in omega arith)
      go (Ok h) q = yes_own l r j y h q (owns t d region speed h q) ∙ sym (yes_own m s k z h q (owns t d region speed h q))
