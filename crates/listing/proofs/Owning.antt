-- The header that was decoded is the first candidate that holds, and the table has its rows. Assumes nothing.
use mathlib.Core.Path.{◌≡◌, refl, sym, ap, ◌∙◌}
use mathlib.Core.Bool.{Bool, true, false, cond}
use mathlib.Core.List.{List, [], ◌∷◌}
use Prim.Native.Nat.{ℕ, ◌*◌, ◌/◌, ◌≤◌}
use native.Mathlib.Omega.{arith}
use lib.Dec.{ltb}
use lib.ListN.{length, drop, replicate, length-append, length-drop, length-replicate}
use borrow.Author.Tests.{ltb-false}
use Rattle.refusal.specs.declared.Refusal.TheVariants.{TooLong, TooShort}
use Rattle.rows.specs.Rows.{flat, laid}
use Rattle.rows.specs.Parts.{Wide}
use Rattle.frame_text.specs.Rules.{verdict}
use Rattle.frame_definition.specs.Definition.{definition}
use Rattle.crc.specs.Crc.{right}
use Rattle.header_rules.specs.Table.{row_width, most_numbers, table_of}
use Rattle.header_rules.specs.Told.{Told, no_base, no_candidate, more_rows, header, Heading}
use Rattle.header_rules.specs.Says.{Says}
use Rattle.header.specs.declared.DecodedHeader.{DecodedHeader}
use Rattle.header.specs.Decode.{key_of, judged, sized, of_told, told_of, decoded, table_after, number_in, values_in, number_told, values_told}
use Rattle.header.specs.Decode.{Within, ByReadings, Decodes}
use Rattle.header.proofs.Says.{decodes}
use Rattle.listing_text.specs.Steps.{rows_in}
use Rattle.listing_text.proofs.Written.{rows-laid}
use Rattle.listing.specs.Steps.{Own}
use Rattle.listing.proofs.Naming.{table_wide}
use Rattle.std.specs.Prelude.{Result, Ok, Err}
use Rattle.refusal.specs.declared.Refusal.{Refusal}

-- a header is answered only for an accepted text and an MPDU within limits
judged-header : (v : Result (Unit {0}) Refusal) (r : Result DecodedHeader Refusal) (h : DecodedHeader) → judged v r ≡ Ok h → (v ≡ Ok tt) × (r ≡ Ok h)
judged-header (Ok tt) r h e = (refl, e)
judged-header (Err x) r h e = absurd (let z : ◌≡◌ {A = ℕ} 0 1 = cc in omega arith)

sized-header : (d : List ℕ) (r : Result DecodedHeader Refusal) (h : DecodedHeader) → sized d r ≡ Ok h → (length d ≤ 2048) × (2 ≤ length d)
sized-header d r h e = long (ltb 2048 (length d)) refl e
  where
    short : (b : Bool) → ltb (length d) 2 ≡ b → cond b (Err (TooShort (length d))) r ≡ Ok h → 2 ≤ length d
    short true q e = absurd (let z : ◌≡◌ {A = ℕ} 0 1 = cc in omega arith)
    short false q e = ltb-false (length d) 2 q

    long : (b : Bool) → ltb 2048 (length d) ≡ b
        → cond b (Err (TooLong (length d))) (cond (ltb (length d) 2) (Err (TooShort (length d))) r) ≡ Ok h
        → (length d ≤ 2048) × (2 ≤ length d)
    long true q e = absurd (let z : ◌≡◌ {A = ℕ} 0 1 = cc in omega arith)
    long false q e = (ltb-false 2048 (length d) q, short (ltb (length d) 2) refl e)

-- the table stays as long as it was
flat-length : (rs : List (List ℕ)) → Wide 7 rs → length (flat rs) ≡ length rs * 7
flat-length [] w = refl
flat-length (r ∷ rs) w = omega (arith, length-append r (flat rs), w.0, flat-length rs w.1)

pub laid-long : (rs : List (List ℕ)) (table : List ℕ) → Wide 7 rs → length rs ≤ 128 → length table ≡ most_numbers
    → length (laid table rs) ≡ most_numbers
laid-long rs table w few size =
    omega (arith, length-append (flat rs) (drop (length (flat rs)) table), length-drop (length (flat rs)) table, flat-length rs w)

module _ (t d : List ℕ) (region speed : ℕ) (h : DecodedHeader) where
  header-within : decoded t d region speed most_numbers ≡ Ok h → Within t d
  header-within e =
      let a = judged-header (verdict t) (sized d (of_told t (right d speed) (told_of t d region speed most_numbers))) h e in
      let s = sized-header d (of_told t (right d speed) (told_of t d region speed most_numbers)) h a.1 in
      record { accepted = a.0; long = s.1; short = s.0 }

  module _ (table : List ℕ) (r : Result DecodedHeader Refusal) (table' : List ℕ) (c : Decodes t d region speed table r table') (q : r ≡ Ok h)
      (size : length table ≡ most_numbers) where
    header_is : decoded t d region speed most_numbers ≡ Ok h
    header_is = ap (decoded t d region speed) (sym size) ∙ sym c.answer ∙ q

    within : Within t d
    within = header-within header_is

    by_told : (x : Told) → Says (definition t) d (length table / row_width) (key_of t region speed) x → number_told x ≡ 0
        → values_in (Ok h) ≡ values_told (right d speed) x → table' ≡ table_after table x (Ok h)
        → Own t d (key_of t region speed) h.number h.rows table'
    by_told (no_base k) s n v l = absurd (omega arith)
    by_told no_candidate s n v l = absurd (omega arith)
    by_told (more_rows k) s n v l = absurd (omega arith)
    by_told (header x) s n v l =
        let o = s.chosen in
        let numbers : h.number ≡ x.number = cc in
        let counts : h.rows ≡ length x.rows = cc in
        let rows : x.rows ≡ table_of 7 d (definition t).sets o.fields = ap (λ (y : Heading). y.rows) o.heading in
        let most : length x.rows ≤ length table / row_width = s.enough in
        let here : rows_in h.rows table' ≡ x.rows =
        ap (λ (k : ℕ). rows_in k table') counts ∙ ap (rows_in (length x.rows)) l
        ∙ ap (λ (rs : List (List ℕ)). rows_in (length rs) (laid table rs)) rows
        ∙ rows-laid (table_of 7 d (definition t).sets o.fields) (drop (length (flat (table_of 7 d (definition t).sets o.fields))) table)
        (table_wide d (definition t).sets o.fields)
        ∙ sym rows in
        record {
          accepted = within.accepted;
          short = within.short;
          base = o.base;
          base_is = o.base_is;
          one = o.one;
          fields = o.fields;
          first = o.first;
          number_is = numbers ∙ ap (λ (y : Heading). y.number) o.heading;
          rows_are = here ∙ rows;
          long = ap length (l ∙ ap (laid table) rows)
              ∙ laid-long (table_of 7 d (definition t).sets o.fields) table (table_wide d (definition t).sets o.fields)
              (omega (arith, size, ap length rows)) size;
          few = omega (arith, size);
        }

    pub header_own : Own t d (key_of t region speed) h.number h.rows table'
    header_own =
        let by : ByReadings t d region speed table r table' = c.by_readings within in
        by_told by.told by.says (sym by.number ∙ ap number_in q) (ap values_in (sym q) ∙ by.values)
        (by.leaves ∙ ap (table_after table by.told) q)

-- what a header that is answered says, whatever table is lent
abbrev pub fresh : List ℕ
fresh = replicate most_numbers 0

abbrev pub filled : List ℕ → List ℕ → ℕ → ℕ → DecodedHeader → List ℕ
filled t d region speed h = table_after fresh (told_of t d region speed most_numbers) (Ok h)

pub owns : (t d : List ℕ) (region speed : ℕ) (h : DecodedHeader) → decoded t d region speed most_numbers ≡ Ok h
    → Own t d (key_of t region speed) h.number h.rows (filled t d region speed h)
owns t d region speed h q =
    let n : length fresh ≡ most_numbers = length-replicate {A = ℕ} most_numbers 0 in
    header_own t d region speed h fresh (Ok h) (filled t d region speed h)
    (decodes t d region speed fresh (Ok h) (filled t d region speed h) (sym q ∙ ap (decoded t d region speed) (sym n))
    (ap (λ (k : ℕ). table_after fresh (told_of t d region speed k) (Ok h)) (sym n))) refl n
