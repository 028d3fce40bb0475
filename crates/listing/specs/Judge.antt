-- LS4 to LS7 (docs/RULES.md): what is said of a listing, by the lawful readings and without any walk.
use Rattle.std.specs.Prelude.{◌≡◌, ◌↔◌, List, ℕ, Option, Some, None, Ok, Err}
use Rattle.refusal.specs.declared.Refusal.{Refusal}
use Rattle.refusal.specs.declared.Refusal.TheVariants.{Listing}
use Rattle.text.specs.Text.{lines}
use Rattle.frame_definition.specs.Definition.{Definition, Base, definition, first_base}
use Rattle.header_rules.specs.Data.{Field, Candidate}
use Rattle.header_rules.specs.Lawful.{Reading}
use Rattle.header_rules.specs.Demand.{First}
use Rattle.header_rules.specs.Table.{most_numbers, table_of}
use Rattle.header_rules.specs.Trees.{trees}
use Rattle.header_rules.specs.Told.{candidates_of}
use Rattle.header.specs.Decode.{key_of, decoded}
use Rattle.header.specs.declared.DecodedHeader.{DecodedHeader}
use Rattle.header_named.specs.Named.{named}
use Rattle.listing_text.specs.Listing.{closed, listing_of, names, form_of, differs}
use Rattle.listing.specs.declared.Judgement.{Judgement}
use Rattle.listing.specs.declared.Judgement.TheVariants.{Yes, Differs, Refused}

-- LS5: yes, where no line differs
abbrev pub or_yes : Option ℕ → Judgement
or_yes None = Yes
or_yes (Some k) = Differs k

-- LS6: the line that differs; the last, where only the header is wrong
abbrev pub or_last : ℕ → Option ℕ → ℕ
or_last last None = last
or_last last (Some k) = k

-- LS5, LS6: what is said of the listing l, whose last line names the H of this number, by the base header b
pub record Against (def : Definition) (d : List ℕ) (key : ℕ) (b : Base) (l : List ℕ) (number last : ℕ) (r : Judgement) : Type 0 where
  -- the first candidate that holds: its rows are held against those of its lawful reading
  pub first : (c : Candidate 7) (fs : List (Field 7)) → named number (candidates_of key def) ≡ Some c
      → First 7 d (trees b.params) (candidates_of key def) c fs
      → r ≡ or_yes (differs 1 (closed (table_of 7 d def.sets fs) number) l)
  -- any other candidate: by its lawful reading all the same, whether it holds or not, and then by the last line
  pub other : (c : Candidate 7) (fs : List (Field 7)) → named number (candidates_of key def) ≡ Some c → Reading 7 d (trees b.params) c.params fs
      → (First 7 d (trees b.params) (candidates_of key def) c fs → ⊥)
      → r ≡ Differs (or_last last (differs 1 (closed (table_of 7 d def.sets fs) number) l))
  -- no candidate: the last line
  pub no_candidate : named number (candidates_of key def) ≡ None → r ≡ Differs last
  -- LS7: yes exactly where l is the listing of the first candidate that holds, byte by byte
  pub exactly : (r ≡ Yes) ↔ ((c : Candidate 7) × (fs : List (Field 7)) × First 7 d (trees b.params) (candidates_of key def) c fs
      × (l ≡ listing_of (table_of 7 d def.sets fs) c.number))

-- LS4: what `judge_listing` answers: first as the header's call refuses by a table of 128 rows, then by the listing's form, then by its lines
pub record Judges (t d : List ℕ) (region speed : ℕ) (l : List ℕ) (r : Judgement) : Type 0 where
  pub refused : (x : Refusal) → decoded t d region speed most_numbers ≡ Err x → r ≡ Refused x
  pub wrong : (h : DecodedHeader) (k : ℕ) → decoded t d region speed most_numbers ≡ Ok h → form_of 1 (lines l) ≡ Err k
      → r ≡ Refused (Listing k)
  pub judged : (h : DecodedHeader) (number last : ℕ) → decoded t d region speed most_numbers ≡ Ok h → form_of 1 (lines l) ≡ names number last
      → (b : Base) → first_base (key_of t region speed) (definition t).bases ≡ Some b
      → Against (definition t) d (key_of t region speed) b l number last r
