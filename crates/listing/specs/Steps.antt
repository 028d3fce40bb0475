-- What the steps below `judge_listing` and `write_listing` answer.
use Rattle.std.specs.Prelude.{◌≡◌, List, ℕ, ◌≤◌, length, Some, None, Result, Ok, Err}
use Rattle.refusal.specs.Refusal.{most_frame}
use Rattle.refusal.specs.declared.Refusal.TheVariants.{Listing}
use Rattle.buffer.specs.Buffer.{Writes}
use Rattle.text.specs.Print.{Every}
use Rattle.frame_text.specs.Rules.{verdict}
use Rattle.frame_definition.specs.Definition.{Base, definition, first_base}
use Rattle.header_rules.specs.Data.{Field, Candidate}
use Rattle.header_rules.specs.Demand.{First}
use Rattle.header_rules.specs.Table.{most_numbers, table_of}
use Rattle.header_rules.specs.Trees.{trees}
use Rattle.header_rules.specs.Told.{candidates_of}
use Rattle.header_named.specs.Named.{named, rows_of}
use Rattle.listing_text.specs.Listing.{closed, text_of, differs}
use Rattle.listing_text.specs.Steps.{Small, rows_in}
use Rattle.listing_text.specs.declared.form.Named.{Named}
use Rattle.listing.specs.declared.Judgement.{Judgement}
use Rattle.listing.specs.declared.Judgement.TheVariants.{Differs, Refused}
use Rattle.listing.specs.Judge.{or_last, Against}
use Rattle.refusal.specs.declared.Refusal.{Refusal}

-- the answer is a header with this number, the first candidate that holds, and the table has so many rows of it
pub record Own (t d : List ℕ) (key number count : ℕ) (table : List ℕ) : Type 0 where
  pub accepted : verdict t ≡ Ok tt
  pub short : length d ≤ most_frame
  pub base : Base
  pub base_is : first_base key (definition t).bases ≡ Some base
  pub one : Candidate 7
  pub fields : List (Field 7)
  pub first : First 7 d (trees base.params) (candidates_of key (definition t)) one fields
  pub number_is : number ≡ one.number
  pub rows_are : rows_in count table ≡ table_of 7 d (definition t).sets fields
  pub long : length table ≡ most_numbers
  pub few : count ≤ 128

-- the H of this number is not the first that holds
pub record Other (t d : List ℕ) (key : ℕ) (l : List ℕ) (number last : ℕ) (r : Judgement) : Type 0 where
  pub no_candidate : (b : Base) → first_base key (definition t).bases ≡ Some b → named number (candidates_of key (definition t)) ≡ None
      → r ≡ Differs last
  pub one : (b : Base) → first_base key (definition t).bases ≡ Some b → (c : Candidate 7) → named number (candidates_of key (definition t)) ≡ Some c
      → r ≡ Differs (or_last last (differs 1 (closed (rows_of t d (trees b.params) c.params) number) l))

-- by the listing's form
abbrev pub ByForm : List ℕ → List ℕ → ℕ → List ℕ → Result Named ℕ → Judgement → Type 0
ByForm t d key l (Ok n) r = (b : Base) → first_base key (definition t).bases ≡ Some b → Against (definition t) d key b l n.number n.line r
ByForm t d key l (Err k) r = r ≡ Refused (Listing k)

-- the listing of the first rows of a table and of a number that fit into a listing
pub record WritesRows (rows : List (List ℕ)) (b : List ℕ) (r : Result ℕ Refusal) (b' : List ℕ) : Type 0 where
  pub gives : Writes (text_of rows) b r b'
  pub small : Every Small rows
