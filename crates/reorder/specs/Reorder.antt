-- O2 to O4 (docs/RULES.md): texts that differ in the order of their H blocks, and what is answered by them.
use Rattle.std.specs.Prelude.{ℕ, suc, ◌/◌, ◌≤◌, ◌≡◌, cond, List, [], ◌∷◌, ◌++◌, map, eqb, length, Option, Some, None, Result, Ok, Err}
use Rattle.refusal.specs.declared.Refusal.{Refusal}
use Rattle.refusal.specs.declared.Refusal.TheVariants.{NoBase, NoCandidate}
use Rattle.rows.specs.Rows.{laid}
use Rattle.text.specs.Place.{part_of}
use Rattle.frame_definition.specs.Definition.{Base, definition, first_base}
use Rattle.frame_definition.specs.Names.{header_name}
use Rattle.crc.specs.Crc.{right}
use Rattle.header_rules.specs.Data.{P, Field, Candidate}
use Rattle.header_rules.specs.Demand.{Holds, NoneHold, OneHolds}
use Rattle.header_rules.specs.Table.{row_width, table_of}
use Rattle.header_rules.specs.Trees.{trees}
use Rattle.header_rules.specs.Told.{heading_of, candidates_of}
use Rattle.header_rules.specs.Says.{NoneHolds}
use Rattle.header.specs.declared.DecodedHeader.{DecodedHeader}
use Rattle.header.specs.Decode.{header_of, key_of}
use Rattle.reorder.specs.Moved.{Moved}
use Rattle.reorder.specs.Blocks.{Section, gap, blocks, lines_of, header_numbers, param_numbers, Line, Has, says_of, sections_of}

-- ---- the move

-- O2: t' is t with its H blocks in another order. (A line before the first section has no owner; an accepted text has none: `whole`.)
pub record Reordered (t t' : List ℕ) : Type 0 where
  -- the sections of t, with their numbers in t, as they stand in t'
  pub order : List (Section Line)
  -- blocks stand where blocks stood, and all else stands where it stood
  pub others : map (gap says_of) (sections_of t) ≡ map (gap says_of) order
  -- the blocks are those of t in another order
  pub moved : Moved (blocks says_of (sections_of t)) (blocks says_of order)
  -- and these are the lines of t', all of them
  pub has : Has t' (lines_of says_of order)

-- where k stands in a list, from 0
abbrev pub place_in : List ℕ → ℕ → ℕ
place_in [] k = 0
place_in (x ∷ xs) k = cond (eqb x k) 0 (suc (place_in xs k))

-- O3: the number in t' of the H line that has the number k in t: its line's place among the H lines as they stand there
abbrev pub new_header : List (Section Line) → ℕ → ℕ
new_header order k = place_in (header_numbers says_of order) k

-- and of the P line: all P lines count, those of B lines too
abbrev pub new_param : List (Section Line) → ℕ → ℕ
new_param order k = place_in (param_numbers says_of order) k

-- the i-th H line, and the i-th P line, of the sections as they stand in t' gets the number of the i-th of t'
pub record Follows (h g : ℕ → ℕ) (order after : List (Section Line)) : Type 0 where
  pub headers : map h (header_numbers says_of order) ≡ header_numbers says_of after
  pub params : map g (param_numbers says_of order) ≡ param_numbers says_of after

-- ---- the answer

-- a row with another P number
abbrev pub renumbered : (ℕ → ℕ) → List ℕ → List ℕ
renumbered g [] = []
renumbered g (k ∷ row) = g k ∷ row

-- an answer with another H number, whose name stands in t'
abbrev pub with_number : (ℕ → ℕ) → List ℕ → DecodedHeader → DecodedHeader
with_number h t' x =
    record {
      number = h x.number;
      key = x.key;
      flags = x.flags;
      name = header_name t' (h x.number);
      payload = x.payload;
      right = x.right;
      rows = x.rows;
    }

-- c is the only candidate of cs that holds, by the reading fs
pub record Only (n : ℕ) (d : List ℕ) (base : List (P n)) (cs : List (Candidate n)) (c : Candidate n) (fs : List (Field n)) : Type 0 where
  pub front : List (Candidate n)
  pub back : List (Candidate n)
  pub place : cs ≡ front ++ c ∷ back
  pub holds : Holds n d base c fs
  pub none_before : NoneHold n d base front
  pub none-behind : NoneHold n d base back

-- a call's answer r and the table that it leaves are those of this header and these rows
pub record Gives (table : List ℕ) (x : DecodedHeader) (rows : List (List ℕ)) (r : Result DecodedHeader Refusal) (table' : List ℕ) : Type 0 where
  pub answer : r ≡ Ok x
  pub laid_are : table' ≡ laid table rows

-- a refusal leaves the table
pub record Refuses (table : List ℕ) (y : Refusal) (r : Result DecodedHeader Refusal) (table' : List ℕ) : Type 0 where
  pub answer : r ≡ Err y
  pub as_it_was : table' ≡ table

-- c holds, by the reading fs, and of the candidates of cs that hold none has a lower number after the move
pub record Foremost (n : ℕ) (d : List ℕ) (base : List (P n)) (cs : List (Candidate n)) (h : ℕ → ℕ) (c : Candidate n)
    (fs : List (Field n)) : Type 0 where
  pub front : List (Candidate n)
  pub back : List (Candidate n)
  pub place : cs ≡ front ++ c ∷ back
  pub holds : Holds n d base c fs
  pub least : (xs : List (Candidate n)) (b : Candidate n) (ys : List (Candidate n)) → cs ≡ xs ++ b ∷ ys → (gs : List (Field n))
      → Holds n d base b gs → h c.number ≤ h b.number

-- ---- by the text t: the base header, the candidates, and for a candidate and its reading the answer and its rows
module _ (t : List ℕ) where
  abbrev pub base_by : ℕ → ℕ → Option Base
  base_by region speed = first_base (key_of t region speed) (definition t).bases

  abbrev pub candidates_by : ℕ → ℕ → List (Candidate 7)
  candidates_by region speed = candidates_of (key_of t region speed) (definition t)

  abbrev pub header_by : List ℕ → ℕ → Candidate 7 → List (Field 7) → DecodedHeader
  header_by d speed c fs = header_of t (right d speed) (heading_of (definition t).sets d c fs)

  abbrev pub rows_by : List ℕ → List (Field 7) → List (List ℕ)
  rows_by d fs = table_of 7 d (definition t).sets fs

-- r and table₁ are what a call answers and leaves by t, r' and table₂ what it answers and leaves by t', for the same MPDU, region, speed and table
pub record Harmless (t t' d : List ℕ) (region speed : ℕ) (table : List ℕ) (h g : ℕ → ℕ) (r : Result DecodedHeader Refusal) (table₁ : List ℕ) (r' : Result DecodedHeader Refusal)
    (table₂ : List ℕ) : Type 0 where
  -- the base key is the same
  pub key_same : key_of t' region speed ≡ key_of t region speed
  -- a candidate has the same name in t' as in t
  pub name-same : (xs : List (Candidate 7)) (c : Candidate 7) (ys : List (Candidate 7)) → candidates_by t region speed ≡ xs ++ c ∷ ys
      → part_of t' (header_name t' (h c.number)) ≡ part_of t (header_name t c.number)
  -- no base header has it, before and after
  pub no_base : base_by t region speed ≡ None → Refuses table (NoBase (key_of t region speed)) r table₁
      × Refuses table (NoBase (key_of t region speed)) r' table₂
  -- where no candidate holds, none holds after the move, and both calls say so
  pub none-holds : (b : Base) → base_by t region speed ≡ Some b → NoneHold 7 d (trees b.params) (candidates_by t region speed)
      → NoneHolds (definition t') d (key_of t' region speed) × Refuses table NoCandidate r table₁ × Refuses table NoCandidate r' table₂
  -- where exactly one holds, both calls answer it: key, flags, payload offset, checksum result and rows are the same but for the numbers of H and P lines
  pub one_holds : (b : Base) → base_by t region speed ≡ Some b → (c : Candidate 7) (fs : List (Field 7))
      → Only 7 d (trees b.params) (candidates_by t region speed) c fs
      → length (rows_by t d fs) ≤ length table / row_width
      → Gives table (header_by t d speed c fs) (rows_by t d fs) r table₁
      × Gives table (with_number h t' (header_by t d speed c fs)) (map (renumbered g) (rows_by t d fs)) r' table₂
  -- where some hold, one of them stands first after the move
  pub some_hold : (b : Base) → base_by t region speed ≡ Some b → OneHolds 7 d (trees b.params) (candidates_by t region speed)
      → (c : Candidate 7) × (fs : List (Field 7)) × Foremost 7 d (trees b.params) (candidates_by t region speed) h c fs
  -- and that one is the answer after it
  pub more_hold : (b : Base) → base_by t region speed ≡ Some b → (c : Candidate 7) (fs : List (Field 7))
      → Foremost 7 d (trees b.params) (candidates_by t region speed) h c fs
      → length (rows_by t d fs) ≤ length table / row_width → Gives table (with_number h t' (header_by t d speed c fs))
      (map (renumbered g) (rows_by t d fs)) r' table₂
