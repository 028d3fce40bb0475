-- O6 and O7 (docs/RULES.md): a frame text with its H blocks sorted by name, written into a lent buffer; and the places in the text that this is done by.
use Rattle.std.specs.Prelude.{ℕ, suc, ◌+◌, ◌-◌, ◌≤◌, ◌<◌, Bool, cond, ◌≡◌, List, [], ◌∷◌, ◌++◌, eqb, length, take, drop, Result}
use Rattle.std.proofs.lemmas.List.Edits.{sets}
use Rattle.buffer.specs.Buffer.{answer_in, answer_by, buffer_after}
use Rattle.text.specs.Text.{lines, field, fields}
use Rattle.text.specs.Scan.{cut}
use Rattle.text.specs.Print.{Every}
use Rattle.text.specs.Records.{Readable}
use Rattle.text.specs.declared.Place.{Place}
use Rattle.frame_kept.specs.Letters.{letter_h}
use Rattle.frame_text.specs.Rules.{rules, verdict}
use Rattle.reorder.specs.Blocks.{only, letter_of, owns_more, until_next, ended, Line, says_of}
use Rattle.reorder.specs.Sorted.{up_to, sort_by, placed, sorted_text}
use Rattle.sorting.specs.declared.Chosen.{Chosen}
use Rattle.refusal.specs.declared.Refusal.{Refusal}

-- ---- the answer

-- O6, R10: what `sort_headers` answers for any text, and leaves in the buffer b
pub record Sorts (t b : List ℕ) (r : Result ℕ Refusal) (b' : List ℕ) : Type 0 where
  pub answer : r ≡ answer_by (verdict t) (answer_in (length t) (length b))
  pub buffer : b' ≡ buffer_after (sorted_text t) b r

-- ---- places in a text

-- the lines from a place on
abbrev pub lines_at : List ℕ → ℕ → List Line
lines_at t p = ended (lines (drop p t))

-- the line at a place, the name in it, and the place behind it
abbrev pub line_at : List ℕ → ℕ → Line
line_at t p = take (cut 0x0a (drop p t)) (drop p t)

abbrev pub name_at : List ℕ → ℕ → List ℕ
name_at t p = field 4 (fields (line_at t p))

abbrev pub behind : List ℕ → ℕ → ℕ
behind t p = p + (cut 0x0a (drop p t) + 1)

-- may the block at p stand before that at q
abbrev pub earlier : List ℕ → ℕ → ℕ → Bool
earlier t p q = up_to (name_at t p) (name_at t q)

-- does an H line stand there
abbrev pub is_header : List ℕ → ℕ → Bool
is_header t p = eqb (letter_of (says_of (line_at t p))) letter_h

-- where the sections begin of lines of which the first begins at a place
abbrev pub starts_from : ℕ → List Line → List ℕ
starts_from at [] = []
starts_from at (l ∷ ls) = cond (owns_more (says_of l)) (at ∷ starts_from (at + suc (length l)) ls) (starts_from (at + suc (length l)) ls)

abbrev pub starts_at : List ℕ → ℕ → List ℕ
starts_at t p = starts_from p (lines_at t p)

-- the bytes of lines, each with its end
abbrev pub bytes_of : List Line → List ℕ
bytes_of [] = []
bytes_of (l ∷ ls) = l ++ 0x0a ∷ bytes_of ls

-- the first line and those up to the next that owns what follows
abbrev pub first_section : List Line → List Line
first_section [] = []
first_section (l ∷ ls) = l ∷ until_next says_of ls

-- the bytes of the section that begins at p, and of several
unfoldable pub section_bytes : List ℕ → ℕ → List ℕ
section_bytes t p = bytes_of (first_section (lines_at t p))

abbrev pub gathered : List ℕ → List ℕ → List ℕ
gathered t [] = []
gathered t (p ∷ ps) = section_bytes t p ++ gathered t ps

-- every line from p on is one of the forms
pub record Here (t : List ℕ) (p : ℕ) : Type 0 where
  pub place : Place
  pub at_is : place.at ≡ p
  pub readable : Readable rules t place

-- and if there is one, it owns what follows
pub record Between (t : List ℕ) (p : ℕ) : Type 0 where
  pub here : Here t p
  pub owned : until_next says_of (lines_at t p) ≡ []

-- there is one
pub record Starts (t : List ℕ) (p : ℕ) : Type 0 where
  pub between : Between t p
  pub inside : p < length t

-- the section that begins at p ends before q
pub record Ends (t : List ℕ) (p q : ℕ) : Type 0 where
  pub bytes : section_bytes t p ≡ take (q - p) (drop p t)
  pub starts : starts_at t p ≡ p ∷ starts_at t q
  pub next : Between t q
  pub on : p < q
  pub within : q ≤ length t

-- in the place of the section at `at` stands one that begins at the start chosen, however the sections go on
pub record Chooses (t starts : List ℕ) (used at : ℕ) (r : Chosen) : Type 0 where
  pub chosen : (ps : List ℕ) → placed (is_header t) (drop used starts) (at ∷ ps) ≡ r.start ∷ placed (is_header t) (drop r.used starts) ps
  pub start : Starts t r.start
  pub others : Every (Starts t) (drop r.used starts)

-- the section that begins at p stands in the buffer from `out` on, and ends before r
pub record Puts (t : List ℕ) (p : ℕ) (b : List ℕ) (out r : ℕ) (b' : List ℕ) : Type 0 where
  pub buffer : b' ≡ sets b out (section_bytes t p)
  pub end : r ≡ out + length (section_bytes t p)

-- the first n of a table are where the blocks begin
pub record Collects (t table : List ℕ) (n : ℕ) : Type 0 where
  pub first : take n table ≡ only (is_header t) (starts_at t 0)
  pub inside : n ≤ length table

-- the same, sorted by name
pub record CollectsSorted (t table : List ℕ) (n : ℕ) : Type 0 where
  pub first : take n table ≡ sort_by (earlier t) (only (is_header t) (starts_at t 0))
  pub inside : n ≤ length table
