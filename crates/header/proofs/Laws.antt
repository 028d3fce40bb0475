-- Laws of the header of an MPDU. Assumes nothing.
use mathlib.Core.Path.{◌≡◌, refl, sym, ap, ◌∙◌}
use mathlib.Core.Bool.{Bool, true, false, cond}
use mathlib.Core.List.{List, [], ◌∷◌, map}
use Prim.Native.Nat.{ℕ, zero, suc, ◌+◌, ◌*◌, ◌/◌, ◌≤◌, ◌<◌}
use native.Mathlib.Omega.{arith}
use lib.Dec.{leb}
use lib.ListN.{length, get_or, length-map, replicate, length-replicate, get_or-eq_default}
use borrow.Author.Tests.{le-leb, lt-leb, lt-ltb, le-ltb}
use Rattle.refusal.specs.declared.Refusal.{Refusal}
use Rattle.refusal.specs.declared.Refusal.TheVariants.{TooLong, TooShort, NoBase, NoCandidate, MoreRows}
use Rattle.rows.specs.Rows.{put, laid}
use Rattle.text.specs.Records.{Readable}
use Rattle.text.specs.declared.Place.{Place}
use Rattle.frame_text.specs.Rules.{rules, verdict}
use Rattle.frame_definition.specs.Definition.{Numbered, params, definition, first_base}
use Rattle.frame_definition.specs.Names.{header_name}
use Rattle.frame_definition.specs.Find.{FindsBase}
use Rattle.frame_definition.proofs.Leveled.{base_leveled}
use Rattle.frame_definition.specs.declared.Candidate.{Candidate}
use Rattle.crc.specs.Crc.{right}
use Rattle.header_fields.specs.Fields.{line_width, fields_in}
use Rattle.header_rules.specs.Data.{total}
use Rattle.header_rules.specs.Walk.{reading}
use Rattle.header_rules.specs.Answer.{refused, answer}
use Rattle.header_rules.specs.Table.{row_width, table_of}
use Rattle.header_rules.specs.Trees.{trees}
use Rattle.header_rules.specs.Loaded.{shown}
use Rattle.header_rules.proofs.Walked.{flat_rows, flat-bit}
use Rattle.header_rules.specs.Told.{Heading, Told, more_rows, header, offset_of, fitted, candidates_of, told}
use Rattle.header_paths.specs.Scratch.{scratch_width, row_in, rows_in}
use Rattle.header_paths.proofs.Scratch.{length-rows_in, get_d_rows_in}
use Rattle.header_candidates.specs.Read.{Roomy, base_of, HoldsBase, ReadsBase}
use Rattle.header_candidates.specs.Choose.{lines_at, IsChosen, Chooses}
use Rattle.header_candidates.specs.declared.Read.{Read}
use Rattle.header.specs.declared.DecodedHeader.{DecodedHeader}
use Rattle.header.specs.declared.Wanted.{Wanted}
use Rattle.header.specs.declared.Wanted.TheVariants.{All, Nothing, One}
use Rattle.header.specs.Decode.{key_of, told_of, decoded, table_after, Decodes}
use Rattle.header.specs.Steps.{wanted_in, wanted_after, Gives, Ready, headed, rows_read, fits, Shows, Picks, Reads, Answers}
use Rattle.header.proofs.Says.{decodes}
use Rattle.std.specs.Prelude.{Option, Some, None, Result, Ok, Err}

-- ---- the rows that are wanted
row_of : {A : Type 0} (f : A → List ℕ) (l : List A) (k : ℕ) (d : A) → k < length l → get_or (map f l) k [] ≡ f (get_or l k d)
row_of f [] k d h = absurd (omega arith)
row_of f (x ∷ xs) zero d h = refl
row_of f (x ∷ xs) (suc k) d h = row_of f xs k d (omega arith)

put-nothing : (table : List ℕ) (at : ℕ) → table ≡ put table at []
put-nothing table at = go (leb (at + 0) (length table))
  where
    go : (b : Bool) → table ≡ cond b table table
    go true = refl
    go false = refl

module _ (t fields scratch : List ℕ) (read : Read) (wanted : Wanted) (table : List ℕ) where
  abbrev rows : List (List ℕ)
  rows = rows_read t fields scratch read

  rows_many : length rows ≡ read.rows
  rows_many = length-map (rows_in scratch read.rows) (shown (fields_in t fields read.count) (definition t).sets) ∙ length-rows_in scratch read.rows

  pub wanted-all : (table' : List ℕ) → table' ≡ laid table rows → wanted ≡ All → table' ≡ wanted_in wanted table rows
  wanted-all table' is e = rw e is

  pub wanted-nothing : wanted ≡ Nothing → table ≡ wanted_in wanted table rows
  wanted-nothing e = rw e refl

  module _ (k : ℕ) (e : wanted ≡ One k) where
    pub wanted_one : (table' : List ℕ)
        → table' ≡ put table (k * row_width) (shown (fields_in t fields read.count) (definition t).sets (row_in scratch k)) → k < read.rows
        → table' ≡ wanted_in wanted table rows
    wanted_one table' is inside =
        let one : get_or rows k [] ≡ shown (fields_in t fields read.count) (definition t).sets (row_in scratch k) =
        row_of (shown (fields_in t fields read.count) (definition t).sets) (rows_in scratch read.rows) k (row_in scratch k) (rw length-rows_in inside)
        ∙ ap (shown (fields_in t fields read.count) (definition t).sets) (get_d_rows_in scratch read.rows k (row_in scratch k) inside) in
        rw (e, one) is

    pub wanted-past : read.rows ≤ k → table ≡ wanted_in wanted table rows
    wanted-past past =
        let none_there : get_or rows k [] ≡ [] = get_or-eq_default rows [] (omega (arith, rows_many)) in
        rw (e, none_there) (put-nothing table (k * row_width))

  pub row_room : Ready fields scratch read → (k : ℕ) → k < read.rows → (k + 1) * scratch_width ≤ length scratch
  row_room ready k inside = omega (arith, ready.rows)

  pub row_place : read.rows * row_width ≤ length table → (k : ℕ) → k < read.rows → k * row_width ≤ length table
  row_place room k inside = omega arith

pub ready_lines : (fields scratch : List ℕ) (read : Read) → Ready fields scratch read → read.count * line_width ≤ length fields
ready_lines fields scratch read ready = ready.lines

pub ready_rows : (fields scratch : List ℕ) (read : Read) → Ready fields scratch read → read.rows * scratch_width ≤ length scratch
ready_rows fields scratch read ready = ready.rows

pub ruleset wanted_laws = (wanted-all, wanted-nothing, wanted_one, wanted-past, row_room, row_place, ready_lines, ready_rows)

-- ---- the answer for a candidate that was read
module _ (t fields scratch : List ℕ) (read : Read) (h : DecodedHeader) (table : List ℕ) where
  pub show_more : (wanted : Wanted) → length table / row_width < read.rows
      → Shows t fields scratch read h wanted table (Err (MoreRows read.rows)) table
  show_more wanted more = let no = lt-leb read.rows (length table / row_width) more in record { answer = rw no refl; rows = rw no refl }

  pub show_wanted : (wanted : Wanted) (table' : List ℕ) → read.rows ≤ length table / row_width
      → table' ≡ wanted_in wanted table (rows_read t fields scratch read)
      → Shows t fields scratch read h wanted table (Ok h) table'
  show_wanted wanted table' few is-table =
      let yes = le-leb read.rows (length table / row_width) few in record { answer = rw yes refl; rows = rw yes is-table }

  pub rows_fit : read.rows ≤ length table / row_width → read.rows * row_width ≤ length table
  rows_fit few = omega arith

pub headed_is : (c : Candidate) (read : Read) (ok : Bool) (offset : ℕ) → offset ≡ offset_of read.bit.0
    → record { number = c.number; key = c.key; flags = c.flags; name = c.name; payload = offset; right = ok; rows = read.rows } ≡ headed c read ok
headed_is c read ok offset e = rw e refl

-- what is told of it
abbrev heading_read : List ℕ → List ℕ → List ℕ → Candidate → Read → Heading
heading_read t fields scratch c read =
    record {
      number = c.number;
      key = c.key;
      ack = c.flags.ack;
      routed = c.flags.routed;
      multicast = c.flags.multicast;
      error = c.flags.error;
      offset = offset_of read.bit.0;
      rows = rows_read t fields scratch read;
    }

module _ (t fields scratch : List ℕ) (c : Candidate) (read : Read) (ok : Bool) (wanted : Wanted) (table : List ℕ) (r : Result DecodedHeader Refusal) (table' : List ℕ)
    (is_name : c.name ≡ header_name t c.number) where
  rows_read_lem : length (rows_read t fields scratch read) ≡ read.rows
  rows_read_lem = rows_many t fields scratch read wanted table

  abbrev heading : Heading
  heading = heading_read t fields scratch c read

  gives_shown : Shows t fields scratch read (headed c read ok) wanted table r table'
      → Gives t ok (fitted (length table / row_width) heading) wanted table r table'
  gives_shown s = go (fits read table) refl s.answer s.rows
    where
      go : (b : Bool) → fits read table ≡ b → r ≡ cond b (Ok (headed c read ok)) (Err (MoreRows read.rows))
          → table' ≡ cond b (wanted_in wanted table (rows_read t fields scratch read)) table
          → Gives t ok (fitted (length table / row_width) heading) wanted table r table'
      go true e is-r is-table =
          let f : fitted (length table / row_width) heading ≡ header heading = rw (rows_read_lem, e) refl in
          rw (f, is-r) (record { answer = rw (is_name, rows_read_lem) refl; rows = is-table })
      go false e is-r is-table =
          let f : fitted (length table / row_width) heading ≡ more_rows read.rows = rw (rows_read_lem, e) refl in
          rw (f, is-r) (record { answer = refl; rows = is-table })

-- ---- the base
pub base_readable : (t : List ℕ) (key : ℕ) (p : Place) (n : ℕ) → FindsBase t key (Some (p, n)) → Readable rules t p
base_readable t key p n f = f.1

pub base_number : (t : List ℕ) (key : ℕ) (p : Place) (n : ℕ) → FindsBase t key (Some (p, n)) → n ≤ length t
base_number t key p n f = f.2

pub base_few : (t : List ℕ) (key : ℕ) (p : Place) (n : ℕ) → FindsBase t key (Some (p, n)) → verdict t ≡ Ok tt
    → length (lines_at t p n) ≤ 64
base_few t key p n f accepted = (base_leveled t key (record { key = key; params = lines_at t p n }) accepted f.0).few

pub base_holds : (t d : List ℕ) (ps : List Numbered) (fields scratch : List ℕ) (base : Read) → ReadsBase t d ps fields scratch base
    → HoldsBase t d fields scratch base
base_holds t d ps fields scratch base r = r.holds

-- ---- the choice
module _ (t d : List ℕ) (key : ℕ) (bs : List Numbered) (fields scratch : List ℕ) (r : Option (Candidate × Read)) (c : Candidate) (read : Read)
    (chooses : Chooses t d key bs fields scratch r) (e : r ≡ Some (c, read)) where
  chosen : IsChosen t d key bs fields scratch c read
  chosen = rw e at chooses

  pub chosen_ready : (fields₀ scratch₀ : List ℕ) → Roomy d fields₀ scratch₀ → length fields ≡ length fields₀
      → length scratch ≡ length scratch₀ → Ready fields scratch read
  chosen_ready fields₀ scratch₀ roomy same-fields same_scratch =
      record {
        lines = omega (arith, chosen.own.few, roomy.lines);
        rows = omega (arith, chosen.own.rows_few, roomy.rows);
        bit_in = omega (arith, chosen.own.within, roomy.short);
      }

  abbrev own : List Numbered
  own = lines_at t c.place c.params

  the_bit : read.bit.0 ≡ total (reading 7 d (trees bs) (trees own))
  the_bit = chosen.own.bit_is ∙ flat-bit bs own d

  the_rows : map (shown (fields_in t fields read.count) (definition t).sets) (rows_in scratch read.rows)
      ≡ table_of 7 d (definition t).sets (reading 7 d (trees bs) (trees own))
  the_rows = rw (chosen.own.lines, chosen.own.rows) (flat_rows bs own d (definition t).sets)

  pub picks_one : (speed : ℕ) (ok : Bool) (wanted : Wanted) (h : DecodedHeader) (table : List ℕ) (x : Result DecodedHeader Refusal) (table' : List ℕ)
      → ok ≡ right d speed
      → h ≡ headed c read ok → Shows t fields scratch read h wanted table x table' → Picks t d speed key bs wanted table x table'
  picks_one speed ok wanted h table x table' is_ok is_h shows =
      let given = gives_shown t fields scratch c read ok wanted table x table' chosen.named (rw is_h at shows) in
      rw (chosen.answer_is, ← the_bit, ← the_rows, ← is_ok) given

  pub chosen_bit : (fields₀ scratch₀ : List ℕ) → Roomy d fields₀ scratch₀ → read.bit.0 ≤ 16384
  chosen_bit fields₀ scratch₀ roomy = omega (arith, chosen.own.within, roomy.short)

pub picks_none : (t d : List ℕ) (speed key : ℕ) (bs : List Numbered) (fields scratch : List ℕ) (r : Option (Candidate × Read)) (wanted : Wanted)
    (table : List ℕ) → Chooses t d key bs fields scratch r → r ≡ None
    → Picks t d speed key bs wanted table (Err NoCandidate) table
picks_none t d speed key bs fields scratch r wanted table chooses e =
    let none_is : answer 7 d (trees bs) (candidates_of key (definition t)) ≡ refused 7 = rw e at chooses in
    rw none_is (record { answer = refl; rows = refl })

-- ---- what is told by it
pub reads_picked : (t d : List ℕ) (speed key : ℕ) (p : Place) (n : ℕ) (fields scratch : List ℕ) (base : Read) (wanted : Wanted)
    (table : List ℕ) (x : Result DecodedHeader Refusal) (table' : List ℕ)
    → ReadsBase t d (lines_at t p n) fields scratch base → FindsBase t key (Some (p, n))
    → Picks t d speed key (base_of t fields base) wanted table x table'
    → Reads t d speed key wanted table x table'
unfolding told
reads_picked t d speed key p n fields scratch base wanted table x table' r f picks = rw (f.0, ← r.lines) picks

-- ---- an accepted text
module _ (t d : List ℕ) (region speed : ℕ) (wanted : Wanted) (table : List ℕ) (accepted : verdict t ≡ Ok tt) where
  -- a refusal writes nothing
  answers_refused : (x : Refusal) → Err x ≡ decoded t d region speed (length table) → Answers t d region speed wanted table (Err x) table
  answers_refused x is = record { answer = is; rows = refl }

  pub answers_long : 2048 < length d → Answers t d region speed wanted table (Err (TooLong (length d))) table
  answers_long h = answers_refused _ (rw (accepted, lt-ltb 2048 (length d) h) refl)

  pub answers_short : length d ≤ 2048 → length d < 2 → Answers t d region speed wanted table (Err (TooShort (length d))) table
  answers_short s h = answers_refused _ (rw (accepted, le-ltb 2048 (length d) s, lt-ltb (length d) 2 h) refl)

  module _ (s : length d ≤ 2048) (l : 2 ≤ length d) (key : ℕ) (is_key : key ≡ key_of t region speed) where
    pub answers_no_base : (r : Option (Place × ℕ)) → FindsBase t key r → r ≡ None → Answers t d region speed wanted table (Err (NoBase key)) table
    unfolding told
    answers_no_base r finds e =
        let none_is : first_base (key_of t region speed) (definition t).bases ≡ None = rw (e, is_key) at finds in
        answers_refused _ (rw (accepted, le-ltb 2048 (length d) s, le-ltb (length d) 2 l, none_is, is_key) refl)

    pub answers_read : (r : Result DecodedHeader Refusal) (table' : List ℕ) → Reads t d speed key wanted table r table' → Answers t d region speed wanted table r table'
    answers_read r table' reads =
        record {
          answer = rw (accepted, le-ltb 2048 (length d) s, le-ltb (length d) 2 l, ← is_key) reads.answer;
          rows = rw (← is_key) reads.rows;
        }

    pub base_at : (r : Option (Place × ℕ)) (p : Place) (n : ℕ) → FindsBase t key r → r ≡ Some (p, n) → FindsBase t key (Some (p, n))
    base_at r p n finds e = rw e at finds

pub decodes_all : (t d : List ℕ) (region speed : ℕ) (table : List ℕ) (r : Result DecodedHeader Refusal) (table' : List ℕ)
    → Answers t d region speed All table r table' → Decodes t d region speed table r table'
decodes_all t d region speed table r table' a =
    decodes t d region speed table r table' a.answer (a.rows ∙ all_after (told_of t d region speed (length table)) r)
  where
    all_after : (x : Told) (r : Result DecodedHeader Refusal) → wanted_after All table x r ≡ table_after table x r
    all_after x (Ok h) = refl
    all_after x (Err y) = refl

pub identified : (t d : List ℕ) (region speed : ℕ) (r : Result DecodedHeader Refusal) (table' : List ℕ)
    → Answers t d region speed Nothing (replicate {A = ℕ} 896 0) r table' → r ≡ decoded t d region speed (128 * row_width)
identified t d region speed r table' a = a.answer ∙ ap (decoded t d region speed) (length-replicate {A = ℕ} 896 0)

-- ---- any text
pub accepted-text : (t : List ℕ) (v : Result (Unit {0}) Refusal) → v ≡ verdict t → v ≡ Ok tt → verdict t ≡ Ok tt
accepted-text t v e q = sym e ∙ q

pub decodes_refused : (t d : List ℕ) (region speed : ℕ) (table : List ℕ) (v : Result (Unit {0}) Refusal) (x : Refusal) → v ≡ verdict t → v ≡ Err x
    → Decodes t d region speed table (Err x) table
decodes_refused t d region speed table v x e q = decodes t d region speed table _ _ (rw (sym e ∙ q) refl) refl

pub ruleset laws = (
  wanted_laws,
  show_more,
  show_wanted,
  rows_fit,
  headed_is,
  base_readable,
  base_number,
  base_few,
  base_holds,
  chosen_ready,
  chosen_bit,
  picks_one,
  picks_none,
  reads_picked,
  answers_long,
  answers_short,
  answers_no_base,
  answers_read,
  base_at,
  decodes_all,
  identified,
  accepted-text,
  decodes_refused,
)
