-- Laws of the candidate that is named, and of its rows. Assumes nothing.
use mathlib.Core.Path.{◌≡◌, refl, sym, ap, ◌∙◌}
use mathlib.Core.List.{List, [], ◌∷◌, map}
use Prim.Native.Nat.{ℕ, suc, ◌+◌, ◌-◌, ◌*◌, ◌≤◌, ◌<◌}
use native.Mathlib.Numerals.{add-one}
use native.Mathlib.Omega.{arith}
use lib.ListN.{length, length-map}
use mir.Syntax.{w64}
use mir.Val.{Fits}
use borrow.Author.Tests.{eq-eqb, ne_eqb}
use Rattle.rows.specs.Rows.{laid}
use Rattle.text.specs.Print.{Every}
use Rattle.text.specs.Records.{Readable}
use Rattle.text.specs.declared.Place.{Place}
use Rattle.frame_text.specs.Rules.{rules, verdict}
use Rattle.frame_definition.specs.Definition.{Numbered, Frame, frames, definition, first_base, candidates}
use Rattle.frame_definition.specs.Find.{from, FindsBase, Counted, frame_of, IsCandidate, FindsCandidate}
use Rattle.frame_definition.specs.Leveled.{Leveled}
use Rattle.frame_definition.proofs.Candidates.{counted_starts}
use Rattle.frame_definition.proofs.Leveled.{base_leveled, candidates_leveled}
use Rattle.frame_definition.specs.declared.Candidate.{Candidate}
use Rattle.header_fields.specs.Fields.{line_width, fields_in}
use Rattle.header_rules.specs.Table.{row_width}
use Rattle.header_rules.specs.Loaded.{shown}
use Rattle.header_rules.specs.Trees.{trees, candidate_of}
use Rattle.header_rules.specs.Told.{candidates_of}
use Rattle.header_rules.proofs.Walked.{flat_rows}
use Rattle.header_paths.specs.Scratch.{scratch_width, rows_in}
use Rattle.header_paths.proofs.Scratch.{length-rows_in}
use Rattle.header_candidates.specs.Read.{base_of, HoldsBase, ReadsBase, ReadsBehind}
use Rattle.header_candidates.specs.Choose.{lines_at}
use Rattle.header_candidates.specs.declared.Read.{Read}
use Rattle.header_named.specs.Named.{named, IsNamed, FindsNamed, rows_of, Gives, ReadsNamed}
use Rattle.std.specs.Prelude.{Option, Some, None, Ok}

-- ---- candidate by candidate: what is left decides
pub record Naming (t : List ℕ) (key number : ℕ) (p : Place) (h n : ℕ) : Type 0 where
  pub counted : Counted t p h n
  pub leveled : Every (λ (f : Frame). Leveled f.params) (candidates key (frames h n (from t p)))
  pub left : named number (candidates_of key (definition t)) ≡ named number (map candidate_of (candidates key (frames h n (from t p))))

pub naming_starts : (t : List ℕ) (key number : ℕ) (p : Place) → verdict t ≡ Ok tt → p ≡ record { at = 0; line = 1 } → Naming t key number p 0 0
naming_starts t key number p accepted e =
    rw e (record { counted = counted_starts t _ accepted refl; leveled = candidates_leveled t key accepted; left = refl })

pub naming_counted : (t : List ℕ) (key number : ℕ) (p : Place) (h n : ℕ) → Naming t key number p h n → Counted t p h n
naming_counted t key number p h n w = w.counted

module _ (t : List ℕ) (key number : ℕ) (p : Place) (h n : ℕ) (r : Option Candidate) (w : Naming t key number p h n)
    (finds : FindsCandidate t p key h n r) where
  pub naming_none : r ≡ None → FindsNamed t key number None
  naming_none e = let none_left : candidates key (frames h n (from t p)) ≡ [] = rw e at finds in w.left ∙ rw none_left refl

  module _ (c : Candidate) (e : r ≡ Some c) where
    abbrev is : IsCandidate t p key h n c
    is = rw e at finds

    abbrev rest : List Frame
    rest = candidates key (frames (suc c.number) c.params (from t c.place))

    levels : Every (λ (f : Frame). Leveled f.params) (frame_of t key c ∷ rest)
    levels = rw is.first at w.leveled

    pub naming_here : c.number ≡ number → FindsNamed t key number (Some c)
    naming_here q =
        record {
          one_is = w.left ∙ rw (is.first, eq-eqb c.number number q) refl;
          readable = is.counted.readable;
          before = omega (arith, is.counted.params_few, is.counted.readable.inn.at_in);
          few = levels.0.few;
        }

    pub naming_more : (c.number ≡ number → ⊥) → Naming t key number c.place (c.number + 1) c.params
    naming_more q =
        record {
          counted = rw (add-one c.number) is.counted;
          leveled = rw (add-one c.number) levels.1;
          left = rw (add-one c.number) (w.left ∙ rw (is.first, ne_eqb c.number number q) refl);
        }

    pub naming_fits : Fits w64 (c.number + 1)
    naming_fits = omega (arith, is.counted.headers_few, is.counted.readable.inn.at_in, is.counted.short)

    pub naming_on : length t - c.place.at < length t - p.at
    naming_on = omega (arith, is.on, is.counted.readable.inn.at_in)

-- ---- its rows
module _ (t d : List ℕ) (own : List Numbered) (fields₀ : List ℕ) (base : Read) (fields scratch : List ℕ) (read : Read)
    (r : ReadsBehind t d own fields₀ base fields scratch read) where
  abbrev bs : List Numbered
  bs = base_of t fields₀ base

  pub named-lines : 128 * line_width ≤ length fields → read.count * line_width ≤ length fields
  named-lines room = omega (arith, r.both.few)

  pub named_scratch : 128 * scratch_width ≤ length scratch → read.rows * scratch_width ≤ length scratch
  named_scratch room = omega (arith, r.both.rows_few)

  pub named-room : (table : List ℕ) → 128 * row_width ≤ length table → read.rows * row_width ≤ length table
  named-room table room = omega (arith, r.both.rows_few)

  pub rows-given : (table table' : List ℕ)
      → table' ≡ laid table (map (shown (fields_in t fields read.count) (definition t).sets) (rows_in scratch read.rows))
      → Gives (rows_of t d (trees bs) (trees own)) table read.rows table'
  rows-given table table' e =
      let same : map (shown (fields_in t fields read.count) (definition t).sets) (rows_in scratch read.rows) ≡ rows_of t d (trees bs) (trees own) =
      rw (r.both.lines, r.both.rows) (flat_rows bs own d (definition t).sets) in
      record {
        rows_are = e ∙ ap (laid table) same;
        count = sym (ap length (sym same)
            ∙ length-map (rows_in scratch read.rows) (shown (fields_in t fields read.count) (definition t).sets) ∙ length-rows_in scratch read.rows);
        few = r.both.rows_few;
      }

pub rows_behind : (t d : List ℕ) (bs own : List Numbered) (fields scratch : List ℕ) (base : Read) (table : List ℕ) (r : ℕ) (table' : List ℕ)
    → ReadsBase t d bs fields scratch base
    → Gives (rows_of t d (trees (base_of t fields base)) (trees own)) table r table' → Gives (rows_of t d (trees bs) (trees own)) table r table'
rows_behind t d bs own fields scratch base table r table' first gives = rw first.lines at gives

pub base_holds : (t d : List ℕ) (ps : List Numbered) (fields scratch : List ℕ) (base : Read) → ReadsBase t d ps fields scratch base
    → HoldsBase t d fields scratch base
base_holds t d ps fields scratch base r = r.holds

-- ---- the call
module _ (t : List ℕ) (key : ℕ) (f : Option (Place × ℕ)) (finds : FindsBase t key f) where
  pub no_base : (d : List ℕ) (number : ℕ) (table : List ℕ) → f ≡ None → ReadsNamed t d key number table None table
  no_base d number table e b q =
      let none_is : first_base key (definition t).bases ≡ None = rw e at finds in
      let z : ◌≡◌ (Some b) None = sym q ∙ none_is in
      absurd (let w : ◌≡◌ {A = ℕ} 0 1 = cc in omega arith)

  module _ (p : Place) (n : ℕ) (e : f ≡ Some (p, n)) where
    abbrev at_base : FindsBase t key (Some (p, n))
    at_base = rw e at finds

    pub base_readable : Readable rules t p
    base_readable = at_base.1

    pub base_before : n ≤ length t
    base_before = at_base.2

    pub base_few : verdict t ≡ Ok tt → length (lines_at t p n) ≤ 64
    base_few accepted = (base_leveled t key (record { key = key; params = lines_at t p n }) accepted at_base.0).few

    module _ (number : ℕ) (x : Option Candidate) (c : Candidate) (names : FindsNamed t key number x) (q : x ≡ Some c) where
      abbrev one : IsNamed t key number c
      one = rw q at names

      pub named-readable : Readable rules t c.place
      named-readable = one.readable

      pub named-before : c.params ≤ length t
      named-before = one.before

      pub named_few : length (lines_at t c.place c.params) ≤ 64
      named_few = one.few

      pub named_reads : (d table : List ℕ) (r : ℕ) (table' : List ℕ)
          → Gives (rows_of t d (trees (lines_at t p n)) (trees (lines_at t c.place c.params))) table r table'
          → ReadsNamed t d key number table (Some r) table'
      named_reads d table r table' gives = record { base = _; base_is = at_base.0; one = _; one_is = one.one_is; gives = gives }

pub named_none : (t d : List ℕ) (key number : ℕ) (x : Option Candidate) (table : List ℕ) → FindsNamed t key number x → x ≡ None
    → ReadsNamed t d key number table None table
named_none t d key number x table names e b q = rw e at names

pub ruleset laws = (
  naming_starts,
  naming_counted,
  naming_none,
  naming_here,
  naming_more,
  naming_fits,
  naming_on,
  rows-given,
  rows_behind,
  base_holds,
  named-lines,
  named_scratch,
  named-room,
  no_base,
  base_readable,
  base_before,
  base_few,
  named-readable,
  named-before,
  named_few,
  named_reads,
  named_none,
)
