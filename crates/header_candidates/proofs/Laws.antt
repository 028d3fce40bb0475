-- Laws of reading a base header and its candidates. Assumes nothing.
use mathlib.Core.Path.{◌≡◌, refl, sym, ap, ◌∙◌}
use mathlib.Core.Bool.{Bool, true, false, cond, ◌&&◌}
use mathlib.Core.List.{List, [], ◌∷◌, map, head-eq_of_cons-eq, nil≢cons}
use Prim.Native.Nat.{ℕ, suc, ◌+◌, ◌-◌, ◌*◌, ◌≤◌, ◌<◌}
use native.Mathlib.Numerals.{add-one}
use native.Mathlib.Omega.{arith}
use lib.ListN.{length}
use mir.Syntax.{w64}
use mir.Val.{Fits}
use Rattle.laws.proofs.Bools.{and_right}
use Rattle.text.specs.Print.{Every}
use Rattle.text.specs.Records.{Readable}
use Rattle.text.specs.declared.Place.{Place}
use Rattle.frame_text.specs.Rules.{rules, verdict}
use Rattle.frame_definition.specs.Definition.{Numbered, Frame, below, params, validations, frames, definition, is_key, some?, candidates}
use Rattle.frame_definition.specs.Find.{from, Counted, frame_of, IsCandidate, FindsCandidate}
use Rattle.frame_definition.specs.Leveled.{Leveled}
use Rattle.frame_definition.proofs.Candidates.{counted_starts}
use Rattle.frame_definition.proofs.Leveled.{candidates_leveled}
use Rattle.frame_definition.specs.declared.Candidate.{Candidate}
use Rattle.header_fields.specs.Fields.{line_width, fields_from, fields_in}
use Rattle.header_fields.specs.Load.{Loads}
use Rattle.header_fields.proofs.Laws.{fields-length}
use Rattle.header_rules.specs.Walk.{reading}
use Rattle.header_rules.specs.Answer.{answered, answer}
use Rattle.header_rules.specs.Trees.{trees, candidate_of}
use Rattle.header_rules.specs.Flat.{flat_meets}
use Rattle.header_rules.specs.Flat as flat
use Rattle.header_rules.specs.Loaded.{name_of, walked_from, base_walked, own_walked}
use Rattle.header_rules.specs.Decide.{ruled_out}
use Rattle.header_rules.proofs.Walked.{flat-meets}
use Rattle.header_rules.proofs.Decide.{base_refutes}
use Rattle.header_rules.specs.Told.{candidates_of}
use Rattle.header_paths.specs.Scratch.{scratch_width, rows_in}
use Rattle.header_walk.specs.Walk.{Walks}
use Rattle.header_walk.specs.declared.Walked.{Walked}
use Rattle.header_candidates.specs.Read.{Roomy, base_of, HoldsBase, ReadsBase, Kept, ReadsBehind}
use Rattle.header_candidates.specs.Choose.{lines_at, holds_at, Tries, Chooses}
use Rattle.header_candidates.specs.declared.Read.{Read}
use Rattle.std.specs.Prelude.{Option, Some, None, Ok}

-- a candidate has a V
pub candidate_some : (key : ℕ) (gs : List Frame) (f : Frame) (fs : List Frame) → candidates key gs ≡ f ∷ fs → some? f.validations ≡ true
candidate_some key [] f fs e = absurd (nil≢cons e)
candidate_some key (g ∷ gs) f fs e = go (is_key key g.says.base && some? g.validations) refl e (candidate_some key gs f fs)
  where
    go : (t : Bool) → (is_key key g.says.base && some? g.validations) ≡ t → cond t (g ∷ candidates key gs) (candidates key gs) ≡ f ∷ fs
        → (candidates key gs ≡ f ∷ fs → some? f.validations ≡ true) → some? f.validations ≡ true
    go true h e ih =
        ap (λ (x : Frame). some? x.validations) (sym (head-eq_of_cons-eq e)) ∙ and_right (is_key key g.says.base) (some? g.validations) h
    go false h e ih = ih e

-- ---- the base
module _ (t d : List ℕ) (p : Place) (n : ℕ) (fields₀ fields scratch₀ scratch : List ℕ) (count : ℕ) (w : Walked) where
  pub base_read : Loads t p n fields₀ 0 count fields
      → Walks d scratch₀ scratch 0 (count - 0) (walked_from (fields_in t fields count) d 0 0 (rows_in scratch₀ 0)) w → length (lines_at t p n) ≤ 64
      → ReadsBase t d (lines_at t p n) fields scratch (record { count = count; bit = w.bit; rows = w.rows })
  unfolding rows_in fields_from
  base_read load walk few =
      let size : count ≡ 0 + length (lines_at t p n) = load.count in
      record {
        lines = load.lines;
        holds = record {
          few = omega arith;
          bit_is = walk.bit_is;
          within = walk.within;
          rows = rw walk.count walk.rows;
          rows_few = omega (arith, walk.few);
        };
      }

-- ---- a candidate behind it
module _ (t d : List ℕ) (p : Place) (n : ℕ) (fields₀ fields scratch₀ scratch : List ℕ) (base : Read) (count : ℕ) (w : Walked)
    (holds : HoldsBase t d fields₀ scratch₀ base) (load : Loads t p n fields₀ base.count count fields)
    (walk : Walks d scratch₀ scratch base.rows (count - base.count)
    (walked_from (fields_in t fields count) d base.count base.bit.0 (rows_in scratch₀ base.rows)) w) where
  abbrev bs : List Numbered
  bs = base_of t fields₀ base

  own_walk : walked_from (fields_in t fields count) d base.count base.bit.0 (rows_in scratch₀ base.rows)
      ≡ own_walked bs (lines_at t p n) d
  own_walk =
      let size : length bs ≡ base.count = fields-length t fields₀ base.count 0 in
      rw (load.lines, holds.bit_is, holds.rows, size) refl

  pub own_read : length (lines_at t p n) ≤ 64 → ReadsBehind t d (lines_at t p n) fields₀ base fields scratch
      (record { count = count; bit = w.bit; rows = w.rows })
  own_read few =
      let size : count ≡ base.count + length (lines_at t p n) = load.count in
      record {
        kept = record {
          lines = load.kept;
          holds = record {
            few = holds.few;
            bit_is = rw load.kept holds.bit_is;
            within = holds.within;
            rows = walk.kept ∙ rw load.kept holds.rows;
            rows_few = holds.rows_few;
          };
        };
        both = record {
          lines = load.lines;
          few = omega (arith, holds.few);
          bit_is = walk.bit_is ∙ ap (λ (x : flat.Walked). x.bit) own_walk;
          within = walk.within;
          rows = ap (rows_in scratch) walk.count ∙ walk.rows ∙ ap (λ (x : flat.Walked). x.rows) own_walk;
          rows_few = omega (arith, walk.few, holds.rows_few, holds.few);
        };
      }

-- ---- its trial
module _ (t d : List ℕ) (p : Place) (n : ℕ) (fields₀ : List ℕ) (base : Read) (fields scratch : List ℕ) (r : Read) (b : Bool)
    (read : ReadsBehind t d (lines_at t p n) fields₀ base fields scratch r)
    (test : b ≡ flat_meets (name_of (fields_in t fields r.count)) (rows_in scratch r.rows) (validations (below (from t p)))) where
  is_held : b ≡ holds_at t d (base_of t fields₀ base) p (lines_at t p n)
  is_held =
      test ∙ (rw (read.both.lines, read.both.rows) (flat-meets (base_of t fields₀ base) (lines_at t p n) d (validations (below (from t p)))))

  pub tries_holds : b ≡ true → Tries t d p n fields₀ base fields scratch (Some r)
  tries_holds e = record { kept = read.kept; held_by = (sym is_held ∙ e, read.both) }

  pub tries_fails : b ≡ false → Tries t d p n fields₀ base fields scratch None
  tries_fails e = record { kept = read.kept; held_by = sym is_held ∙ e }

-- the base alone rules it out
pub tries_ruled : (t d : List ℕ) (p : Place) (n : ℕ) (fields scratch : List ℕ) (base : Read) (b : Bool) → HoldsBase t d fields scratch base
    → b ≡ ruled_out (name_of (fields_in t fields base.count)) (rows_in scratch base.rows) (validations (below (from t p))) → b ≡ true
    → Tries t d p n fields base fields scratch None
tries_ruled t d p n fields scratch base b holds test e =
    let ruled : ruled_out (name_of (base_of t fields base)) (base_walked (base_of t fields base) d).rows (validations (below (from t p))) ≡ true =
    rw holds.rows at (sym test ∙ e) in
    record {
      kept = record { lines = refl; holds = holds };
      held_by = base_refutes (base_of t fields base) (lines_at t p n) d (validations (below (from t p))) ruled;
    }

-- what is read fits the tables
pub own_lines : (t d : List ℕ) (own : List Numbered) (fields₀ : List ℕ) (base : Read) (fields scratch : List ℕ) (r : Read)
    → ReadsBehind t d own fields₀ base fields scratch r → 128 * line_width ≤ length fields → r.count * line_width ≤ length fields
own_lines t d own fields₀ base fields scratch r read room = omega (arith, read.both.few)

pub own_rows : (t d : List ℕ) (own : List Numbered) (fields₀ : List ℕ) (base : Read) (fields scratch : List ℕ) (r : Read)
    → ReadsBehind t d own fields₀ base fields scratch r → 128 * scratch_width ≤ length scratch → r.rows * scratch_width ≤ length scratch
own_rows t d own fields₀ base fields scratch r read room = omega (arith, read.both.rows_few)

-- ---- candidate by candidate: what is left decides

pub record Choosing (t d : List ℕ) (key : ℕ) (fields₀ scratch₀ : List ℕ) (base : Read) (fields scratch : List ℕ) (p : Place)
    (h n : ℕ) : Type 0 where
  pub counted : Counted t p h n
  pub roomy : Roomy d fields scratch
  pub same-fields : length fields ≡ length fields₀
  pub same_scratch : length scratch ≡ length scratch₀
  pub kept : Kept t d fields₀ base fields scratch
  pub leveled : Every (λ (f : Frame). Leveled f.params) (candidates key (frames h n (from t p)))
  pub left : answer 7 d (trees (base_of t fields₀ base)) (candidates_of key (definition t))
      ≡ answer 7 d (trees (base_of t fields₀ base)) (map candidate_of (candidates key (frames h n (from t p))))

pub choosing_starts : (t d : List ℕ) (key : ℕ) (base : Read) (fields scratch : List ℕ) (p : Place) → verdict t ≡ Ok tt → Roomy d fields scratch
    → HoldsBase t d fields scratch base
    → p ≡ record { at = 0; line = 1 } → Choosing t d key fields scratch base fields scratch p 0 0
choosing_starts t d key base fields scratch p accepted roomy holds e =
    rw e (record {
      counted = counted_starts t _ accepted refl;
      roomy = roomy;
      same-fields = refl;
      same_scratch = refl;
      kept = record { lines = refl; holds = holds };
      leveled = candidates_leveled t key accepted;
      left = refl;
    })

pub choosing_counted : (t d : List ℕ) (key : ℕ) (fields₀ scratch₀ : List ℕ) (base : Read) (fields scratch : List ℕ) (p : Place) (h n : ℕ)
    → Choosing t d key fields₀ scratch₀ base fields scratch p h n → Counted t p h n
choosing_counted t d key fields₀ scratch₀ base fields scratch p h n w = w.counted

module _ (t d : List ℕ) (key : ℕ) (fields₀ scratch₀ : List ℕ) (base : Read) (fields scratch : List ℕ) (p : Place) (h n : ℕ) (r : Option Candidate)
    (w : Choosing t d key fields₀ scratch₀ base fields scratch p h n) (found : FindsCandidate t p key h n r) where
  pub chooses_none : r ≡ None → Chooses t d key (base_of t fields₀ base) fields scratch None
  unfolding answer
  chooses_none e = let none_left : candidates key (frames h n (from t p)) ≡ [] = rw e at found in w.left ∙ rw none_left refl

  module _ (c : Candidate) (e : r ≡ Some c) where
    abbrev is : IsCandidate t p key h n c
    is = rw e at found

    abbrev rest : List Frame
    rest = candidates key (frames (suc c.number) c.params (from t c.place))

    -- the V lines are more than none, so the reading decides
    decides : (b : Bool) → holds_at t d (base_of t fields₀ base) c.place (lines_at t c.place c.params) ≡ b
        → answer 7 d (trees (base_of t fields₀ base)) (candidates_of key (definition t))
        ≡ cond b (answered (candidate_of (frame_of t key c)) (reading 7 d (trees (base_of t fields₀ base)) (trees (lines_at t c.place c.params))))
        (answer 7 d (trees (base_of t fields₀ base)) (map candidate_of rest))
    unfolding answer
    decides b q =
        let has : some? (validations (below (from t c.place))) ≡ true = candidate_some key (frames h n (from t p)) (frame_of t key c) rest is.first in
        w.left ∙ rw (is.first, has, q) refl

    pub candidate_readable : Readable rules t c.place
    candidate_readable = is.counted.readable

    pub candidate_number : c.params ≤ length t
    candidate_number = omega (arith, is.counted.params_few, is.counted.readable.inn.at_in)

    pub candidate_few : length (lines_at t c.place c.params) ≤ 64
    candidate_few = let l : Every (λ (f : Frame). Leveled f.params) (frame_of t key c ∷ rest) = rw is.first at w.leveled in l.0.few

    pub candidate_fits : Fits w64 (c.number + 1)
    candidate_fits = omega (arith, is.counted.headers_few, is.counted.readable.inn.at_in, is.counted.short)

    pub candidate_on : length t - c.place.at < length t - p.at
    candidate_on = omega (arith, is.on, is.counted.readable.inn.at_in)

    module _ (fields' scratch' : List ℕ) (x : Option Read) (tries : Tries t d c.place c.params fields base fields' scratch' x) where
      same_base : base_of t fields base ≡ base_of t fields₀ base
      same_base = w.kept.lines

      pub chooses_one : (o : Read) → x ≡ Some o → Chooses t d key (base_of t fields₀ base) fields' scratch' (Some (c, o))
      chooses_one o q =
          let by = rw (q, same_base) at tries.held_by in
          record { answer_is = decides true by.0; own = by.1; named = is.named }

      pub choosing_more : length fields' ≡ length fields → length scratch' ≡ length scratch → x ≡ None
          → Choosing t d key fields₀ scratch₀ base fields' scratch' c.place (c.number + 1) c.params
      choosing_more same-fields same_scratch q =
          let by = rw (q, same_base) at tries.held_by in
          let l : Every (λ (f : Frame). Leveled f.params) (frame_of t key c ∷ rest) = rw is.first at w.leveled in
          record {
            counted = rw (add-one c.number) is.counted;
            roomy = record { short = w.roomy.short; lines = rw same-fields w.roomy.lines; rows = rw same_scratch w.roomy.rows };
            same-fields = same-fields ∙ w.same-fields;
            same_scratch = same_scratch ∙ w.same_scratch;
            kept = record { lines = tries.kept.lines ∙ same_base; holds = tries.kept.holds };
            leveled = rw (add-one c.number) l.1;
            left = rw (add-one c.number) (decides false by);
          }

pub ruleset laws = (
  base_read,
  own_read,
  own_lines,
  own_rows,
  tries_holds,
  tries_fails,
  tries_ruled,
  choosing_starts,
  choosing_counted,
  chooses_none,
  candidate_readable,
  candidate_number,
  candidate_few,
  candidate_fits,
  candidate_on,
  chooses_one,
  choosing_more,
)
