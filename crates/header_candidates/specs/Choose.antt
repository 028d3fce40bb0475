-- The candidate that is chosen.
use Rattle.std.specs.Prelude.{◌≡◌, Bool, true, false, List, ℕ, Option, Some, None}
use Rattle.text.specs.declared.Place.{Place}
use Rattle.frame_definition.specs.Definition.{Numbered, below, params, validations, definition}
use Rattle.frame_definition.specs.Names.{header_name}
use Rattle.frame_definition.specs.Find.{from, frame_of}
use Rattle.frame_definition.specs.declared.Candidate.{Candidate}
use Rattle.header_rules.specs.Walk.{reading}
use Rattle.header_rules.specs.Answer.{answered, refused, answer, meets_all}
use Rattle.header_rules.specs.Trees.{trees, candidate_of}
use Rattle.header_rules.specs.Told.{candidates_of}
use Rattle.header_candidates.specs.Read.{base_of, ReadsOwn, Kept}
use Rattle.header_candidates.specs.declared.Read.{Read}

-- the P lines under the owner of what follows p, after n P lines
abbrev pub lines_at : List ℕ → Place → ℕ → List Numbered
lines_at t p n = params n (below (from t p))

-- does the reading of a candidate with these P lines, whose V lines follow p, meet all V
abbrev pub holds_at : List ℕ → List ℕ → List Numbered → Place → List Numbered → Bool
holds_at t d bs p own = meets_all 7 d (reading 7 d (trees bs) (trees own)) (validations (below (from t p)))

abbrev pub HeldBy : List ℕ → List ℕ → List Numbered → Place → ℕ → List ℕ → List ℕ → Option Read → Type 0
HeldBy t d bs p n fields scratch (Some r) = (holds_at t d bs p (lines_at t p n) ≡ true) × ReadsOwn t d bs (lines_at t p n) fields scratch r
HeldBy t d bs p n fields scratch None = holds_at t d bs p (lines_at t p n) ≡ false

-- what a candidate's trial answers, and leaves in the tables
pub record Tries (t d : List ℕ) (p : Place) (n : ℕ) (fields₀ : List ℕ) (base : Read) (fields scratch : List ℕ) (r : Option Read) : Type 0 where
  pub kept : Kept t d fields₀ base fields scratch
  pub held_by : HeldBy t d (base_of t fields₀ base) p n fields scratch r

-- the answer is the candidate c, read as the tables hold it
pub record IsChosen (t d : List ℕ) (key : ℕ) (bs : List Numbered) (fields scratch : List ℕ) (c : Candidate) (r : Read) : Type 0 where
  pub answer_is : answer 7 d (trees bs) (candidates_of key (definition t))
      ≡ answered (candidate_of (frame_of t key c)) (reading 7 d (trees bs) (trees (lines_at t c.place c.params)))
  pub own : ReadsOwn t d bs (lines_at t c.place c.params) fields scratch r
  pub named : c.name ≡ header_name t c.number

-- by cases of the choice
abbrev pub Chooses : List ℕ → List ℕ → ℕ → List Numbered → List ℕ → List ℕ → Option (Candidate × Read) → Type 0
Chooses t d key bs fields scratch (Some (c, r)) = IsChosen t d key bs fields scratch c r
Chooses t d key bs fields scratch None = answer 7 d (trees bs) (candidates_of key (definition t)) ≡ refused 7
