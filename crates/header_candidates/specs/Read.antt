-- What the tables hold of a base header and, behind it, of a candidate. d are the bytes of the MPDU.
use Rattle.std.specs.Prelude.{◌≡◌, List, ◌++◌, ℕ, ◌*◌, ◌≤◌, length}
use Rattle.refusal.specs.Refusal.{most_frame}
use Rattle.frame_definition.specs.Definition.{Numbered}
use Rattle.header_fields.specs.Fields.{line_width, fields_in}
use Rattle.header_rules.specs.Loaded.{base_walked, own_walked}
use Rattle.header_paths.specs.Scratch.{scratch_width, rows_in}
use Rattle.header_candidates.specs.declared.Read.{Read}

-- room for 128 lines and for 128 rows, and an MPDU within its limit
pub record Roomy (d fields scratch : List ℕ) : Type 0 where
  pub short : length d ≤ most_frame
  pub lines : 128 * line_width ≤ length fields
  pub rows : 128 * scratch_width ≤ length scratch

-- the P lines of the base that are loaded
abbrev pub base_of : List ℕ → List ℕ → Read → List Numbered
base_of t fields r = fields_in t fields r.count

-- the tables hold a base's P lines and the rows of their walk
pub record HoldsBase (t d fields scratch : List ℕ) (r : Read) : Type 0 where
  pub few : r.count ≤ 64
  pub bit_is : r.bit.0 ≡ (base_walked (base_of t fields r) d).bit
  pub within : r.bit.0 ≤ length d * 8
  pub rows : rows_in scratch r.rows ≡ (base_walked (base_of t fields r) d).rows
  pub rows_few : r.rows ≤ 64

-- they hold these lines of a base
pub record ReadsBase (t d : List ℕ) (ps : List Numbered) (fields scratch : List ℕ) (r : Read) : Type 0 where
  pub lines : base_of t fields r ≡ ps
  pub holds : HoldsBase t d fields scratch r

-- they hold the base's lines bs and a candidate's behind them, and the rows of the walk of both
pub record ReadsOwn (t d : List ℕ) (bs own : List Numbered) (fields scratch : List ℕ) (r : Read) : Type 0 where
  pub lines : fields_in t fields r.count ≡ bs ++ own
  pub few : r.count ≤ 128
  pub bit_is : r.bit.0 ≡ (own_walked bs own d).bit
  pub within : r.bit.0 ≤ length d * 8
  pub rows : rows_in scratch r.rows ≡ (own_walked bs own d).rows
  pub rows_few : r.rows ≤ 128

-- the base is as it was
pub record Kept (t d fields₀ : List ℕ) (base : Read) (fields scratch : List ℕ) : Type 0 where
  pub lines : base_of t fields base ≡ base_of t fields₀ base
  pub holds : HoldsBase t d fields scratch base

-- a candidate read behind the base
pub record ReadsBehind (t d : List ℕ) (own : List Numbered) (fields₀ : List ℕ) (base : Read) (fields scratch : List ℕ) (r : Read) : Type 0 where
  pub kept : Kept t d fields₀ base fields scratch
  pub both : ReadsOwn t d (base_of t fields₀ base) own fields scratch r
