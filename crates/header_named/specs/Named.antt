-- LS4 (docs/RULES.md): the candidate that a number names, and the rows of its reading.
use Rattle.std.specs.Prelude.{◌≡◌, cond, List, [], ◌∷◌, ℕ, ◌≤◌, eqb, length, Option, Some, None}
use Rattle.rows.specs.Rows.{laid}
use Rattle.text.specs.Records.{Readable}
use Rattle.frame_text.specs.Rules.{rules}
use Rattle.frame_definition.specs.Definition.{Base, definition, first_base}
use Rattle.frame_definition.specs.Find.{frame_of}
use Rattle.frame_definition.specs.declared.Candidate.{Candidate}
use Rattle.header_rules.specs.Data.{P, Candidate as Header}
use Rattle.header_rules.specs.Walk.{reading}
use Rattle.header_rules.specs.Table.{table_of}
use Rattle.header_rules.specs.Trees.{trees, candidate_of}
use Rattle.header_rules.specs.Told.{candidates_of}
use Rattle.header_candidates.specs.Choose.{lines_at}

-- LS4: the candidate with a number, from 0 among all H lines
abbrev pub named : ℕ → List (Header 7) → Option (Header 7)
named number [] = None
named number (c ∷ cs) = cond (eqb c.number number) (Some c) (named number cs)

-- the answer is the candidate with this number
pub record IsNamed (t : List ℕ) (key number : ℕ) (c : Candidate) : Type 0 where
  pub one_is : named number (candidates_of key (definition t)) ≡ Some (candidate_of (frame_of t key c))
  pub readable : Readable rules t c.place
  pub before : c.params ≤ length t
  pub few : length (lines_at t c.place c.params) ≤ 64

abbrev pub FindsNamed : List ℕ → ℕ → ℕ → Option Candidate → Type 0
FindsNamed t key number (Some c) = IsNamed t key number c
FindsNamed t key number None = named number (candidates_of key (definition t)) ≡ None

-- the rows of the reading of a base's lines and a candidate's
abbrev pub rows_of : List ℕ → List ℕ → List (P 7) → List (P 7) → List (List ℕ)
rows_of t d base own = table_of 7 d (definition t).sets (reading 7 d base own)

-- they are in the table, and are so many
pub record Gives (rows : List (List ℕ)) (table : List ℕ) (r : ℕ) (table' : List ℕ) : Type 0 where
  pub rows_are : table' ≡ laid table rows
  pub count : r ≡ length rows
  pub few : r ≤ 128

-- LS4: the rows of the candidate with this number, behind the base's
pub record GivesNamed (t d : List ℕ) (key number : ℕ) (table : List ℕ) (r : ℕ) (table' : List ℕ) : Type 0 where
  pub base : Base
  pub base_is : first_base key (definition t).bases ≡ Some base
  pub one : Header 7
  pub one_is : named number (candidates_of key (definition t)) ≡ Some one
  pub gives : Gives (rows_of t d (trees base.params) one.params) table r table'

-- LS4: by cases of the answer
abbrev pub ReadsNamed : List ℕ → List ℕ → ℕ → ℕ → List ℕ → Option ℕ → List ℕ → Type 0
ReadsNamed t d key number table (Some n) table' = GivesNamed t d key number table n table'
ReadsNamed t d key number table None table' =
    (b : Base) → first_base key (definition t).bases ≡ Some b → named number (candidates_of key (definition t)) ≡ None
