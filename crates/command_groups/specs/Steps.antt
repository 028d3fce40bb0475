-- What the functions of the walk answer, over the definitions of the rules. The table t, which passes over s rows, becomes t', from row k
-- on.
use Rattle.std.specs.Prelude.{true, false, ◌≡◌, List, ◌∷◌, ℕ, ◌+◌, ltb, length, set, Option, Some, None}
use Rattle.records.specs.declared.BodyOffset.{BodyOffset}
use Rattle.command_class.specs.Definition.{Parameter}
use Rattle.command_lengths.specs.Entries.{no_entry}
use Rattle.command_rows.specs.Rows.{written}
use Rattle.command_rules.specs.Lengths.{least, most_entries}
use Rattle.command_rules.specs.Walk.{Walked, turn, repetition_row}
use Rattle.command_rules.specs.declared.Offsets.{Offsets}
use Rattle.command_rules.specs.declared.Offsets.TheVariants.{Answered, Position}
use Rattle.command_groups.specs.declared.Taken.{Taken}
use Rattle.command_groups.specs.declared.Repeated.{Repeated}

-- a list: its rows, how many they are, where it ends
pub record Gives (w : Walked) (s : ℕ) (t : List ℕ) (k : ℕ) (t' : List ℕ) (r : Taken) : Type 0 where
  pub rows : t' ≡ written s t k w.rows
  pub count : r.count ≡ length w.rows
  pub end : r.end.0 ≡ w.end

-- a group: how often it repeats, besides
pub record GivesGroup (w : Walked) (s : ℕ) (t : List ℕ) (k : ℕ) (t' : List ℕ) (r : Repeated) : Type 0 where
  pub rows : t' ≡ written s t k w.rows
  pub count : r.count ≡ length w.rows
  pub end : r.end.0 ≡ w.end
  pub times : r.times ≡ w.times

module _ (body : List ℕ) (line : ℕ) (qs : List Parameter) (number at n s : ℕ) (t : List ℕ) (k : ℕ) (t' : List ℕ) where
  -- a repetition takes something
  pub record IsTook (e : BodyOffset) (c : ℕ) : Type 0 where
    pub took : ltb at (turn body qs at n).end ≡ true
    pub end : e.0 ≡ (turn body qs at n).end
    pub count : c ≡ length (turn body qs at n).rows + 1
    pub rows : t' ≡ written s t k (repetition_row line at (turn body qs at n).end number ∷ (turn body qs at n).rows)

  -- it takes nothing
  pub record IsNothing : Type 0 where
    pub took : ltb at (turn body qs at n).end ≡ false
    pub rows : t' ≡ t

  abbrev pub Repeats : Option Taken → Type 0
  Repeats (Some r) = IsTook r.end r.count
  Repeats None = IsNothing

-- ---- the entries that are kept, after an absent Q or a group

-- how they stand in their places
abbrev pub unvalued_kept : Offsets → List ℕ → ℕ → List ℕ
unvalued_kept Answered kept have = kept
unvalued_kept Position kept have = set kept have no_entry

-- how many they are
abbrev pub unvalued_have : Offsets → ℕ → ℕ → ℕ
unvalued_have Answered have times = least (have + times) most_entries
unvalued_have Position have times = least (have + 1) most_entries
