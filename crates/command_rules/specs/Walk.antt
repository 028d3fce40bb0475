-- C9, C13 to C17, D1 to D3 and L3 (docs/RULES.md): the members of a repetition, the repetitions of a group, the outer list.
use Rattle.std.specs.Prelude.{cond, List, [], ◌∷◌, ◌++◌, ℕ, zero, suc, ◌+◌, ◌-◌, ltb, length, replicate, Option, Some, None}
use Rattle.command_text.specs.Form.{Group}
use Rattle.command_class.specs.Definition.{Parameter, Entry, single, repeated}
use Rattle.command_rules.specs.Lengths.{repeats}
use Rattle.command_rules.specs.declared.Earlier.{Earlier}
use Rattle.command_rules.specs.declared.Earlier.TheVariants.{NoValue, NoEntry}
use Rattle.command_rules.specs.declared.Offsets.{Offsets}
use Rattle.command_rules.specs.declared.Offsets.TheVariants.{Answered, Position}
use Rattle.command_rules.specs.declared.Length.{Length}
use Rattle.command_rules.specs.Field.{field_of}
use Rattle.command_rules.specs.declared.Row.{Row}
use Rattle.command_rules.specs.Rows.{repetition_kind}
use Rattle.command_rules.specs.Param.{in_payload, size_at, param_rows, param_entry}

-- what a walk gives: its rows, where it ends in the body, and how many repetitions it has
pub record Walked : Type 0 where
  pub rows : List Row
  pub end : ℕ
  pub times : ℕ

-- nothing more, at a place
abbrev pub ended : ℕ → Walked
ended at = record { rows = []; end = at; times = 0 }

-- rows, and then what a walk gives
abbrev pub after : List Row → Walked → Walked
after rs w = record { rows = rs ++ w.rows; end = w.end; times = w.times }

-- a repetition, and then what a walk gives
abbrev pub once : Walked → Walked
once w = record { rows = w.rows; end = w.end; times = w.times + 1 }

-- by whether a Q exists
abbrev pub on_size : {A : Type 0} → Option Length → (Length → A) → A → A
on_size (Some n) f a = f n
on_size None f a = a

-- C14: the members from a place of the body on, up to the first that doesn't exist. `es` are the entries of this repetition so far, n is the next
-- row, `parent` the repetition's row + 1.
unfoldable pub members : List ℕ → List Parameter → ℕ → List Earlier → ℕ → ℕ → Walked
members body [] at es n parent = ended at
members body (q ∷ qs) at es n parent =
    on_size (size_at body (field_of q) es at)
    (λ size.
    after (param_rows body (field_of q) at size n parent)
    (members body qs (at + size.taken) (es ++ (param_entry body at size.taken ∷ [])) (n + length (param_rows body (field_of q) at size n parent)) parent))
    (ended at)

-- C14: the members of the repetition whose row is n
unfoldable pub turn : List ℕ → List Parameter → ℕ → ℕ → Walked
turn body qs at n = members body qs at [] (n + 1) (n + 1)

-- C16, L3: a repetition's row; its line is its G's, and it has a number from 0
unfoldable pub repetition_row : ℕ → ℕ → ℕ → ℕ → Row
repetition_row line at end k =
    record {
      kind = repetition_kind;
      line = line;
      parent = 0;
      start = in_payload at;
      end = in_payload end;
      valued = 0;
      value = 0;
      named = 0;
      number = k;
      lacking = 0;
    }

-- C15: the repetitions of a group from number k on, at most so many; one without a byte ends the group
unfoldable pub repetitions : List ℕ → ℕ → List Parameter → ℕ → ℕ → ℕ → ℕ → Walked
repetitions body line qs zero k at n = ended at
repetitions body line qs (suc most) k at n =
    cond (ltb at (turn body qs at n).end)
    (after (repetition_row line at (turn body qs at n).end k ∷ (turn body qs at n).rows)
    (once (repetitions body line qs most (k + 1) (turn body qs at n).end (n + 1 + length (turn body qs at n).rows))))
    (ended at)

-- C13, C15: a group, at a place of the body, after these entries
unfoldable pub group_at : List ℕ → ℕ → Group → List Parameter → List Earlier → ℕ → ℕ → Walked
group_at body line g qs es at n =
    repetitions body line qs (repeats g.offset g.mask (record { 0 = g.shift }) es (length body - at)) 0 at n

-- C2, D2, D3: what a Q that does not exist or a group adds to the entries of the outer list: one without value for each repetition, of which an absent Q has
-- none; or by position one that no offset finds
abbrev pub unvalued : Offsets → ℕ → List Earlier
unvalued Answered times = replicate times NoValue
unvalued Position times = NoEntry ∷ []

-- C9, C2, D1: the outer list, from a place of the body on
unfoldable pub outer : Offsets → List ℕ → List Entry → ℕ → List Earlier → ℕ → Walked
outer offsets body [] at es n = ended at
outer offsets body (single q ∷ ds) at es n =
    on_size (size_at body (field_of q) es at)
    (λ size.
    after (param_rows body (field_of q) at size n 0)
    (outer offsets body ds (at + size.taken) (es ++ (param_entry body at size.taken ∷ [])) (n + length (param_rows body (field_of q) at size n 0))))
    (outer offsets body ds at (es ++ unvalued offsets 0) n)
outer offsets body (repeated line g qs ∷ ds) at es n =
    after (group_at body line g qs es at n).rows
    (outer offsets body ds (group_at body line g qs es at n).end (es ++ unvalued offsets (group_at body line g qs es at n).times)
    (n + length (group_at body line g qs es at n).rows))

-- C17: the rows of a command by a definition, and where the remainder starts in the body
unfoldable pub walk : Offsets → List ℕ → List Entry → Walked
walk offsets body ds = outer offsets body ds 0 [] 0
