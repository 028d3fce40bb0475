-- C19 and L4 (docs/RULES.md): each byte of an answered command stands in one outer row or in the remainder, and each row lies where its parent does.
use Rattle.std.specs.Prelude.{cond, ◌≡◌, ℕ, zero, suc, ◌+◌, ◌-◌, ◌%◌, ◌≤◌, ◌<◌, eqb}
use mathlib.Core.List.{List, [], ◌∷◌, ◌++◌, map, Memᴰ}
use Rattle.command_class.specs.Definition.{Parameter, Entry, single, repeated}
use Rattle.command_rules.specs.Lengths.{wanted, Agrees}
use Rattle.command_rules.specs.Field.{field_of}
use Rattle.command_rules.specs.declared.Earlier.{Earlier}
use Rattle.command_rules.specs.declared.Earlier.TheVariants.{Value, NoValue, NoEntry}
use Rattle.command_rules.specs.declared.Offsets.{Offsets}
use Rattle.command_rules.specs.declared.Offsets.TheVariants.{Answered, Position}
use Rattle.command_rules.specs.declared.Row.{Row}
use Rattle.command_rules.specs.Rows.{param_kind, bit_kind}

-- the rows with this parent; 0 for those of the outer list
unfoldable pub children_of : ℕ → List Row → List Row
children_of p [] = []
children_of p (r ∷ rs) = cond (eqb r.parent p) (r ∷ children_of p rs) (children_of p rs)

-- rows that follow one another from s to e without gap or overlap, each with a byte or more
unfoldable pub Follow : ℕ → List Row → ℕ → Type 0
Follow s [] e = s ≡ e
Follow s (r ∷ rs) e = (r.start ≡ s) × (r.start < r.end) × Follow r.end rs e

-- their bytes
unfoldable pub bytes : List Row → ℕ
bytes [] = 0
bytes (r ∷ rs) = r.end - r.start + bytes rs

-- parameters
unfoldable pub AllParams : List Row → Type 0
AllParams [] = Unit {0}
AllParams (r ∷ rs) = (r.kind ≡ param_kind) × AllParams rs

-- bit children, all on the one byte of their parent
unfoldable pub OnByte : Row → List Row → Type 0
OnByte p [] = Unit {0}
OnByte p (r ∷ rs) = (r.kind ≡ bit_kind) × (r.start ≡ p.start) × (r.end ≡ p.end) × (p.end ≡ p.start + 1) × OnByte p rs

-- how its children lie in a row of a kind: bit children on a parameter's byte, none in a bit child, members in a repetition one after the other
abbrev pub Inside : ℕ → Row → List Row → Type 0
Inside zero r cs = OnByte r cs
Inside (suc zero) r cs = cs ≡ []
Inside (suc (suc k)) r cs = AllParams cs × Follow r.start cs r.end

-- C17, C19: in rows of which the first is row n, each has its parent before it, and the rows behind it that have it as parent lie in it
unfoldable pub Placed : ℕ → List Row → Type 0
Placed n [] = Unit {0}
Placed n (r ∷ rs) = (r.parent ≤ n) × Inside r.kind r (children_of (n + 1) rs) × Placed (n + 1) rs

-- L4: only a parameter lacks bytes, and only one that ends with the command
unfoldable pub CutAtEnd : ℕ → List Row → Type 0
CutAtEnd size [] = Unit {0}
CutAtEnd size (r ∷ rs) = (0 < r.lacking → (r.kind ≡ param_kind) × (r.end ≡ size)) × CutAtEnd size rs

-- C2: the entry that an answered row is for those after it
abbrev pub entry_in : Row → Earlier
entry_in r = cond (eqb r.valued 1) (Value (r.value % 256)) NoValue

-- the Qs of a definition
unfoldable pub params_of : List Entry → List Parameter
params_of [] = []
params_of (single q ∷ ds) = q ∷ params_of ds
params_of (repeated line g qs ∷ ds) = qs ++ params_of ds

-- D2, D3: the entry that the Q on this line is by position, if these are the outer rows so far
abbrev pub slot_at : ℕ → List Row → Earlier
slot_at line [] = NoEntry
slot_at line (r ∷ rs) = cond (eqb r.line line) (entry_in r) (slot_at line rs)

-- D2, D3: the entries of the outer list by position; a group is none
abbrev pub slots : List Entry → List Row → List Earlier
slots [] rows = []
slots (single q ∷ ds) rows = slot_at q.line rows ∷ slots ds rows
slots (repeated line g qs ∷ ds) rows = NoEntry ∷ slots ds rows

-- C2, D1: the entries that an offset finds behind these rows, in the list whose rows have this parent; by position only the outer list differs, as
-- in a repetition each member before exists
abbrev pub entries_behind : Offsets → List Entry → ℕ → List Row → List Earlier
entries_behind Answered ds parent before = map entry_in (children_of parent before)
entries_behind Position ds zero before = slots ds (children_of 0 before)
entries_behind Position ds (suc p) before = map entry_in (children_of (suc p) before)

-- L4: the row r stands on the line of a Q, and its bytes and those that it lacks are what that Q wants by the entries that its offset finds
pub record Meets (offsets : Offsets) (ds : List Entry) (before : List Row) (r : Row) : Type 0 where
  pub param : Parameter
  pub stands : Memᴰ param (params_of ds)
  pub line : r.line ≡ param.line
  pub agrees : Agrees (wanted (field_of param).rule (entries_behind offsets ds r.parent before))
      (record { taken = r.end - r.start; lacking = r.lacking })

-- L4: so does each parameter's row, behind the rows before
unfoldable pub AllMeet : Offsets → List Entry → List Row → List Row → Type 0
AllMeet offsets ds before [] = Unit {0}
AllMeet offsets ds before (r ∷ rs) = (r.kind ≡ param_kind → Meets offsets ds before r) × AllMeet offsets ds (before ++ (r ∷ [])) rs

-- C19, demand 3: the outer rows follow one another from the body's start to the remainder, and all bytes add up
pub record Adds (offsets : Offsets) (ds : List Entry) (size : ℕ) (rows : List Row) (remainder : ℕ) : Type 0 where
  pub follow : Follow 2 (children_of 0 rows) remainder
  pub sum : bytes (children_of 0 rows) + (size - remainder) ≡ size - 2
  pub placed : Placed 0 rows
  pub cut : CutAtEnd size rows
  pub met : AllMeet offsets ds [] rows
