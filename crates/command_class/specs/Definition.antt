-- T32 (docs/RULES.md): the definition that an accepted command text stands for, as plain data; and what C12 looks for in it.
use Rattle.std.specs.Prelude.{ℕ, suc, Bool, true, false, cond, List, [], ◌∷◌, eqb, Option, Some, None}
use Rattle.text.specs.Text.{lines}
use Rattle.text.specs.Records.{records}
use Rattle.text.specs.Listing.{listed}
use Rattle.command_text.specs.Letters.{letter_q, letter_g, letter_r, letter_a, letter_t, letter_s, letter_u, letter_k, letter_m}
use Rattle.command_text.specs.Form.{Param, Group, Record, param, group, item, Detail, variant, array, bit_flag, bit_field, const, bitmask, form}
use Rattle.command_text.specs.Rules.{begins}

-- a line: its number in the text, from 1, and what it says
pub record Item : Type 0 where
  pub line : ℕ
  pub says : Record

-- a Q line, with the lines under it
pub record Parameter : Type 0 where
  pub line : ℕ
  pub says : Param
  pub items : List Item

-- a Q of level 0, or a G with its members
pub data Entry : Type 0 where
  single : Parameter → Entry
  repeated : ℕ → Group → List Parameter → Entry

-- the lines, of which the first has the number n
abbrev pub numbered : ℕ → List Record → List Item
numbered n [] = []
numbered n (r ∷ rs) = record { line = n; says = r } ∷ numbered (suc n) rs

-- ends a line what stands under a Q
abbrev pub ends : Item → Bool
ends i = begins i.says

-- T32: the items of a Q, if these lines follow it
abbrev pub under : List Item → List Item
under is = listed ends (λ i. true) is

-- T32: the members of a G, if these lines follow it
abbrev pub members_at : ℕ → List Record → List Parameter
members_at n [] = []
members_at n (param q ∷ rs) = cond (eqb q.level 1) (record { line = n; says = q; items = under (numbered (suc n) rs) } ∷ members_at (suc n) rs) []
members_at n (group g ∷ rs) = []
members_at n (item d ∷ rs) = members_at (suc n) rs

-- a Q of level 0 stands by itself, one of level 1 in its group
abbrev pub entries_at : ℕ → List Record → List Entry
entries_at n [] = []
entries_at n (param q ∷ rs) =
    cond (eqb q.level 0) (single (record { line = n; says = q; items = under (numbered (suc n) rs) }) ∷ entries_at (suc n) rs) (entries_at (suc n) rs)
entries_at n (group g ∷ rs) = repeated n g (members_at (suc n) rs) ∷ entries_at (suc n) rs
entries_at n (item d ∷ rs) = entries_at (suc n) rs

-- T32: what a command text defines, its Qs and Gs, in text order
abbrev pub definition : List ℕ → List Entry
definition t = entries_at 1 (records form (lines t))

-- ---- what is looked for

-- the letter of an item
abbrev pub letter_of : Detail → ℕ
letter_of (variant s) = letter_r
letter_of (array length ascii) = letter_a
letter_of (bit_flag mask name) = letter_t
letter_of (bit_field b) = letter_s
letter_of (const value name) = letter_k
letter_of (bitmask length) = letter_m

-- the letter of a record
abbrev pub letter : Record → ℕ
letter (param q) = letter_q
letter (group g) = letter_g
letter (item d) = letter_of d

-- T27: the letter that a line's letter is read as
abbrev pub read_as : ℕ → ℕ
read_as kind = cond (eqb kind letter_u) letter_s kind

-- what f tells of an item
abbrev pub of_item : {A : Type 0} → (Detail → Option A) → Record → Option A
of_item f (param q) = None
of_item f (group g) = None
of_item f (item d) = f d

-- the value of a K
abbrev pub as_const : Detail → Option ℕ
as_const (variant s) = None
as_const (array length ascii) = None
as_const (bit_flag mask name) = None
as_const (bit_field b) = None
as_const (const value name) = Some value
as_const (bitmask length) = None

abbrev pub is_value : ℕ → Option ℕ → Bool
is_value v None = false
is_value v (Some value) = eqb value v

-- C12: the line of the first K of this value, or 0
abbrev pub first_const : ℕ → List Item → ℕ
first_const v [] = 0
first_const v (i ∷ is) = cond (is_value v (of_item as_const i.says)) i.line (first_const v is)

-- C12: is the first of these lines a K of this value
abbrev pub value_in : ℕ → List Item → Bool
value_in v [] = false
value_in v (i ∷ is) = is_value v (of_item as_const i.says)

-- the name of a K
abbrev pub const_of : Record → List ℕ
const_of (param q) = []
const_of (group g) = []
const_of (item (variant s)) = []
const_of (item (array length ascii)) = []
const_of (item (bit_flag mask name)) = []
const_of (item (bit_field b)) = []
const_of (item (const value name)) = name
const_of (item (bitmask length)) = []

-- C12: the name of the first of these lines, if it is a K
abbrev pub const_in : List Item → List ℕ
const_in [] = []
const_in (i ∷ is) = const_of i.says
