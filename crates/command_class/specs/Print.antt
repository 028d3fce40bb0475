-- The command text of plain data: what is written for a record, and which records can be written.
use Rattle.std.specs.Prelude.{ℕ, ◌≤◌, Bool, true, cond, ◌≡◌, List, [], ◌∷◌}
use Rattle.text.specs.Text.{name}
use Rattle.text.specs.Print.{shown, or_dash, Optionally, Writing, IsText}
use Rattle.command_text.specs.Letters.{letter_q, letter_g, letter_r, letter_a, letter_t, letter_s, letter_u, letter_k, letter_m}
use Rattle.command_text.specs.Form.{Param, Record, param, group, item, Detail, variant, array, bit_flag, bit_field, const, bitmask, type_name}
use Rattle.command_text.specs.Rules.{shift, rules}

-- ascii, as 0 or 1
abbrev pub digit : Bool → List ℕ
digit b = cond b (0x31 ∷ []) (0x30 ∷ [])

-- T31: a shift; one that is missing is 0
abbrev pub shift_shown : Bool → ℕ → List ℕ
shift_shown missing shift = cond missing (0x2d ∷ []) (shown shift)

-- how a line is written: is a shift of R and S left out, is an S written as a U
pub record Spelling : Type 0 where
  pub missing : Bool
  pub enum : Bool

-- the fields of an item's line
abbrev pub print_item : Spelling → Detail → List (List ℕ)
print_item w (variant s) = (letter_r ∷ []) ∷ shown s.offset ∷ shown s.mask ∷ shift_shown w.missing s.shift ∷ digit s.ascii ∷ []
print_item w (array length ascii) = (letter_a ∷ []) ∷ shown length ∷ digit ascii ∷ []
print_item w (bit_flag mask n) = (letter_t ∷ []) ∷ shown mask ∷ n ∷ []
print_item w (bit_field b) = (cond w.enum letter_u letter_s ∷ []) ∷ shown b.mask ∷ shift_shown w.missing b.shift ∷ b.name ∷ []
print_item w (const value n) = (letter_k ∷ []) ∷ shown value ∷ n ∷ []
print_item w (bitmask length) = (letter_m ∷ []) ∷ or_dash shown length ∷ []

-- the fields of a record's line
abbrev pub print : Spelling → Record → List (List ℕ)
print w (param q) = (letter_q ∷ []) ∷ shown q.level ∷ type_name q.type ∷ q.name ∷ or_dash shown q.offset ∷ or_dash shown q.mask ∷ []
print w (group g) = (letter_g ∷ []) ∷ g.name ∷ shown g.offset ∷ shown g.mask ∷ shown g.shift ∷ []
print w (item d) = print_item w d

-- what a Q can say
pub record ParamFits (q : Param) : Type 0 where
  pub level : q.level ≤ 1
  pub named : name q.name ≡ true
  pub offset : Optionally (λ n. n ≤ 255) q.offset
  pub mask : Optionally (λ n. n ≤ 255) q.mask

-- what an item can say
abbrev pub ItemFits : Detail → Type 0
ItemFits (variant s) = (s.offset ≤ 255) × (s.mask ≤ 255) × (s.shift ≤ 255)
ItemFits (array length ascii) = length ≤ 255
ItemFits (bit_flag mask n) = (mask ≤ 255) × (name n ≡ true)
ItemFits (bit_field b) = (b.mask ≤ 255) × (b.shift ≤ 255) × (name b.name ≡ true)
ItemFits (const value n) = (value ≤ 255) × (name n ≡ true)
ItemFits (bitmask length) = Optionally (λ n. n ≤ 255) length

-- what a line can say
abbrev pub Fits : Record → Type 0
Fits (param q) = ParamFits q
Fits (group g) = (name g.name ≡ true) × (g.offset ≤ 255) × (g.mask ≤ 255) × (g.shift ≤ 255)
Fits (item d) = ItemFits d

-- a line: what it says, and how it is written
pub record Written : Type 0 where
  pub says : Record
  pub spelling : Spelling

-- a shift that is left out is 0
pub record LineFits (w : Written) : Type 0 where
  pub fits : Fits w.says
  pub zero : w.spelling.missing ≡ true → shift w.says ≡ 0

abbrev pub writing : Writing Record Written
writing = record { says = λ w. w.says; print = λ w. print w.spelling w.says; Fits = LineFits }

-- R1, R2, R3: is it the text of records that fit their forms, keep the limits and have their owners, within 60,000 bytes;
-- a shift of 0 may be left out, and an S be written as a U
abbrev pub IsCommandText : List ℕ → Type 0
IsCommandText t = IsText rules writing t
