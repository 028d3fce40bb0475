-- T31 to T33 (docs/RULES.md): limits and owners of the command text.
-- `before` are the records of the lines before, the latest first.
use Rattle.std.specs.Prelude.{ℕ, suc, Bool, true, false, cond, not, ◌&&◌, ◌||◌, List, [], ◌∷◌, leb, ltb, eqb, Result}
use Rattle.text.specs.Judge.{Rules}
use Rattle.text.specs.Judge as text
use Rattle.command_text.specs.Form.{Record, param, group, item, Detail, variant, array, bit_flag, bit_field, const, bitmask, form}
use Rattle.refusal.specs.declared.Refusal.{Refusal}

-- a Q or G line begins what stands under it
abbrev pub begins : Record → Bool
begins (param q) = true
begins (group g) = true
begins (item d) = false

-- how many Q and G lines there are
abbrev pub count : List Record → ℕ
count [] = 0
count (r ∷ rs) = cond (begins r) (suc (count rs)) (count rs)

-- how many lines stand under the last Q or G
abbrev pub items : List Record → ℕ
items [] = 0
items (r ∷ rs) = cond (begins r) 0 (suc (items rs))

-- T32: may an item stand here: is the last Q or G a Q
abbrev pub owned : List Record → Bool
owned [] = false
owned (param q ∷ rs) = true
owned (group g ∷ rs) = false
owned (item d ∷ rs) = owned rs

-- T32: is there a G that a level 1 Q would be a member of
abbrev pub grouped : List Record → Bool
grouped [] = false
grouped (param q ∷ rs) = cond (eqb q.level 1) (grouped rs) false
grouped (group g ∷ rs) = true
grouped (item d ∷ rs) = grouped rs

-- the shift that an item says, or 0
abbrev pub shift_in : Detail → ℕ
shift_in (variant s) = s.shift
shift_in (array length ascii) = 0
shift_in (bit_flag mask name) = 0
shift_in (bit_field b) = b.shift
shift_in (const value name) = 0
shift_in (bitmask length) = 0

-- the shift that a record says, or 0
abbrev pub shift : Record → ℕ
shift (param q) = 0
shift (group g) = g.shift
shift (item d) = shift_in d

-- is a record a level 1 Q
abbrev pub member : Record → Bool
member (param q) = eqb q.level 1
member (group g) = false
member (item d) = false

-- T33: is a limit passed by this record. An item without owner is under nothing
abbrev pub over : List Record → Record → Bool
over before r = cond (begins r) (leb 256 (count before)) (owned before && leb 32 (items before))

-- R3, T31, T32: has this record no Q or no G that it needs, or a shift over 7
abbrev pub lost : List Record → Record → Bool
lost before r = cond (begins r) (member r && not (grouped before)) (not (owned before)) || ltb 7 (shift r)

-- the rules of the command text
abbrev pub rules : Rules Record
rules = record { form = form; over = over; lost = lost }

-- the verdict on a command text
abbrev pub verdict : List ℕ → Result (Unit {0}) Refusal
verdict t = text.verdict rules t
