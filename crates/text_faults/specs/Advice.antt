-- What is told of a line whose form is refused. `proofs/advice/Frame` and `proofs/advice/Command` prove that something is told exactly of those.
use Rattle.std.specs.Prelude.{ℕ, suc, ◌+◌, Bool, true, false, cond, List, [], ◌∷◌, length, get_or, eqb, ltb}
use Rattle.text.specs.Text.{lines, fields}
use Rattle.text.specs.Place.{kind_of}
use Rattle.text_faults.specs.Fault.{is_right, fault_of}
use Rattle.text_faults.specs.declared.fault.Want.{Want}
use Rattle.text_faults.specs.Form.{frame_count, command_count, want_of}
use Rattle.text_faults.specs.declared.advice.Advice.{Advice}
use Rattle.text_faults.specs.declared.advice.Advice.TheVariants.{Fine, Empty, Unended, Letter, Count, Field}

abbrev pub is_fine : Advice → Bool
is_fine Fine = true
is_fine Empty = false
is_fine Unended = false
is_fine Letter = false
is_fine (Count has wanted) = false
is_fine (Field k want fault) = false

-- the first fault among these fields, of which the first is field k, where `want` says what each must be
abbrev pub first_fault : (ℕ → Want) → ℕ → List (List ℕ) → Advice
first_fault want k [] = Fine
first_fault want k (f ∷ fs) = cond (is_right (fault_of (want k) f)) (first_fault want (k + 1) fs) (Field k (want k) (fault_of (want k) f))

-- these fields follow a letter, which n must follow
abbrev pub by_count : (ℕ → Want) → ℕ → List (List ℕ) → Advice
by_count want n fs = cond (eqb (length fs) n) (first_fault want 1 fs) (Count (length fs) n)

-- the same, where n is 0 for what is no letter
abbrev pub advice_on : (ℕ → Want) → ℕ → List (List ℕ) → Advice
advice_on want n fs = cond (eqb n 0) Letter (by_count want n fs)

-- the fields after the letter
abbrev pub after : List (List ℕ) → List (List ℕ)
after [] = []
after (f ∷ fs) = fs

-- what is told of a line, given without its 0x0A, where `count` says how many fields follow a letter
abbrev pub line_advice : (ℕ → ℕ) → List ℕ → Advice
line_advice count l = cond (eqb (length l) 0) Empty (advice_on (want_of (kind_of (fields l))) (count (kind_of (fields l))) (after (fields l)))

abbrev pub frame_advice : List ℕ → Advice
frame_advice l = line_advice frame_count l

abbrev pub command_advice : List ℕ → Advice
command_advice l = line_advice command_count l

-- what is told of line k of a text, from 0: what stands after the last 0x0A is a line that isn't ended
abbrev pub frame_line : List ℕ → ℕ → Advice
frame_line t k = cond (ltb (suc k) (length (lines t))) (frame_advice (get_or (lines t) k [])) Unended

abbrev pub command_line : List ℕ → ℕ → Advice
command_line t k = cond (ltb (suc k) (length (lines t))) (command_advice (get_or (lines t) k [])) Unended
