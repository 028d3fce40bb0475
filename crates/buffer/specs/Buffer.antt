-- VT8, U5, R10 and R12 (docs/RULES.md): a text in a lent buffer.
use Rattle.std.specs.Prelude.{cond, ◌≡◌, List, ◌++◌, ℕ, leb, length, drop, Result, Ok, Err}
use Rattle.refusal.specs.declared.Refusal.TheVariants.{MoreBytes}
use Rattle.refusal.specs.declared.Refusal.{Refusal}

-- VT8, U5: the answer for a text of so many bytes, in room for so many
abbrev pub answer_in : ℕ → ℕ → Result ℕ Refusal
answer_in needed room = cond (leb needed room) (Ok needed) (Err (MoreBytes needed))

-- R10: refusal 1, 2 or 3 by the text's own check, before any other answer
abbrev pub answer_by : Result (Unit {0}) Refusal → Result ℕ Refusal → Result ℕ Refusal
answer_by (Ok tt) answer = answer
answer_by (Err x) answer = Err x

-- VT8, R12: the buffer b after the answer for the text l
abbrev pub buffer_after : List ℕ → List ℕ → Result ℕ Refusal → List ℕ
buffer_after l b (Ok n) = l ++ drop (length l) b
buffer_after l b (Err x) = b

-- VT8: what is answered for the text l, and left in the buffer b
pub record Writes (l b : List ℕ) (r : Result ℕ Refusal) (b' : List ℕ) : Type 0 where
  pub answer : r ≡ answer_in (length l) (length b)
  pub buffer : b' ≡ buffer_after l b r
