-- U2 and U3 (docs/RULES.md): a command text without U lines.
use Rattle.std.specs.Prelude.{ℕ, Bool, true, cond, ◌&&◌, ◌≡◌, List, [], ◌∷◌, eqb, length, Result}
use Rattle.buffer.specs.Buffer.{answer_in, answer_by, buffer_after}
use Rattle.command_text.specs.Letters.{letter_s, letter_u}
use Rattle.command_text.specs.Rules.{verdict}
use Rattle.refusal.specs.declared.Refusal.{Refusal}

-- U2: a byte that is the first of its line, or not: a U with which a line begins becomes an S
abbrev pub tidy_byte : Bool → ℕ → ℕ
tidy_byte first x = cond (first && eqb x letter_u) letter_s x

-- U2: the same for all bytes of a text, of which the first is that of a line, or not
abbrev pub tidy_from : Bool → List ℕ → List ℕ
tidy_from first [] = []
tidy_from first (x ∷ xs) = tidy_byte first x ∷ tidy_from (eqb x 0x0a) xs

-- U2: the tidied text
unfoldable pub tidied : List ℕ → List ℕ
tidied t = tidy_from true t

-- U3, R10, R12: what `tidy_command_text` answers for any text, and leaves in the buffer b
pub record Tidies (t b : List ℕ) (r : Result ℕ Refusal) (b' : List ℕ) : Type 0 where
  pub answer : r ≡ answer_by (verdict t) (answer_in (length (tidied t)) (length b))
  pub buffer : b' ≡ buffer_after (tidied t) b r
