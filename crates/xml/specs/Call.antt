-- X11 (docs/RULES.md): XML as a frame text, in a lent buffer.
use Rattle.std.specs.Prelude.{◌≡◌, List, ℕ, length, Option, Some, None, Result, Err}
use Rattle.refusal.specs.declared.Refusal.TheVariants.{Xml}
use Rattle.buffer.specs.Buffer.{answer_in, answer_by, buffer_after}
use Rattle.frame_text.specs.Rules as frame
use Rattle.xml_document.specs.Document.{verdict, text_of}
use Rattle.refusal.specs.declared.Refusal.{Refusal}

-- X1, X11: refusal 14 with the place of the first fault, before any other answer
abbrev pub by_fault : Option ℕ → Result ℕ Refusal → Result ℕ Refusal
by_fault None answer = answer
by_fault (Some place) answer = Err (Xml place)

-- X11, R10: the answer for the XML x in room for so many bytes: 14, then 1 to 3 by the text that is written, then 12
abbrev pub answer_of : List ℕ → ℕ → Result ℕ Refusal
answer_of x room = by_fault (verdict x) (answer_by (frame.verdict (text_of x)) (answer_in (length (text_of x)) room))

-- X11, R12: what `xml_to_frame_text` answers for the XML x, and leaves in the buffer b
pub record Turns (x b : List ℕ) (r : Result ℕ Refusal) (b' : List ℕ) : Type 0 where
  pub answer : r ≡ answer_of x (length b)
  pub buffer : b' ≡ buffer_after (text_of x) b r

-- what is answered for the text t that is written, and left in the buffer b
pub record Copies (t b : List ℕ) (r : Result ℕ Refusal) (b' : List ℕ) : Type 0 where
  pub answer : r ≡ answer_by (frame.verdict t) (answer_in (length t) (length b))
  pub buffer : b' ≡ buffer_after t b r
