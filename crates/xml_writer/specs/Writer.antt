-- X14 (docs/RULES.md): a frame text as XML.
use Rattle.std.specs.Prelude.{cond, ◌≡◌, List, ℕ, length, Result, Err}
use Rattle.refusal.specs.declared.Refusal.TheVariants.{NotPlain}
use Rattle.buffer.specs.Buffer.{answer_in, answer_by, buffer_after}
use Rattle.frame_text.specs.Rules.{verdict}
use Rattle.plain_form.specs.PlainForm.{out_of_order, is_plain}
use Rattle.xml_elements.specs.Elements.{xml_of}
use Rattle.refusal.specs.declared.Refusal.{Refusal}

-- X2, X14: what an accepted text is answered, in room for so many bytes: 15 with the first line that is out of plain form, then 12
abbrev pub plain_answer : List ℕ → ℕ → Result ℕ Refusal
plain_answer t room = cond (is_plain t) (answer_in (length (xml_of t)) room) (Err (NotPlain (out_of_order t)))

-- X14, R12: what an accepted text is answered, and what is left in the buffer b
pub record Plainly (t b : List ℕ) (r : Result ℕ Refusal) (b' : List ℕ) : Type 0 where
  pub answer : r ≡ plain_answer t (length b)
  pub buffer : b' ≡ buffer_after (xml_of t) b r

-- X14, R10, R12: what `frame_text_to_xml` answers for any text, and leaves in the buffer b
pub record WritesXml (t b : List ℕ) (r : Result ℕ Refusal) (b' : List ℕ) : Type 0 where
  pub answer : r ≡ answer_by (verdict t) (plain_answer t (length b))
  pub buffer : b' ≡ buffer_after (xml_of t) b r
