-- The answers of the calls on XML as C has them.
use Rattle.std.specs.Prelude.{◌≡◌, List, ℕ, Result}
use Rattle.xml_writer.specs.Writer.{WritesXml}
use Rattle.xml.specs.Call.{Turns}
use Rattle.libtap.specs.declared.TapAnswer.{TapAnswer}
use Rattle.libtap.specs.Values.{told_written}
use Rattle.refusal.specs.declared.Refusal.{Refusal}

-- what `tap_frame_text_to_xml` answers and leaves: what `frame_text_to_xml` does, told so
pub record ToldXml (text buffer : List ℕ) (r : TapAnswer) (buffer' : List ℕ) : Type 0 where
  pub answer : Result ℕ Refusal
  pub writes : WritesXml text buffer answer buffer'
  pub told_so : r ≡ told_written answer

-- what `tap_xml_to_frame_text` answers and leaves: what `xml_to_frame_text` does, told so
pub record ToldText (xml buffer : List ℕ) (r : TapAnswer) (buffer' : List ℕ) : Type 0 where
  pub answer : Result ℕ Refusal
  pub turns : Turns xml buffer answer buffer'
  pub told_so : r ≡ told_written answer
