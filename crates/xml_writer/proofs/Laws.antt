-- Laws of a frame text as XML. Assumes nothing.
use mathlib.Core.Path.{◌≡◌, refl, sym, ◌∙◌}
use mathlib.Core.List.{List}
use Prim.Native.Nat.{ℕ, ◌≤◌, ◌<◌}
use native.Mathlib.Omega.{arith}
use lib.ListN.{length}
use borrow.Author.Tests.{eq-eqb, ne_eqb}
use Rattle.refusal.specs.declared.Refusal.{Refusal}
use Rattle.refusal.specs.declared.Refusal.TheVariants.{NotPlain}
use Rattle.text.specs.Judge.{Checks}
use Rattle.text.proofs.Reading.{accepted-short}
use Rattle.buffer.specs.Buffer.{Writes}
use Rattle.append.proofs.Laws.{counted-short, counted-room}
use Rattle.frame_text.specs.Rules.{rules}
use Rattle.plain_form.specs.PlainForm.{out_of_order}
use Rattle.xml_elements.specs.Elements.{xml_of}
use Rattle.xml_writer.specs.Writer.{Plainly, WritesXml}
use Rattle.xml_writer.proofs.Bounds.{xml_room}
use Rattle.std.specs.Prelude.{Result, Ok, Err}

-- ---- an accepted text
module _ (t b : List ℕ) where
  pub plainly-written : out_of_order t ≡ 0 → (r : Result ℕ Refusal) (b' : List ℕ) → Writes (xml_of t) b r b' → Plainly t b r b'
  plainly-written z r b' w = record { answer = rw (eq-eqb (out_of_order t) 0 z) w.answer; buffer = w.buffer }

  pub plainly-not : (line : ℕ) → out_of_order t ≡ line → 0 < line → Plainly t b (Err (NotPlain line)) b
  plainly-not line is some = record { answer = rw (ne_eqb (out_of_order t) 0 (λ z. omega (arith, is)), is); buffer = refl }

-- ---- any text
module _ (t : List ℕ) (v : Result (Unit {0}) Refusal) (checks : Checks rules t v) where
  pub xml_short : v ≡ Ok tt → length t ≤ 60000
  xml_short e = accepted-short rules t (sym checks.is ∙ e)

  pub xml_accepted : v ≡ Ok tt → (b : List ℕ) (r : Result ℕ Refusal) (b' : List ℕ) → Plainly t b r b' → WritesXml t b r b'
  xml_accepted e b r b' p = record { answer = rw (sym checks.is ∙ e) p.answer; buffer = p.buffer }

  pub xml_refused : (x : Refusal) → v ≡ Err x → (b : List ℕ) → WritesXml t b (Err x) b
  xml_refused x e b = record { answer = rw (sym checks.is ∙ e); buffer = refl }

pub ruleset laws = (counted-short, counted-room, xml_room, plainly-written, plainly-not, xml_short, xml_accepted, xml_refused)
