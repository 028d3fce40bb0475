-- Laws of the calls on XML. Assumes nothing.
use mathlib.Core.Path.{◌≡◌, refl, sym, ap, ◌∙◌}
use mathlib.Core.Bool.{Bool, true, false}
use mathlib.Core.List.{List, ◌++◌}
use Prim.Native.Nat.{ℕ, ◌+◌, ◌≤◌, ◌<◌}
use native.Mathlib.Nat.{zero-add}
use native.Mathlib.Omega.{arith}
use lib.Dec.{leb}
use lib.ListN.{length, take, drop, replicate, length-replicate}
use lib.Seq.{sets, sets-eq, length-sets, length-take-le, take-append_seam}
use borrow.Author.Tests.{leb-true, leb-false, lt-ltb}
use Rattle.refusal.specs.declared.Refusal.{Refusal}
use Rattle.refusal.specs.declared.Refusal.TheVariants.{Limit, Xml}
use Rattle.buffer.specs.Buffer.{Writes}
use Rattle.text.specs.Judge.{Checks}
use Rattle.frame_text.specs.Rules as frame
use Rattle.xml_document.specs.Document.{verdict, text_of}
use Rattle.xml_draft.specs.Draft.{Laid}
use Rattle.xml.specs.Call.{Turns, Copies}
use Rattle.std.specs.Prelude.{Option, Some, None, Result, Ok, Err}

-- ---- a text that is checked
module _ (t b : List ℕ) (v : Result (Unit {0}) Refusal) (is : Checks frame.rules t v) where
  pub copies_text : v ≡ Ok tt → (r : Result ℕ Refusal) (b' : List ℕ) → Writes t b r b' → Copies t b r b'
  copies_text q r b' w = record { answer = w.answer ∙ rw (← is.is, q); buffer = w.buffer }

  pub copies_refused : (x : Refusal) → v ≡ Err x → Copies t b (Err x) b
  copies_refused x q = record { answer = rw (← is.is, q); buffer = refl }

-- ---- a text in its room
module _ (l : List ℕ) (n : ℕ) (t u : List ℕ) (laid : Laid t u 0 n l) where
  plain : 0 + length l ≡ length l
  plain = zero-add (length l)

  short : n ≤ 60000 → length l ≤ 60000
  short h = by (leb (length l) 60000) refl
    where
      by : (b : Bool) → leb (length l) 60000 ≡ b → length l ≤ 60000
      by true q = leb-true (length l) 60000 q
      by false q = absurd (let z : 60000 < n = laid.over (omega (arith, plain, leb-false (length l) 60000 q)) in omega arith)

  long : 60000 < n → 60000 < length l
  long h = by (leb (length l) 60000) refl
    where
      by : (b : Bool) → leb (length l) 60000 ≡ b → 60000 < length l
      by true q = absurd (let z : n
          ≡ 0 + length l = laid.low (omega (arith, plain, leb-true (length l) 60000 q)) in omega (arith, plain, leb-true (length l) 60000 q))
      by false q = leb-false (length l) 60000 q

  pub copies_over : 60000 < n → (b : List ℕ) → Copies l b (Err (Limit 0)) b
  copies_over h b = record { answer = rw (lt-ltb 60000 (length l) (long h)); buffer = refl }

  room-text : length t ≡ 60000 → n ≤ 60000 → take n u ≡ l
  room-text e h =
      let k : length l ≤ 60000 = short h in
      let m : n ≡ length l = laid.low (omega (arith, plain)) ∙ plain in
      let f : u ≡ sets t 0 l = laid.fill (omega (arith, plain)) in
      let z : sets t 0 l ≡ l ++ drop (0 + length l) t = sets-eq l t 0 (omega (arith, plain)) in
      rw (m, f, z) (take-append_seam l (drop (0 + length l) t))

  pub copies_room : t ≡ replicate 60000 0 → n ≤ 60000 → (b : List ℕ) (r : Result ℕ Refusal) (b' : List ℕ) → Copies (take n u) b r b'
      → Copies l b r b'
  copies_room e h b r b' c = rw (room-text (rw e (length-replicate {A = ℕ} 60000 0)) h) at c

  pub room_in : t ≡ replicate 60000 0 → n ≤ 60000 → n ≤ length u
  room_in e h =
      let k : length l ≤ 60000 = short h in
      let f : u ≡ sets t 0 l = laid.fill (omega (arith, plain)) in
      let z : length t ≡ 60000 = rw e (length-replicate {A = ℕ} 60000 0) in
      let y : length u ≡ 60000 = ap length f ∙ length-sets t 0 l ∙ z in
      omega arith

  pub room-count : t ≡ replicate 60000 0 → n ≤ 60000 → n ≡ length (take n u)
  room-count e h = sym (length-take-le n u (room_in e h))

pub ruleset copy_laws = (copies_text, copies_refused, copies_over, copies_room, room_in, room-count)

-- ---- the call
module _ (x b : List ℕ) (f : Option ℕ) (is : f ≡ verdict x) where
  pub turns-fault : (place : ℕ) → f ≡ Some place → Turns x b (Err (Xml place)) b
  turns-fault place q = record { answer = rw (← is, q); buffer = refl }

  pub turns-text : f ≡ None → (r : Result ℕ Refusal) (b' : List ℕ) → Copies (text_of x) b r b' → Turns x b r b'
  turns-text q r b' c = record { answer = c.answer ∙ rw (← is, q); buffer = c.buffer }

  pub turns-fine : f ≡ None → verdict x ≡ None
  turns-fine q = sym is ∙ q

pub ruleset turn_laws = (turns-fault, turns-text, turns-fine)

pub ruleset laws = (copy_laws, turn_laws)
