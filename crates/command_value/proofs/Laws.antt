-- Laws of showing a row of a command. Assumes nothing.
use mathlib.Core.Path.{◌≡◌, refl, sym, ◌∙◌}
use mathlib.Core.Bool.{Bool}
use mathlib.Core.List.{List, []}
use Prim.Native.Nat.{ℕ, ◌≤◌}
use native.Mathlib.Decide.{dec_le}
use native.Mathlib.Omega.{arith}
use lib.ListN.{length, length-take, length-drop}
use borrow.Author.Tests.{eq-eqb, ne_eqb, lt-ltb}
use Rattle.refusal.specs.declared.Refusal.{Refusal}
use Rattle.refusal.specs.declared.Refusal.TheVariants.{TooLong}
use Rattle.text.specs.Records.{Readable}
use Rattle.text.specs.declared.Place.{Place}
use Rattle.command_text.specs.Rules.{rules, verdict}
use Rattle.command_class.specs.Definition.{Item, definition, under}
use Rattle.command_class.specs.Find.{from}
use Rattle.buffer.specs.Buffer.{Writes}
use Rattle.display.specs.Display.{display, display_bit}
use Rattle.command_rules.specs.declared.Offsets.{Offsets}
use Rattle.command_rules.specs.declared.Row.{Row}
use Rattle.command_row.specs.Answer.{row_by, row_of, bytes_of}
use Rattle.command_value.specs.Params.{is_ascii, const_name, is_flag, param_text, bit_text, row_text}
use Rattle.command_value.specs.Lookup.{Behind, IsShown, ascii_by, name_by}
use Rattle.command_value.specs.declared.lookup.Shown.{Shown}
use Rattle.command_value.specs.declared.lookup.Shown.TheVariants.{Ascii, Named, Plain}
use Rattle.command_value.specs.Answer.{of_found, left_by, CommandValue}
use Rattle.command_value.proofs.LookupLaws.{lookup_laws}
use Rattle.std.specs.Prelude.{Result, Ok, Err}

-- ---- param_value, bit_value
pub bytes-short : (p : List ℕ) (r : Row) (l : List ℕ) → l ≡ bytes_of p r → length p ≤ 2048 → length l ≤ 2048
bytes-short p r l e h = rw e (simp (length-take, length-drop) (omega arith))

shown_as : (t : List ℕ) (n : ℕ) (is : List Item) (bytes : List ℕ) (s : Shown) → IsShown t n is s
    → display (is_ascii is) (const_name n is) bytes ≡ display (ascii_by s) (name_by t s) bytes
unfolding display
shown_as t n is bytes Ascii k = rw k refl
shown_as t n is bytes (Named p) k = rw (k.0, k.1.name) refl
shown_as t n is bytes Plain k = rw (k.0, k.1) refl

pub param-shown : (t p : List ℕ) (r : Row) (q : Place) (s : Shown) (ascii : Bool) (name bytes b : List ℕ) (w : Result ℕ Refusal) (b' : List ℕ)
    → Behind t r.line q → IsShown t r.named (under (from t q)) s → Writes (display ascii name bytes) b w b' → ascii ≡ ascii_by s
    → name ≡ name_by t s → bytes ≡ bytes_of p r → Writes (param_text t p r) b w b'
unfolding param_text
param-shown t p r q s ascii name bytes b w b' is how d x y z =
    rw (← is.lines, ← z, shown_as t r.named (under (from t q)) bytes s how) (rw (x, y) at d)

pub items-readable : (t : List ℕ) (n : ℕ) (q : Place) → Behind t n q → Readable rules t q
items-readable t n q is = is.readable

pub bit-shown : (t : List ℕ) (r : Row) (flag : Bool) (b : List ℕ) (w : Result ℕ Refusal) (b' : List ℕ) → Writes (display_bit flag r.value) b w b'
    → flag ≡ is_flag t r.line → Writes (bit_text t r) b w b'
unfolding bit_text
bit-shown t r flag b w b' s x = rw x at s

-- ---- row_value
module _ (t p : List ℕ) (r : Row) (b : List ℕ) (w : Result ℕ Refusal) (b' : List ℕ) where
  pub row-param : Writes (param_text t p r) b w b' → r.kind ≡ 0 → Writes (row_text t p r) b w b'
  unfolding row_text
  row-param s e = rw (eq-eqb r.kind 0 e) s

  pub row-bit : Writes (bit_text t r) b w b' → (r.kind ≡ 0 → ⊥) → r.kind ≡ 1 → Writes (row_text t p r) b w b'
  unfolding row_text
  row-bit s n e = rw (ne_eqb r.kind 0 n, eq-eqb r.kind 1 e) s

  pub row-nothing : Writes [] b w b' → (r.kind ≡ 0 → ⊥) → (r.kind ≡ 1 → ⊥) → Writes (row_text t p r) b w b'
  unfolding row_text
  row-nothing s n e = rw (ne_eqb r.kind 0 n, ne_eqb r.kind 1 e) s

-- ---- value_accepted: behind the row x that `row_accepted` answers
module _ (offsets : Offsets) (t p : List ℕ) (k : ℕ) (x : Result Row Refusal) (is : x ≡ row_by offsets (definition t) p k) where
  -- a row is answered only for a payload within limits
  pub found-short : (r : Row) → x ≡ Ok r → length p ≤ 2048
  unfolding row_by
  found-short r e = go (dec_le (length p) 2048)
    where
      go : Dec (length p ≤ 2048) → length p ≤ 2048
      go (yes h) = h
      go (no h) =
          absurd
          (let z : Ok r ≡ Err (TooLong (length p)) = sym e ∙ (rw (lt-ltb 2048 (length p) (omega arith)) at is) in
          let w : ◌≡◌ {A = ℕ} 0 1 = cc in
          omega arith)

  module _ (a : verdict t ≡ Ok tt) (b : List ℕ) where
    found_is : x ≡ row_of offsets t p k
    unfolding row_of
    found_is = rw a is

    told : (w : Result ℕ Refusal) (b' : List ℕ) → w ≡ of_found t p (length b) x → b' ≡ left_by t p b w x → CommandValue offsets t p k b w b'
    told w b' e l = record { answer = rw (← found_is) e; leaves = rw (← found_is) l }

    pub told-refused : (y : Refusal) → x ≡ Err y → CommandValue offsets t p k b (Err y) b
    told-refused y e = told _ _ (rw e refl) (rw e refl)

    pub told-row : (r : Row) (w : Result ℕ Refusal) (b' : List ℕ) → Writes (row_text t p r) b w b' → x ≡ Ok r → CommandValue offsets t p k b w b'
    told-row r w b' s e = told w b' (rw e s.answer) (rw e s.buffer)

-- ---- command_value
pub told-not : (offsets : Offsets) (t p : List ℕ) (k : ℕ) (b : List ℕ) (v : Result (Unit {0}) Refusal) (y : Refusal) → v ≡ verdict t → v ≡ Err y
    → CommandValue offsets t p k b (Err y) b
unfolding row_of
told-not offsets t p k b v y is e = let w : verdict t ≡ Err y = sym is ∙ e in record { answer = rw w refl; leaves = rw w refl }

pub told-judged : (t : List ℕ) (v : Result (Unit {0}) Refusal) → v ≡ verdict t → v ≡ Ok tt → verdict t ≡ Ok tt
told-judged t v is e = sym is ∙ e

pub ruleset row_laws = (
  bytes-short,
  param-shown,
  items-readable,
  bit-shown,
  row-param,
  row-bit,
  row-nothing,
  found-short,
  told-refused,
  told-row,
  told-not,
  told-judged,
)

pub ruleset laws = (lookup_laws, row_laws)
