-- Laws of values as text. Assumes nothing.
use mathlib.Core.Path.{◌≡◌, refl}
use mathlib.Core.Bool.{Bool, true, false, ◌&&◌}
use mathlib.Core.List.{List, [], ◌∷◌}
use Prim.Native.Nat.{ℕ, ◌-◌, ◌%◌, ◌≤◌, ◌<◌}
use native.Mathlib.Omega.{arith}
use lib.ListN.{length, drop, take}
use borrow.Author.Tests.{eq-eqb, ne_eqb, le-leb, lt-leb}
use Rattle.frame_text.specs.declared.ParamType.{ParamType}
use Rattle.frame_text.specs.declared.ParamType.TheVariants.{Hex, Number, NumberSigned, NodeNumber, Boolean, Bitmask}
use Rattle.buffer.specs.Buffer.{Writes}
use Rattle.numerals.specs.Numerals.{room, decimal, signed, hex, pairs, Spells}
use Rattle.numerals.proofs.Laws.{digits_are}
use Rattle.lossy.specs.Lossy.{shown}
use Rattle.display.specs.Display.{word, some?, value_text, if_valued, in_bytes, display_value, display, display_bit}
use Rattle.std.specs.Prelude.{Option, Some, None, Result, Ok}
use Rattle.refusal.specs.declared.Refusal.{Refusal}

-- ---- digits at the end of their room
pub spelled-written : (free : ℕ) (l : List ℕ) (at : ℕ) (out b : List ℕ) (r : Result ℕ Refusal) (b' : List ℕ) → Spells free l at out
    → Writes (take (room - at) (drop at out)) b r b' → Writes l b r b'
spelled-written free l at out b r b' s w = rw (digits_are free l at out s) at w

module _ (b : List ℕ) (r : Result ℕ Refusal) (b' : List ℕ) where
  pub word_false : (v : ℕ) → Writes (0x66 ∷ 0x61 ∷ 0x6c ∷ 0x73 ∷ 0x65 ∷ []) b r b' → v ≡ 0 → Writes (word v) b r b'
  word_false v w e = rw (eq-eqb v 0 e) w

  pub word_true : (v : ℕ) → Writes (0x74 ∷ 0x72 ∷ 0x75 ∷ 0x65 ∷ []) b r b' → (v ≡ 0 → ⊥) → Writes (word v) b r b'
  word_true v w e = rw (ne_eqb v 0 e) w

  -- ---- a value
  module _ (kind : ParamType) (v : ℕ) where
    pub typed-hex : Writes (hex v) b r b' → kind ≡ Hex → Writes (value_text kind v) b r b'
    typed-hex w e = rw e w

    pub typed-number : Writes (decimal v) b r b' → kind ≡ Number → Writes (value_text kind v) b r b'
    typed-number w e = rw e w

    pub typed-signed : Writes (signed (v % 256)) b r b' → kind ≡ NumberSigned → Writes (value_text kind v) b r b'
    typed-signed w e = rw e w

    pub typed-node : Writes (decimal v) b r b' → kind ≡ NodeNumber → Writes (value_text kind v) b r b'
    typed-node w e = rw e w

    pub typed_boolean : Writes (word v) b r b' → kind ≡ Boolean → Writes (value_text kind v) b r b'
    typed_boolean w e = rw e w

    pub typed_bitmask : Writes (hex v) b r b' → kind ≡ Bitmask → Writes (value_text kind v) b r b'
    typed_bitmask w e = rw e w

  module _ (kind : ParamType) (value : Option ℕ) where
    pub value_is : (v : ℕ) → Writes (value_text kind v) b r b' → value ≡ Some v → Writes (if_valued kind value) b r b'
    value_is v w e = rw e w

    pub value_not : Writes [] b r b' → value ≡ None → Writes (if_valued kind value) b r b'
    value_not w e = rw e w

-- ---- bytes
module _ (kind : ParamType) (bytes : List ℕ) where
  pub bytes-none : length bytes ≡ 0 → false ≡ some? bytes && in_bytes kind
  bytes-none e = rw (eq-eqb (length bytes) 0 e)

  pub bytes_some : (x : Bool) → x ≡ in_bytes kind → (length bytes ≡ 0 → ⊥) → x ≡ some? bytes && in_bytes kind
  bytes_some x e h = rw (ne_eqb (length bytes) 0 h) e

-- ---- a field
module _ (symbol : List ℕ) (kind : ParamType) (value : Option ℕ) (bytes b : List ℕ) (r : Result ℕ Refusal) (b' : List ℕ) where
  pub field_symbol : Writes symbol b r b' → (length symbol ≡ 0 → ⊥) → Writes (display_value symbol kind value bytes) b r b'
  unfolding display_value
  field_symbol w h = rw (ne_eqb (length symbol) 0 h) w

  pub field-bytes : (x : Bool) → x ≡ some? bytes && in_bytes kind → Writes (pairs bytes) b r b' → length symbol ≡ 0 → x ≡ true
      → Writes (display_value symbol kind value bytes) b r b'
  unfolding display_value
  field-bytes x is w h e = rw (eq-eqb (length symbol) 0 h, ← is, e) w

  pub field-value : (x : Bool) → x ≡ some? bytes && in_bytes kind → Writes (if_valued kind value) b r b' → length symbol ≡ 0 → x ≡ false
      → Writes (display_value symbol kind value bytes) b r b'
  unfolding display_value
  field-value x is w h e = rw (eq-eqb (length symbol) 0 h, ← is, e) w

-- ---- a parameter
module _ (ascii : Bool) (name bytes b : List ℕ) (r : Result ℕ Refusal) (b' : List ℕ) where
  pub param_ascii : Writes (shown bytes) b r b' → ascii ≡ true → Writes (display ascii name bytes) b r b'
  unfolding display
  param_ascii w e = rw e w

  pub param-named : Writes name b r b' → ascii ≡ false → (length name ≡ 0 → ⊥) → Writes (display ascii name bytes) b r b'
  unfolding display
  param-named w e h = rw (e, ne_eqb (length name) 0 h) w

  pub param_few : Writes (0x30 ∷ 0x78 ∷ pairs bytes) b r b' → ascii ≡ false → length name ≡ 0 → length bytes ≤ 4
      → Writes (display ascii name bytes) b r b'
  unfolding display
  param_few w e h f = rw (e, eq-eqb (length name) 0 h, le-leb (length bytes) 4 f) w

  pub param_many : Writes (pairs bytes) b r b' → ascii ≡ false → length name ≡ 0 → 4 < length bytes
      → Writes (display ascii name bytes) b r b'
  unfolding display
  param_many w e h f = rw (e, eq-eqb (length name) 0 h, lt-leb (length bytes) 4 f) w

-- ---- a bit child
module _ (flag : Bool) (v : ℕ) (b : List ℕ) (r : Result ℕ Refusal) (b' : List ℕ) where
  pub bit-flag : Writes (word v) b r b' → flag ≡ true → Writes (display_bit flag v) b r b'
  unfolding display_bit
  bit-flag w e = rw e w

  pub bit-field : Writes (decimal v) b r b' → flag ≡ false → Writes (display_bit flag v) b r b'
  unfolding display_bit
  bit-field w e = rw e w

pub nothing : (b : List ℕ) → Writes [] b (Ok 0) b
nothing b = record { answer = rw (le-leb 0 (length b) (omega arith)); buffer = refl }

pub ruleset typed_laws = (typed-hex, typed-number, typed-signed, typed-node, typed_boolean, typed_bitmask, value_is, value_not)

pub ruleset display_laws = (
  bytes-none,
  bytes_some,
  field_symbol,
  field-bytes,
  field-value,
  param_ascii,
  param-named,
  param_few,
  param_many,
  bit-flag,
  bit-field,
)

pub ruleset laws = (spelled-written, word_false, word_true, typed_laws, display_laws, nothing)
