-- The command texts that are accepted are those that are written of plain data within limits, and stand for that data. Assumes nothing.
use mathlib.Core.Path.{◌≡◌, refl, sym, ap}
use mathlib.Core.Bool.{Bool, true, false, cond}
use mathlib.Core.List.{List, [], ◌∷◌}
use Prim.Native.Nat.{ℕ, ◌≤◌}
use native.Mathlib.Omega.{arith}
use Rattle.text.specs.Text.{lines, up_to, optional_up_to, name}
use Rattle.text.specs.Records.{records}
use Rattle.text.specs.Print.{shown, or_dash, Clean, said, Prints, Faithful}
use Rattle.text.proofs.Printing.{clean_shown, clean_name, letter_clean, dash_clean, number_test, number_clean, shown-up_to, shown-worth, shown-given}
use Rattle.text.proofs.Printing.{text-accepted, accepted-text}
use Rattle.command_text.specs.Form.{Param, Bits, Record, param, group, item, Detail, variant, array, bit_flag, bit_field, const, bitmask, given, shift_of}
use Rattle.command_text.specs.Form.{ascii_of}
use Rattle.command_text.specs.Form.{type_name, type_of, form}
use Rattle.command_text.specs.Rules.{shift_in, shift, rules, verdict}
use Rattle.command_class.specs.Definition.{entries_at, definition}
use Rattle.command_class.specs.Print.{digit, shift_shown, Spelling, ParamFits, ItemFits, Fits, writing, IsCommandText}
use Rattle.command_class.proofs.Saying.{reads}
use Rattle.command_text.specs.declared.ParamType.{ParamType}
use Rattle.command_text.specs.declared.ParamType.TheVariants.{Byte, StructByte, Const, Marker, Word, Bit24, Dword, Array, Variant, Bitmask, MultiArray}
use Rattle.std.specs.Prelude.{Option, Some, None, Ok}

-- ---- what is written, and read back
number_back : (o : Option ℕ) → given (or_dash shown o) ≡ o
number_back None = refl
number_back (Some k) = rw (shown-given k, shown-worth k)

shift_test : (m : Bool) (n : ℕ) → n ≤ 255 → optional_up_to 255 (shift_shown m n) ≡ true
shift_test true n h = refl
shift_test false n h = rw (shown-given n) (shown-up_to 255 n h)

shift_back : (m : Bool) (n : ℕ) → (m ≡ true → n ≡ 0) → shift_of (shift_shown m n) ≡ n
shift_back true n z = sym (z refl)
shift_back false n z = rw (shown-given n, shown-worth n)

shift_clean : (m : Bool) (n : ℕ) → Clean (shift_shown m n)
shift_clean true n = dash_clean
shift_clean false n = clean_shown n

digit_test : (b : Bool) → up_to 1 (digit b) ≡ true
digit_test true = refl
digit_test false = refl

digit_back : (b : Bool) → ascii_of (digit b) ≡ b
digit_back true = refl
digit_back false = refl

digit_clean : (b : Bool) → Clean (digit b)
digit_clean true = record { tab = refl; end = refl }
digit_clean false = record { tab = refl; end = refl }

type_back : (type : ParamType) → type_of (type_name type) ≡ Some type
type_back Byte = refl
type_back StructByte = refl
type_back Const = refl
type_back Marker = refl
type_back Word = refl
type_back Bit24 = refl
type_back Dword = refl
type_back Array = refl
type_back Variant = refl
type_back Bitmask = refl
type_back MultiArray = refl

type_clean : (type : ParamType) → Clean (type_name type)
type_clean Byte = record { tab = refl; end = refl }
type_clean StructByte = record { tab = refl; end = refl }
type_clean Const = record { tab = refl; end = refl }
type_clean Marker = record { tab = refl; end = refl }
type_clean Word = record { tab = refl; end = refl }
type_clean Bit24 = record { tab = refl; end = refl }
type_clean Dword = record { tab = refl; end = refl }
type_clean Array = record { tab = refl; end = refl }
type_clean Variant = record { tab = refl; end = refl }
type_clean Bitmask = record { tab = refl; end = refl }
type_clean MultiArray = record { tab = refl; end = refl }

-- ---- each record
prints_param : (w : Spelling) (q : Param) → ParamFits q → Prints rules writing (record { says = param q; spelling = w })
prints_param w q f = record {
  form_is =
      rw (
        shown-up_to 1 q.level f.level,
        type_back q.type,
        f.named,
        number_test q.offset f.offset,
        number_test q.mask f.mask,
        shown-worth q.level,
        number_back q.offset,
        number_back q.mask,
      );
  some_field = omega arith;
  clean = (
    letter_clean 81 (omega arith) (omega arith),
    (clean_shown q.level, (type_clean q.type, (clean_name q.name f.named, (number_clean q.offset, (number_clean q.mask, tt))))),
  );
}

-- an S, or a U
prints_bits : (w : Spelling) (b : Bits) → ItemFits (bit_field b) → (w.missing ≡ true → b.shift ≡ 0)
    → Prints rules writing (record { says = item (bit_field b); spelling = w })
prints_bits w b f z = record {
  form_is = go w.enum;
  some_field = omega arith;
  clean = (letter w.enum, (clean_shown b.mask, (shift_clean w.missing b.shift, (clean_name b.name f.2, tt))));
}
  where
    letter : (u : Bool) → Clean (cond u 85 83 ∷ [])
    letter true = letter_clean 85 (omega arith) (omega arith)
    letter false = letter_clean 83 (omega arith) (omega arith)

    go : (u : Bool) → form ((cond u 85 83 ∷ []) ∷ shown b.mask ∷ shift_shown w.missing b.shift ∷ b.name ∷ []) ≡ Some (item (bit_field b))
    go true =
        rw (
          shown-up_to 255 b.mask f.0,
          shift_test w.missing b.shift f.1,
          f.2,
          shown-worth b.mask,
          shift_back w.missing b.shift z,
        )
    go false =
        rw (
          shown-up_to 255 b.mask f.0,
          shift_test w.missing b.shift f.1,
          f.2,
          shown-worth b.mask,
          shift_back w.missing b.shift z,
        )

prints_item : (w : Spelling) (d : Detail) → ItemFits d → (w.missing ≡ true → shift_in d ≡ 0)
    → Prints rules writing (record { says = item d; spelling = w })
prints_item w (variant s) f z = record {
  form_is =
      rw (
        shown-up_to 255 s.offset f.0,
        shown-up_to 255 s.mask f.1,
        shift_test w.missing s.shift f.2,
        digit_test s.ascii,
        shown-worth s.offset,
        shown-worth s.mask,
        shift_back w.missing s.shift z,
        digit_back s.ascii,
      );
  some_field = omega arith;
  clean = (
    letter_clean 82 (omega arith) (omega arith),
    (clean_shown s.offset, (clean_shown s.mask, (shift_clean w.missing s.shift, (digit_clean s.ascii, tt)))),
  );
}
prints_item w (array n ascii) f z = record {
  form_is = rw (shown-up_to 255 n f, digit_test ascii, shown-worth n, digit_back ascii);
  some_field = omega arith;
  clean = (letter_clean 65 (omega arith) (omega arith), (clean_shown n, (digit_clean ascii, tt)));
}
prints_item w (bit_flag mask n) f z = record {
  form_is = rw (shown-up_to 255 mask f.0, f.1, shown-worth mask);
  some_field = omega arith;
  clean = (letter_clean 84 (omega arith) (omega arith), (clean_shown mask, (clean_name n f.1, tt)));
}
prints_item w (bit_field b) f z = prints_bits w b f z
prints_item w (const value n) f z = record {
  form_is = rw (shown-up_to 255 value f.0, f.1, shown-worth value);
  some_field = omega arith;
  clean = (letter_clean 75 (omega arith) (omega arith), (clean_shown value, (clean_name n f.1, tt)));
}
prints_item w (bitmask n) f z = record {
  form_is = rw (number_test n f, number_back n);
  some_field = omega arith;
  clean = (letter_clean 77 (omega arith) (omega arith), (number_clean n, tt));
}

prints_record : (w : Spelling) (r : Record) → Fits r → (w.missing ≡ true → shift r ≡ 0) → Prints rules writing (record { says = r; spelling = w })
prints_record w (param q) f z = prints_param w q f
prints_record w (group g) f z = record {
  form_is =
      rw (
        f.0,
        shown-up_to 255 g.offset f.1,
        shown-up_to 255 g.mask f.2,
        shown-up_to 255 g.shift f.3,
        shown-worth g.offset,
        shown-worth g.mask,
        shown-worth g.shift,
      );
  some_field = omega arith;
  clean = (
    letter_clean 71 (omega arith) (omega arith),
    (clean_name g.name f.0, (clean_shown g.offset, (clean_shown g.mask, (clean_shown g.shift, tt)))),
  );
}
prints_record w (item d) f z = prints_item w d f z

faithful : Faithful rules writing
faithful = record { prints = λ w f. prints_record w.spelling w.says f.fits f.zero; reads = reads }

-- a text is accepted exactly if it is the text of records that fit their forms, keep the limits and have their owners, within 60,000 bytes, where a
-- shift of 0 may be left out and an S be written as a U
pub accepted_exactly : (t : List ℕ) → (verdict t ≡ Ok tt → IsCommandText t) × (IsCommandText t → verdict t ≡ Ok tt)
accepted_exactly t = (accepted-text rules writing faithful t, λ is. (text-accepted rules writing faithful t is).0)

-- such a text stands for what its lines say
pub command_text-stands : (t : List ℕ) (is : IsCommandText t)
    → (records form (lines t) ≡ said rules writing is.lines) × (definition t ≡ entries_at 1 (said rules writing is.lines))
command_text-stands t is =
    let r : records form (lines t) ≡ said rules writing is.lines = (text-accepted rules writing faithful t is).1 in
    (r, ap (entries_at 1) r)
