-- Laws on the lines of an accepted text: each fits the entries of its element, which walk along the whole of it. Assumes nothing.
use mathlib.Core.Path.{◌≡◌, refl, sym, ap, ◌∙◌}
use mathlib.Core.Bool.{Bool, true, false, not, ◌&&◌, ◌||◌}
use mathlib.Core.List.{List, [], ◌∷◌, ◌++◌, append-nil}
use Prim.Native.Nat.{ℕ, zero, suc, ◌+◌, ◌≤◌, ◌<◌}
use native.Mathlib.Omega.{arith}
use lib.Dec.{eqb, leb}
use lib.ListN.{length, get_or}
use borrow.Author.Tests.{leb-true, lt-ltb, eq-eqb, eqb-true, eqb-false}
use Rattle.laws.proofs.Bools.{and_left, and_right}
use Rattle.text.specs.Text.{split, field, within, same, decimal, up_to, worth, missing, name, names, path, plain, optional_up_to, optional_name, optional_path}
use Rattle.text.specs.Print.{joined, digits_in, shown}
use Rattle.text.specs.Place.{kind_of}
use Rattle.text.proofs.Printing.{joined-split, same_is, fields_at, all-fields, letter-field, shown_back}
use Rattle.frame_text.specs.Form.{type_name, type_of, known, flags, frequency_form, base_form, header_form, param_numbers, param_paths, param_words}
use Rattle.frame_text.specs.Form.{param_form, validation_form, set_form, entry_form}
use Rattle.frame_text.specs.declared.ParamType.{ParamType}
use Rattle.frame_text.specs.declared.ParamType.TheVariants.{Hex, Number, NumberSigned, NodeNumber, Boolean, Bitmask}
use Rattle.xml_schema.specs.Schema.{table, entries_of}
use Rattle.xml_laws.proofs.Values.{is_bit, within_more}
use Rattle.xml_laws.proofs.Attributes.{fitting, line_from}

-- ---- fields
name-bytes : (l : List ℕ) → name l ≡ true → within 0x20 0xff l ≡ true
name-bytes l e =
    within_more 0x20 0x7e 0xff l (omega arith)
    (and_left (within 0x20 0x7e l) (not (missing l)) (and_right (leb 1 (length l) && leb (length l) 40) (within 0x20 0x7e l && not (missing l)) e))

within_both : (lo hi : ℕ) (a b : List ℕ) → within lo hi a ≡ true → within lo hi b ≡ true → within lo hi (a ++ b) ≡ true
within_both lo hi [] b p q = q
within_both lo hi (x ∷ xs) b p q =
    let r : (leb x hi && within lo hi xs) ≡ true = and_right (leb lo x) _ p in
    rw (and_left (leb lo x) _ p, and_left (leb x hi) (within lo hi xs) r) (within_both lo hi xs b (and_right (leb x hi) (within lo hi xs) r) q)

names-bytes : (ps : List (List ℕ)) → names ps ≡ true → within 0x20 0xff (joined 0x2e ps) ≡ true
names-bytes [] e = refl
names-bytes (p ∷ []) e = name-bytes p (and_left (name p) true e)
names-bytes (p ∷ q ∷ ps) e =
    within_both 0x20 0xff p (0x2e ∷ joined 0x2e (q ∷ ps)) (name-bytes p (and_left (name p) (names (q ∷ ps)) e))
    (names-bytes (q ∷ ps) (and_right (name p) (names (q ∷ ps)) e))

path_bytes : (l : List ℕ) → path l ≡ true → within 0x20 0xff l ≡ true
path_bytes l e =
    let w : within 0x20 0xff (joined 0x2e (split 0x2e l)) ≡ true = names-bytes (split 0x2e l) (and_right (leb (length l) 120) (names (split 0x2e l)) e) in
    rw (joined-split 0x2e l) at w

or_else : (a b c : Bool) → (a || b) ≡ true → (b ≡ true → c ≡ true) → (a || c) ≡ true
or_else true b c h f = refl
or_else false b c h f = f h

type_bytes : (l : List ℕ) → known (type_of l) ≡ true → within 0x20 0xff l ≡ true
type_bytes l e =
    go (same l (type_name Hex)) (same l (type_name Number)) (same l (type_name NumberSigned)) (same l (type_name NodeNumber)) (same l (type_name Boolean))
    (same l (type_name Bitmask)) refl refl refl refl refl refl
  where
    at : (t : ParamType) → same l (type_name t) ≡ true → within 0x20 0xff (type_name t) ≡ true → within 0x20 0xff l ≡ true
    at t q w = rw (same_is l (type_name t) q) w

    go : (a b c d f g : Bool) → same l (type_name Hex) ≡ a → same l (type_name Number) ≡ b → same l (type_name NumberSigned) ≡ c
        → same l (type_name NodeNumber) ≡ d → same l (type_name Boolean) ≡ f → same l (type_name Bitmask) ≡ g → within 0x20 0xff l ≡ true
    go true b c d f g p q r s t u = at Hex p refl
    go false true c d f g p q r s t u = at Number q refl
    go false false true d f g p q r s t u = at NumberSigned r refl
    go false false false true f g p q r s t u = at NodeNumber s refl
    go false false false false true g p q r s t u = at Boolean t refl
    go false false false false false true p q r s t u = at Bitmask u refl
    go false false false false false false p q r s t u =
        absurd (let k : known (type_of l) ≡ false = rw (p, q, r, s, t, u) in let z : ◌≡◌ {A = Bool} true false = sym e ∙ k in
        let y : ◌≡◌ {A = ℕ} 0 1 = cc in omega arith)

up_to_decimal : (n : ℕ) (l : List ℕ) → up_to n l ≡ true → decimal l ≡ true
up_to_decimal n l e = and_left (decimal l) (leb (worth 0 l) n) e

bit_of : (x : ℕ) → leb 0x30 x ≡ true → leb x 0x31 ≡ true → is_bit x ≡ true
bit_of x a b = go (eqb x 0x30) refl
  where
    go : (t : Bool) → eqb x 0x30 ≡ t → (t || eqb x 0x31) ≡ true
    go true q = refl
    go false q = let n : x ≡ 0x30 → ⊥ = eqb-false x 0x30 q in eq-eqb x 0x31 (omega (arith, leb-true 0x30 x a, leb-true x 0x31 b, n))

-- four digits, each 0 or 1
record Four (l : List ℕ) : Type 0 where
  all : l ≡ get_or l 0 0 ∷ get_or l 1 0 ∷ get_or l 2 0 ∷ get_or l 3 0 ∷ []
  bits : (i : ℕ) → i < 4 → is_bit (get_or l i 0) ≡ true

bits_of : (l : List ℕ) → within 0x30 0x31 l ≡ true → (i : ℕ) → i < length l → is_bit (get_or l i 0) ≡ true
bits_of [] w i h = absurd (omega arith)
bits_of (x ∷ xs) w zero h = bit_of x (and_left (leb 0x30 x) _ w) (and_left (leb x 0x31) (within 0x30 0x31 xs) (and_right (leb 0x30 x) _ w))
bits_of (x ∷ xs) w (suc i) h = bits_of xs (and_right (leb x 0x31) (within 0x30 0x31 xs) (and_right (leb 0x30 x) _ w)) i (omega arith)

four_of : (l : List ℕ) → flags l ≡ true → Four l
four_of l e =
    let n : length l ≡ 4 = eqb-true (length l) 4 (and_left (eqb (length l) 4) (within 0x30 0x31 l) e) in
    record { all = by l n; bits = λ i h. bits_of l (and_right (eqb (length l) 4) (within 0x30 0x31 l) e) i (omega arith) }
  where
    by : (l : List ℕ) → length l ≡ 4 → l ≡ get_or l 0 0 ∷ get_or l 1 0 ∷ get_or l 2 0 ∷ get_or l 3 0 ∷ []
    by [] n = absurd (omega arith)
    by (a ∷ []) n = absurd (omega arith)
    by (a ∷ b ∷ []) n = absurd (omega arith)
    by (a ∷ b ∷ c ∷ []) n = absurd (omega arith)
    by (a ∷ b ∷ c ∷ d ∷ []) n = refl
    by (a ∷ b ∷ c ∷ d ∷ e ∷ es) n = absurd (omega arith)

level-digit : (l : List ℕ) → decimal l ≡ true → worth 0 l ≤ 7 → l ≡ (0x30 + worth 0 l) ∷ []
unfolding shown
level-digit l e h =
    let one : digits_in (suc (worth 0 l)) (worth 0 l) ≡ (48 + worth 0 l) ∷ [] = rw (lt-ltb (worth 0 l) 10 (omega arith)) in
    sym (shown_back l e) ∙ one

-- ---- each kind of line: its fields fit, and the entries walk along the whole of it
pub record Fitted (k first : ℕ) (fs : List (List ℕ)) (front : List ℕ) : Type 0 where
  pub fits : fitting fs (entries_of k) first 1 ≡ true
  pub line : front ++ line_from fs (entries_of k) first 1 ≡ joined 0x09 fs

module _ (fs : List (List ℕ)) where
  -- a line is its letter and its other fields
  whole : (n b : ℕ) → kind_of fs ≡ b → 1 ≤ b → length fs ≡ suc n → joined 0x09 ((b ∷ []) ∷ fields_at 1 n fs) ≡ joined 0x09 fs
  whole n b k h e = ap (joined 0x09) (ap (λ (l : List ℕ). l ∷ fields_at 1 n fs) (sym (letter-field fs b k h)) ∙ all-fields (suc n) 0 fs (omega arith))

  pub fitted_f : kind_of fs ≡ 0x46 → frequency_form fs ≡ true → Fitted 1 1 fs (0x46 ∷ [])
  unfolding table
  fitted_f k e =
      let n : length fs ≡ 3 = eqb-true (length fs) 3 (and_left (eqb (length fs) 3) (up_to 255 (field 1 fs) && up_to 255 (field 2 fs)) e) in
      let r : (up_to 255 (field 1 fs) && up_to 255 (field 2 fs)) ≡ true = and_right (eqb (length fs) 3) (up_to 255 (field 1 fs) && up_to 255 (field 2 fs)) e in
      let a : decimal (field 1 fs) ≡ true = up_to_decimal 255 (field 1 fs) (and_left (up_to 255 (field 1 fs)) (up_to 255 (field 2 fs)) r) in
      let b : decimal (field 2 fs) ≡ true = up_to_decimal 255 (field 2 fs) (and_right (up_to 255 (field 1 fs)) (up_to 255 (field 2 fs)) r) in
      record {
        fits = let z : (decimal (field 1 fs) && (decimal (field 2 fs) && (true && (true && true)))) ≡ true = rw (a, b) in z;
        line =
            let walked : 0x46 ∷ 0x09 ∷ (field 1 fs ++ 0x09 ∷ (field 2 fs ++ [])) ≡ joined 0x09 fs =
            rw (append-nil (field 2 fs)) (whole 2 0x46 k (omega arith) n) in
            walked;
      }

  pub fitted-b : kind_of fs ≡ 0x42 → base_form fs ≡ true → Fitted 2 1 fs (0x42 ∷ [])
  unfolding table
  fitted-b k e =
      let n : length fs ≡ 2 = eqb-true (length fs) 2 (and_left (eqb (length fs) 2) (up_to 255 (field 1 fs)) e) in
      let a : decimal (field 1 fs) ≡ true = up_to_decimal 255 (field 1 fs) (and_right (eqb (length fs) 2) (up_to 255 (field 1 fs)) e) in
      record {
        fits = let z : (decimal (field 1 fs) && (true && (true && true))) ≡ true = rw a in z;
        line = let walked : 0x42 ∷ 0x09 ∷ (field 1 fs ++ []) ≡ joined 0x09 fs = rw (append-nil (field 1 fs)) (whole 1 0x42 k (omega arith) n) in walked;
      }

  pub fitted_h : kind_of fs ≡ 0x48 → header_form fs ≡ true → Fitted 3 1 fs (0x48 ∷ [])
  unfolding table
  fitted_h k e =
      let t₄ : Bool = name (field 4 fs) in
      let t₃ : Bool = flags (field 3 fs) && name (field 4 fs) in
      let t₂ : Bool = optional_up_to 255 (field 2 fs) && (flags (field 3 fs) && name (field 4 fs)) in
      let n : length fs ≡ 5 = eqb-true (length fs) 5 (and_left (eqb (length fs) 5) (up_to 255 (field 1 fs) && t₂) e) in
      let r : (up_to 255 (field 1 fs) && t₂) ≡ true = and_right (eqb (length fs) 5) (up_to 255 (field 1 fs) && t₂) e in
      let s : t₂ ≡ true = and_right (up_to 255 (field 1 fs)) t₂ r in
      let t : t₃ ≡ true = and_right (optional_up_to 255 (field 2 fs)) t₃ s in
      let a : decimal (field 1 fs) ≡ true = up_to_decimal 255 (field 1 fs) (and_left (up_to 255 (field 1 fs)) t₂ r) in
      let b : (missing (field 2 fs) || decimal (field 2 fs)) ≡ true =
      or_else (missing (field 2 fs)) (up_to 255 (field 2 fs)) (decimal (field 2 fs)) (and_left (optional_up_to 255 (field 2 fs)) t₃ s)
      (up_to_decimal 255 (field 2 fs)) in
      let f : Four (field 3 fs) = four_of (field 3 fs) (and_left (flags (field 3 fs)) t₄ t) in
      let d : within 0x20 0xff (field 4 fs) ≡ true = name-bytes (field 4 fs) (and_right (flags (field 3 fs)) t₄ t) in
      record {
        fits =
            let z : (decimal (field 1 fs) && ((missing (field 2 fs) || decimal (field 2 fs))
            && (is_bit (get_or (field 3 fs) 0 0) && (is_bit (get_or (field 3 fs) 1 0) && (is_bit (get_or (field 3 fs) 2 0) && (is_bit (get_or (field 3 fs) 3 0)
            && (within 0x20 0xff (field 4 fs) && (true && true)))))))) ≡ true =
            rw (a, b, f.bits 0 (omega arith), f.bits 1 (omega arith), f.bits 2 (omega arith), f.bits 3 (omega arith), d) in
            z;
        line =
            let digits : List ℕ = get_or (field 3 fs) 0 0 ∷ get_or (field 3 fs) 1 0 ∷ get_or (field 3 fs) 2 0 ∷ get_or (field 3 fs) 3 0 ∷ [] in
            let walked : 0x48 ∷ 0x09 ∷ (field 1 fs ++ 0x09 ∷ (field 2 fs ++ 0x09 ∷ (digits ++ 0x09 ∷ (field 4 fs ++ [])))) ≡ joined 0x09 fs =
            rw (append-nil (field 4 fs))
            (ap (λ (l : List ℕ). 0x48 ∷ 0x09 ∷ (field 1 fs ++ 0x09 ∷ (field 2 fs ++ 0x09 ∷ (l ++ 0x09 ∷ field 4 fs)))) (sym f.all)
            ∙ whole 4 0x48 k (omega arith) n) in
            walked;
      }

  pub fitted_p : kind_of fs ≡ 0x50 → param_form fs ≡ true → worth 0 (field 1 fs) ≤ 7
      → Fitted 4 2 fs (0x50 ∷ 0x09 ∷ (0x30 + worth 0 (field 1 fs)) ∷ [])
  unfolding table
  fitted_p k e low =
      let n : length fs ≡ 9 = eqb-true (length fs) 9 (and_left (eqb (length fs) 9) (param_numbers fs && param_words fs) e) in
      let r : (param_numbers fs && param_words fs) ≡ true = and_right (eqb (length fs) 9) (param_numbers fs && param_words fs) e in
      let numbers : param_numbers fs ≡ true = and_left (param_numbers fs) (param_words fs) r in
      let words : param_words fs ≡ true = and_right (param_numbers fs) (param_words fs) r in
      let two : (up_to 65535 (field 2 fs) && up_to 255 (field 3 fs)) ≡ true = and_right (decimal (field 1 fs))
      (up_to 65535 (field 2 fs) && up_to 255 (field 3 fs)) numbers in
      let level : decimal (field 1 fs) ≡ true = and_left (decimal (field 1 fs)) (up_to 65535 (field 2 fs) && up_to 255 (field 3 fs)) numbers in
      let a : decimal (field 2 fs) ≡ true = up_to_decimal 65535 (field 2 fs) (and_left (up_to 65535 (field 2 fs)) (up_to 255 (field 3 fs)) two) in
      let b : decimal (field 3 fs) ≡ true = up_to_decimal 255 (field 3 fs) (and_right (up_to 65535 (field 2 fs)) (up_to 255 (field 3 fs)) two) in
      let c : within 0x20 0xff (field 4 fs) ≡ true = type_bytes (field 4 fs)
      (and_left (known (type_of (field 4 fs))) (plain (field 5 fs) && param_paths fs) words) in
      let rest : (plain (field 5 fs) && param_paths fs) ≡ true = and_right (known (type_of (field 4 fs))) (plain (field 5 fs) && param_paths fs) words in
      let d : within 0x20 0xff (field 5 fs) ≡ true =
      name-bytes (field 5 fs) (and_left (name (field 5 fs)) _ (and_left (plain (field 5 fs)) (param_paths fs) rest)) in
      let paths : param_paths fs ≡ true = and_right (plain (field 5 fs)) (param_paths fs) rest in
      let f : (missing (field 6 fs) || within 0x20 0xff (field 6 fs)) ≡ true =
      or_else (missing (field 6 fs)) (name (field 6 fs)) (within 0x20 0xff (field 6 fs))
      (and_left (optional_name (field 6 fs)) (optional_path (field 7 fs) && optional_path (field 8 fs)) paths) (name-bytes (field 6 fs)) in
      let last : (optional_path (field 7 fs) && optional_path (field 8 fs)) ≡ true =
      and_right (optional_name (field 6 fs)) (optional_path (field 7 fs) && optional_path (field 8 fs)) paths in
      let g : (missing (field 7 fs) || within 0x20 0xff (field 7 fs)) ≡ true =
      or_else (missing (field 7 fs)) (path (field 7 fs)) (within 0x20 0xff (field 7 fs))
      (and_left (optional_path (field 7 fs)) (optional_path (field 8 fs)) last)
      (path_bytes (field 7 fs)) in
      let h : (missing (field 8 fs) || within 0x20 0xff (field 8 fs)) ≡ true =
      or_else (missing (field 8 fs)) (path (field 8 fs)) (within 0x20 0xff (field 8 fs))
      (and_right (optional_path (field 7 fs)) (optional_path (field 8 fs)) last)
      (path_bytes (field 8 fs)) in
      record {
        fits =
            let z : (decimal (field 2 fs) && (decimal (field 3 fs) && (within 0x20 0xff (field 4 fs) && (within 0x20 0xff (field 5 fs)
            && ((missing (field 6 fs) || within 0x20 0xff (field 6 fs)) && ((missing (field 7 fs) || within 0x20 0xff (field 7 fs))
            && ((missing (field 8 fs) || within 0x20 0xff (field 8 fs)) && (true && true)))))))) ≡ true =
            rw (a, b, c, d, f, g, h) in
            z;
        line =
            let rear : List ℕ = field 3 fs ++ 0x09 ∷ (field 4 fs ++ 0x09 ∷
            (field 5 fs ++ 0x09 ∷ (field 6 fs ++ 0x09 ∷ (field 7 fs ++ 0x09 ∷ field 8 fs)))) in
            let walked : 0x50 ∷ 0x09 ∷ (0x30 + worth 0 (field 1 fs)) ∷ 0x09 ∷ (field 2 fs ++ 0x09 ∷ (field 3 fs ++ 0x09 ∷ (field 4 fs
            ++ 0x09 ∷ (field 5 fs ++ 0x09 ∷ (field 6 fs ++ 0x09 ∷ (field 7 fs ++ 0x09 ∷ (field 8 fs ++ []))))))) ≡ joined 0x09 fs =
            rw (append-nil (field 8 fs))
            (ap (λ (l : List ℕ). 0x50 ∷ 0x09 ∷ (l ++ 0x09 ∷ (field 2 fs ++ 0x09 ∷ rear))) (sym (level-digit (field 1 fs) level low))
            ∙ whole 8 0x50 k (omega arith) n) in
            walked;
      }

  pub fitted_v : kind_of fs ≡ 0x56 → validation_form fs ≡ true → Fitted 5 1 fs (0x56 ∷ [])
  unfolding table
  fitted_v k e =
      let n : length fs ≡ 3 = eqb-true (length fs) 3 (and_left (eqb (length fs) 3) (path (field 1 fs) && up_to 65535 (field 2 fs)) e) in
      let r : (path (field 1 fs) && up_to 65535 (field 2 fs)) ≡ true = and_right (eqb (length fs) 3) (path (field 1 fs) && up_to 65535 (field 2 fs)) e in
      let a : within 0x20 0xff (field 1 fs) ≡ true = path_bytes (field 1 fs) (and_left (path (field 1 fs)) (up_to 65535 (field 2 fs)) r) in
      let b : up_to 65535 (field 2 fs) ≡ true = and_right (path (field 1 fs)) (up_to 65535 (field 2 fs)) r in
      record {
        fits = let z : (within 0x20 0xff (field 1 fs) && (up_to 65535 (field 2 fs) && true)) ≡ true = rw (a, b) in z;
        line =
            let walked : 0x56 ∷ 0x09 ∷ (field 1 fs ++ 0x09 ∷ (field 2 fs ++ [])) ≡ joined 0x09 fs =
            rw (append-nil (field 2 fs)) (whole 2 0x56 k (omega arith) n) in
            walked;
      }

  pub fitted_d : kind_of fs ≡ 0x44 → set_form fs ≡ true → Fitted 6 1 fs (0x44 ∷ [])
  unfolding table
  fitted_d k e =
      let n : length fs ≡ 2 = eqb-true (length fs) 2 (and_left (eqb (length fs) 2) (name (field 1 fs)) e) in
      let a : within 0x20 0xff (field 1 fs) ≡ true = name-bytes (field 1 fs) (and_right (eqb (length fs) 2) (name (field 1 fs)) e) in
      record {
        fits = let z : (within 0x20 0xff (field 1 fs) && true) ≡ true = rw a in z;
        line = let walked : 0x44 ∷ 0x09 ∷ (field 1 fs ++ []) ≡ joined 0x09 fs = rw (append-nil (field 1 fs)) (whole 1 0x44 k (omega arith) n) in walked;
      }

  pub fitted_e : kind_of fs ≡ 0x45 → entry_form fs ≡ true → Fitted 7 1 fs (0x45 ∷ [])
  unfolding table
  fitted_e k e =
      let n : length fs ≡ 3 = eqb-true (length fs) 3 (and_left (eqb (length fs) 3) (up_to 65535 (field 1 fs) && name (field 2 fs)) e) in
      let r : (up_to 65535 (field 1 fs) && name (field 2 fs)) ≡ true = and_right (eqb (length fs) 3) (up_to 65535 (field 1 fs) && name (field 2 fs)) e in
      let a : up_to 65535 (field 1 fs) ≡ true = and_left (up_to 65535 (field 1 fs)) (name (field 2 fs)) r in
      let b : within 0x20 0xff (field 2 fs) ≡ true = name-bytes (field 2 fs) (and_right (up_to 65535 (field 1 fs)) (name (field 2 fs)) r) in
      record {
        fits = let z : (up_to 65535 (field 1 fs) && (within 0x20 0xff (field 2 fs) && (true && true))) ≡ true = rw (a, b) in z;
        line =
            let walked : 0x45 ∷ 0x09 ∷ (field 1 fs ++ 0x09 ∷ (field 2 fs ++ [])) ≡ joined 0x09 fs =
            rw (append-nil (field 2 fs)) (whole 2 0x45 k (omega arith) n) in
            walked;
      }
