-- What a line says is written as the line is: its numbers and its names are within what `Print` asks. Assumes nothing.
use mathlib.Core.Path.{◌≡◌, refl, sym, ap, subst, ◌∙◌}
use mathlib.Core.Bool.{Bool, true, false, cond, ◌&&◌, ◌||◌}
use mathlib.Core.List.{List, [], ◌∷◌}
use Prim.Native.Nat.{ℕ, zero, suc, ◌≤◌}
use native.Mathlib.Omega.{arith}
use lib.Dec.{eqb}
use lib.ListN.{length}
use borrow.Author.Tests.{eqb-true}
use Rattle.text.specs.Text.{field, same, worth, up_to, missing, optional_up_to, name, fields}
use Rattle.text.specs.Place.{kind_of}
use Rattle.text.specs.Print.{shown, or_dash, Optionally, Every, Reads}
use Rattle.text.specs.Records.{onto, records}
use Rattle.text.proofs.Tests.{and_left, and_right}
use Rattle.text.proofs.Printing.{up_to_back, missing_is, same_is, all-fields, letter-field}
use Rattle.command_text.specs.Form.{Record, param, group, item, Detail, variant, array, bit_flag, bit_field, const, bitmask, value, given, shift_of, ascii_of}
use Rattle.command_text.specs.Form.{type_name, types, type_among, known, type_of, param_words, param_condition, param_fields, param_form, group_fields, group_form}
use Rattle.command_text.specs.Form.{variant_fields, variant_form}
use Rattle.command_text.specs.Form.{array_form, named_form, bits_fields, bits_form, bitmask_form, param_of, group_of, size_of, bits_of, of_type, said, param_said, form}
use Rattle.command_text.specs.declared.ParamType.{ParamType}
use Rattle.command_text.specs.Rules.{shift, rules}
use Rattle.command_class.specs.Definition.{letter_of, letter, read_as}
use Rattle.command_class.specs.Print.{digit, shift_shown, Spelling, print_item, print, Fits, writing}
use Rattle.std.specs.Prelude.{Option, Some, None}

-- ---- what a field says
optional_reads : (l : List ℕ) → optional_up_to 255 l ≡ true → (or_dash shown (given l) ≡ l) × Optionally (λ n. n ≤ 255) (given l)
optional_reads l e = go (missing l) refl e
  where
    go : (m : Bool) → missing l ≡ m → (m || up_to 255 l) ≡ true
        → (or_dash shown (cond m None (Some (worth 0 l))) ≡ l) × Optionally (λ n. n ≤ 255) (cond m None (Some (worth 0 l)))
    go true q h = (sym (missing_is l q), tt)
    go false q h = up_to_back 255 l h

-- a shift, which may be missing
record ShiftReads (l : List ℕ) : Type 0 where
  pub is : shift_shown (missing l) (shift_of l) ≡ l
  pub most : shift_of l ≤ 255
  pub zero : missing l ≡ true → shift_of l ≡ 0

shift_reads : (l : List ℕ) → optional_up_to 255 l ≡ true → ShiftReads l
shift_reads l e = go (missing l) refl e
  where
    go : (m : Bool) → missing l ≡ m → (m || up_to 255 l) ≡ true → ShiftReads l
    go true q h = record { is = rw q (sym (missing_is l q)); most = rw q (omega arith); zero = λ z. rw q }
    go false q h =
        let w : (shown (worth 0 l) ≡ l) × (worth 0 l ≤ 255) = up_to_back 255 l h in
        record { is = rw q w.0; most = rw q w.1; zero = λ z. absurd (let y : ◌≡◌ {A = ℕ} 0 1 = cc in omega arith) }

digit_reads : (l : List ℕ) → up_to 1 l ≡ true → digit (ascii_of l) ≡ l
unfolding shown
digit_reads l e =
    let w : (shown (worth 0 l) ≡ l) × (worth 0 l ≤ 1) = up_to_back 1 l e in
    go (worth 0 l) w.1 ∙ w.0
  where
    go : (n : ℕ) → n ≤ 1 → digit (eqb n 1) ≡ shown n
    go zero h = refl
    go (suc zero) h = refl
    go (suc (suc n)) h = absurd (omega arith)

type_reads : (these : List ParamType) (l : List ℕ) (type : ParamType) → type_among these l ≡ Some type → type_name type ≡ l
type_reads [] l type e = absurd (let z : ◌≡◌ {A = ℕ} 0 1 = cc in omega arith)
type_reads (t ∷ ts) l type e = by_test (same l (type_name t)) refl (type_reads ts l type) e
  where
    by_test : (b : Bool) → same l (type_name t) ≡ b → (type_among ts l ≡ Some type → type_name type ≡ l) → cond b (Some t) (type_among ts l) ≡ Some type
        → type_name type ≡ l
    by_test true q ih h = let w : t ≡ type = cc in rw (← w) (sym (same_is l (type_name t) q))
    by_test false q ih h = ih h

-- ---- each form
module _ (fs : List (List ℕ)) where
  -- a line of n fields that says x
  line : (n : ℕ) (x : Record) (w : Spelling) → eqb (length fs) n ≡ true → (length fs ≡ n → print w x ≡ fs) → Fits x
      → (w.missing ≡ true → shift x ≡ 0) → Reads rules writing fs x
  line n x w e p f z =
      record { line = record { says = x; spelling = w }; says_it = refl; print_is = p (eqb-true (length fs) n e); fits = record { fits = f; zero = z } }

  -- one that is written in one way
  plain_line : (n : ℕ) (x : Record) → eqb (length fs) n ≡ true
      → (length fs ≡ n → print (record { missing = false; enum = false }) x ≡ fs) → Fits x → Reads rules writing fs x
  plain_line n x e p f =
      line n x (record { missing = false; enum = false }) e p f (λ q. absurd (let z : ◌≡◌ {A = ℕ} 0 1 = cc in omega arith))

  param_reads : (type : ParamType) → kind_of fs ≡ 81 → type_of (field 2 fs) ≡ Some type → param_form fs ≡ true
      → Reads rules writing fs (param (param_of fs type))
  param_reads type k t e =
      let w : param_fields fs ≡ true = and_right (eqb (length fs) 6) _ e in
      let words : param_words fs ≡ true = and_left (param_words fs) (param_condition fs) w in
      let rest : (known (type_of (field 2 fs)) && name (field 3 fs)) ≡ true = and_right (up_to 1 (field 1 fs)) _ words in
      let c : param_condition fs ≡ true = and_right (param_words fs) (param_condition fs) w in
      let one : (shown (value (field 1 fs)) ≡ field 1 fs) × (value (field 1 fs) ≤ 1) =
      up_to_back 1 (field 1 fs) (and_left (up_to 1 (field 1 fs)) _ words) in
      let four : (or_dash shown (given (field 4 fs)) ≡ field 4 fs) × Optionally (λ n. n ≤ 255) (given (field 4 fs)) =
      optional_reads (field 4 fs) (and_left (optional_up_to 255 (field 4 fs)) (optional_up_to 255 (field 5 fs)) c) in
      let five : (or_dash shown (given (field 5 fs)) ≡ field 5 fs) × Optionally (λ n. n ≤ 255) (given (field 5 fs)) =
      optional_reads (field 5 fs) (and_right (optional_up_to 255 (field 4 fs)) (optional_up_to 255 (field 5 fs)) c) in
      plain_line 6 (param (param_of fs type)) (and_left (eqb (length fs) 6) _ e)
      (λ n. rw (one.0, type_reads types (field 2 fs) type t, four.0, five.0, ← letter-field fs 81 k (omega arith)) (all-fields 6 0 fs n))
      (record { level = one.1; named = and_right (known (type_of (field 2 fs))) (name (field 3 fs)) rest; offset = four.1; mask = five.1 })

  group_reads : kind_of fs ≡ 71 → group_form fs ≡ true → Reads rules writing fs (group (group_of fs))
  group_reads k e =
      let w : group_fields fs ≡ true = and_right (eqb (length fs) 5) _ e in
      let x : (up_to 255 (field 2 fs) && (up_to 255 (field 3 fs) && up_to 255 (field 4 fs))) ≡ true = and_right (name (field 1 fs)) _ w in
      let y : (up_to 255 (field 3 fs) && up_to 255 (field 4 fs)) ≡ true = and_right (up_to 255 (field 2 fs)) _ x in
      let two : (shown (value (field 2 fs)) ≡ field 2 fs) × (value (field 2 fs) ≤ 255) =
      up_to_back 255 (field 2 fs) (and_left (up_to 255 (field 2 fs)) _ x) in
      let three : (shown (value (field 3 fs)) ≡ field 3 fs) × (value (field 3 fs) ≤ 255) =
      up_to_back 255 (field 3 fs) (and_left (up_to 255 (field 3 fs)) _ y) in
      let four : (shown (value (field 4 fs)) ≡ field 4 fs) × (value (field 4 fs) ≤ 255) =
      up_to_back 255 (field 4 fs) (and_right (up_to 255 (field 3 fs)) _ y) in
      plain_line 5 (group (group_of fs)) (and_left (eqb (length fs) 5) _ e)
      (λ n. rw (two.0, three.0, four.0, ← letter-field fs 71 k (omega arith)) (all-fields 5 0 fs n))
      (and_left (name (field 1 fs)) _ w, two.1, three.1, four.1)

  variant_reads : kind_of fs ≡ 82 → variant_form fs ≡ true → Reads rules writing fs (item (variant (size_of fs)))
  variant_reads k e =
      let w : variant_fields fs ≡ true = and_right (eqb (length fs) 5) _ e in
      let x : (up_to 255 (field 2 fs) && (optional_up_to 255 (field 3 fs) && up_to 1 (field 4 fs))) ≡ true = and_right (up_to 255 (field 1 fs)) _ w in
      let y : (optional_up_to 255 (field 3 fs) && up_to 1 (field 4 fs)) ≡ true = and_right (up_to 255 (field 2 fs)) _ x in
      let one : (shown (value (field 1 fs)) ≡ field 1 fs) × (value (field 1 fs) ≤ 255) =
      up_to_back 255 (field 1 fs) (and_left (up_to 255 (field 1 fs)) _ w) in
      let two : (shown (value (field 2 fs)) ≡ field 2 fs) × (value (field 2 fs) ≤ 255) =
      up_to_back 255 (field 2 fs) (and_left (up_to 255 (field 2 fs)) _ x) in
      let three : ShiftReads (field 3 fs) = shift_reads (field 3 fs) (and_left (optional_up_to 255 (field 3 fs)) _ y) in
      let four : digit (ascii_of (field 4 fs)) ≡ field 4 fs = digit_reads (field 4 fs) (and_right (optional_up_to 255 (field 3 fs)) _ y) in
      line 5 (item (variant (size_of fs))) (record { missing = missing (field 3 fs); enum = false }) (and_left (eqb (length fs) 5) _ e)
      (λ n. rw (one.0, two.0, three.is, four, ← letter-field fs 82 k (omega arith)) (all-fields 5 0 fs n))
      (one.1, two.1, three.most) three.zero

  array_reads : kind_of fs ≡ 65 → array_form fs ≡ true → Reads rules writing fs (item (array (value (field 1 fs)) (ascii_of (field 2 fs))))
  array_reads k e =
      let w : (up_to 255 (field 1 fs) && up_to 1 (field 2 fs)) ≡ true = and_right (eqb (length fs) 3) _ e in
      let one : (shown (value (field 1 fs)) ≡ field 1 fs) × (value (field 1 fs) ≤ 255) =
      up_to_back 255 (field 1 fs) (and_left (up_to 255 (field 1 fs)) _ w) in
      plain_line 3 _ (and_left (eqb (length fs) 3) _ e)
      (λ n. rw (one.0, digit_reads (field 2 fs) (and_right (up_to 255 (field 1 fs)) _ w), ← letter-field fs 65 k (omega arith)) (all-fields 3 0 fs n))
      one.1

  -- a T or a K
  record Named : Type 0 where
    pub number : shown (value (field 1 fs)) ≡ field 1 fs
    pub most : value (field 1 fs) ≤ 255
    pub named : name (field 2 fs) ≡ true

  named : named_form fs ≡ true → Named
  named e =
      let w : (up_to 255 (field 1 fs) && name (field 2 fs)) ≡ true = and_right (eqb (length fs) 3) _ e in
      let one : (shown (value (field 1 fs)) ≡ field 1 fs) × (value (field 1 fs) ≤ 255) =
      up_to_back 255 (field 1 fs) (and_left (up_to 255 (field 1 fs)) _ w) in
      record { number = one.0; most = one.1; named = and_right (up_to 255 (field 1 fs)) _ w }

  flag_reads : kind_of fs ≡ 84 → named_form fs ≡ true → Reads rules writing fs (item (bit_flag (value (field 1 fs)) (field 2 fs)))
  flag_reads k e =
      plain_line 3 _ (and_left (eqb (length fs) 3) _ e)
      (λ n. rw ((named e).number, ← letter-field fs 84 k (omega arith)) (all-fields 3 0 fs n)) ((named e).most, (named e).named)

  const_reads : kind_of fs ≡ 75 → named_form fs ≡ true → Reads rules writing fs (item (const (value (field 1 fs)) (field 2 fs)))
  const_reads k e =
      plain_line 3 _ (and_left (eqb (length fs) 3) _ e)
      (λ n. rw ((named e).number, ← letter-field fs 75 k (omega arith)) (all-fields 3 0 fs n)) ((named e).most, (named e).named)

  -- an S, or a U
  bits_reads : (u : Bool) (k : ℕ) → cond u 85 83 ≡ k → 1 ≤ k → kind_of fs ≡ k → bits_form fs ≡ true
      → Reads rules writing fs (item (bit_field (bits_of fs)))
  bits_reads u k is some-k kind e =
      let w : bits_fields fs ≡ true = and_right (eqb (length fs) 4) _ e in
      let x : (optional_up_to 255 (field 2 fs) && name (field 3 fs)) ≡ true = and_right (up_to 255 (field 1 fs)) _ w in
      let one : (shown (value (field 1 fs)) ≡ field 1 fs) × (value (field 1 fs) ≤ 255) =
      up_to_back 255 (field 1 fs) (and_left (up_to 255 (field 1 fs)) _ w) in
      let two : ShiftReads (field 2 fs) = shift_reads (field 2 fs) (and_left (optional_up_to 255 (field 2 fs)) _ x) in
      line 4 (item (bit_field (bits_of fs))) (record { missing = missing (field 2 fs); enum = u }) (and_left (eqb (length fs) 4) _ e)
      (λ n. rw (is, one.0, two.is, ← letter-field fs k kind some-k) (all-fields 4 0 fs n))
      (one.1, two.most, and_right (optional_up_to 255 (field 2 fs)) _ x) two.zero

  bitmask_reads : kind_of fs ≡ 77 → bitmask_form fs ≡ true → Reads rules writing fs (item (bitmask (given (field 1 fs))))
  bitmask_reads k e =
      let one : (or_dash shown (given (field 1 fs)) ≡ field 1 fs) × Optionally (λ n. n ≤ 255) (given (field 1 fs)) =
      optional_reads (field 1 fs) (and_right (eqb (length fs) 2) _ e) in
      plain_line 2 _ (and_left (eqb (length fs) 2) _ e)
      (λ n. rw (one.0, ← letter-field fs 77 k (omega arith)) (all-fields 2 0 fs n)) one.1

  -- ---- what the fields say
  module _ (x : Record) where
    one : (b : Bool) (y : Record) → (b ≡ true → Reads rules writing fs y) → said b (Some y) ≡ Some x → Reads rules writing fs x
    one true y f e = let q : y ≡ x = cc in subst (Reads rules writing fs) q (f refl)
    one false y f e = absurd (let z : ◌≡◌ {A = ℕ} 0 1 = cc in omega arith)

    one_param : (b : Bool) (o : Option ParamType) → param_form fs ≡ b → type_of (field 2 fs) ≡ o
        → ((type : ParamType) → type_of (field 2 fs) ≡ Some type → param_form fs ≡ true → Reads rules writing fs (param (param_of fs type)))
        → said b (of_type fs o) ≡ Some x → Reads rules writing fs x
    one_param true (Some type) p t f e = let q : param (param_of fs type) ≡ x = cc in subst (Reads rules writing fs) q (f type t p)
    one_param true None p t f e = absurd (let z : ◌≡◌ {A = ℕ} 0 1 = cc in omega arith)
    one_param false o p t f e = absurd (let z : ◌≡◌ {A = ℕ} 0 1 = cc in omega arith)

    pub reads : form fs ≡ Some x → Reads rules writing fs x
    reads e = by_kind (eqb (kind_of fs) 81) (eqb (kind_of fs) 71) (eqb (kind_of fs) 82) (eqb (kind_of fs) 65) (eqb (kind_of fs) 84) (eqb (kind_of fs) 83)
        (eqb (kind_of fs) 85) (eqb (kind_of fs) 75) (eqb (kind_of fs) 77)
        refl refl refl refl refl refl refl refl refl e
      where
        by_kind : (q g r a t s u k m : Bool)
            → eqb (kind_of fs) 81 ≡ q → eqb (kind_of fs) 71 ≡ g → eqb (kind_of fs) 82 ≡ r → eqb (kind_of fs) 65 ≡ a → eqb (kind_of fs) 84 ≡ t
            → eqb (kind_of fs) 83 ≡ s → eqb (kind_of fs) 85 ≡ u → eqb (kind_of fs) 75 ≡ k → eqb (kind_of fs) 77 ≡ m
            → cond q (param_said fs)
            (cond g (said (group_form fs) (Some (group (group_of fs))))
            (cond r (said (variant_form fs) (Some (item (variant (size_of fs)))))
            (cond a (said (array_form fs) (Some (item (array (value (field 1 fs)) (ascii_of (field 2 fs))))))
            (cond t (said (named_form fs) (Some (item (bit_flag (value (field 1 fs)) (field 2 fs)))))
            (cond s (said (bits_form fs) (Some (item (bit_field (bits_of fs)))))
            (cond u (said (bits_form fs) (Some (item (bit_field (bits_of fs)))))
            (cond k (said (named_form fs) (Some (item (const (value (field 1 fs)) (field 2 fs)))))
            (cond m (said (bitmask_form fs) (Some (item (bitmask (given (field 1 fs)))))) None)))))))) ≡ Some x
            → Reads rules writing fs x
        by_kind true g r a t s u k m eq eg er ea et es eu ek em e =
            one_param (param_form fs) (type_of (field 2 fs)) refl refl (λ type. param_reads type (eqb-true _ _ eq)) e
        by_kind false true r a t s u k m eq eg er ea et es eu ek em e = one (group_form fs) _ (group_reads (eqb-true _ _ eg)) e
        by_kind false false true a t s u k m eq eg er ea et es eu ek em e = one (variant_form fs) _ (variant_reads (eqb-true _ _ er)) e
        by_kind false false false true t s u k m eq eg er ea et es eu ek em e = one (array_form fs) _ (array_reads (eqb-true _ _ ea)) e
        by_kind false false false false true s u k m eq eg er ea et es eu ek em e = one (named_form fs) _ (flag_reads (eqb-true _ _ et)) e
        by_kind false false false false false true u k m eq eg er ea et es eu ek em e =
            one (bits_form fs) _ (bits_reads false 83 refl (omega arith) (eqb-true _ _ es)) e
        by_kind false false false false false false true k m eq eg er ea et es eu ek em e =
            one (bits_form fs) _ (bits_reads true 85 refl (omega arith) (eqb-true _ _ eu)) e
        by_kind false false false false false false false true m eq eg er ea et es eu ek em e = one (named_form fs) _ (const_reads (eqb-true _ _ ek)) e
        by_kind false false false false false false false false true eq eg er ea et es eu ek em e =
            one (bitmask_form fs) _ (bitmask_reads (eqb-true _ _ em)) e
        by_kind false false false false false false false false false eq eg er ea et es eu ek em e =
            absurd (let z : ◌≡◌ {A = ℕ} 0 1 = cc in omega arith)

    -- the kind of a line whose record this is
    pub kind_letter : form fs ≡ Some x → read_as (kind_of fs) ≡ letter x
    kind_letter e =
        let w : Reads rules writing fs x = reads e in
        ap (λ (gs : List (List ℕ)). read_as (kind_of gs)) (sym w.print_is) ∙ by_record w.line.spelling w.line.says ∙ ap letter w.says_it
      where
        by_enum : (u : Bool) → read_as (cond u 85 83) ≡ 83
        by_enum true = refl
        by_enum false = refl

        by_item : (w : Spelling) (d : Detail) → read_as (kind_of (print_item w d)) ≡ letter_of d
        by_item w (variant s) = refl
        by_item w (array n ascii) = refl
        by_item w (bit_flag mask n) = refl
        by_item w (bit_field b) = by_enum w.enum
        by_item w (const v n) = refl
        by_item w (bitmask n) = refl

        by_record : (w : Spelling) (x : Record) → read_as (kind_of (print w x)) ≡ letter x
        by_record w (param q) = refl
        by_record w (group g) = refl
        by_record w (item d) = by_item w d

    said_fits : form fs ≡ Some x → Fits x
    said_fits e = let w : Reads rules writing fs x = reads e in rw (← w.says_it) w.fits.fits

-- every record of a text can be written
pub records_fit : (ls : List (List ℕ)) → Every Fits (records form ls)
records_fit [] = tt
records_fit (l ∷ []) = tt
records_fit (l ∷ m ∷ ms) = go (form (fields l)) (said_fits (fields l)) (records_fit (m ∷ ms))
  where
    go : (x : Option Record) → ((r : Record) → x ≡ Some r → Fits r) → Every Fits (records form (m ∷ ms))
        → Every Fits (onto x (records form (m ∷ ms)))
    go None f rest = rest
    go (Some r) f rest = (f r refl, rest)
