-- Laws of the attributes that are written. Assumes nothing.
use mathlib.Core.Path.{◌≡◌, refl, sym, ◌∙◌}
use mathlib.Core.Bool.{Bool, true, false, cond, ◌||◌}
use mathlib.Core.List.{List, [], ◌∷◌, ◌++◌}
use Prim.Native.Nat.{ℕ, zero, suc, ◌+◌, ◌-◌, ◌≤◌, ◌<◌}
use native.Mathlib.Omega.{arith}
use lib.Dec.{eqb}
use lib.ListN.{length, get_or, take, drop, length-drop}
use borrow.Author.Tests.{eq-eqb, ne_eqb, lt-ltb, le-ltb}
use Rattle.laws.proofs.Lists.{tail}
use Rattle.text.specs.Text.{field, fields, missing}
use Rattle.append.specs.Append.{Room, Laid}
use Rattle.append.proofs.Laws.{Leaves, leaves_start, leaves_more, leaves_room, leaves_done, laid_none, laid_both, room-first, room-second}
use Rattle.xml_schema.proofs.Laws.{entry_last, entry_some, entry_start, entry_is, entry_laws}
use Rattle.xml_schema.specs.Schema.{form_of, name_of, optional_words, optional_number, hex_number, flag, further_flag, is_dropped, Follows}
use Rattle.xml_spelling.specs.Spelling.{escaped, hexed, flagged}
use Rattle.xml_attributes.specs.Attributes.{value_for, is_absent, label, written, field_after, digit_after, attributes}
use Rattle.std.specs.Prelude.{Option, Some, None}

-- ---- a digit
pub digit-none : (s : List ℕ) (j : ℕ) → length s ≤ j → 0 ≡ get_or s j 0
digit-none [] j h = refl
digit-none (x ∷ xs) zero h = absurd (omega arith)
digit-none (x ∷ xs) (suc j) h = digit-none xs j (omega arith)

-- ---- by the form
module _ (f : ℕ) where
  pub digit-more : (j : ℕ) → f ≡ further_flag → j + 1 ≡ digit_after f j
  digit-more j e = rw (eq-eqb f further_flag e)

  pub digit_one : (j : ℕ) → (f ≡ further_flag → ⊥) → 1 ≡ digit_after f j
  digit_one j e = rw (ne_eqb f further_flag e)

  pub field_dropped : (k : ℕ) → f < 58 → k ≡ field_after f k
  field_dropped k h = rw (lt-ltb f 58 h)

  pub field-further : (k : ℕ) → 58 ≤ f → f ≡ further_flag → k ≡ field_after f k
  field-further k h e = rw (le-ltb f 58 h, eq-eqb f further_flag e)

  pub field_next : (k : ℕ) → 58 ≤ f → (f ≡ further_flag → ⊥) → k + 1 ≡ field_after f k
  field_next k h e = rw (le-ltb f 58 h, ne_eqb f further_flag e)

  pub may_words : f ≡ optional_words → true ≡ (eqb f optional_words || eqb f optional_number)
  may_words e = rw (eq-eqb f optional_words e)

  pub may_number : (b : Bool) → (f ≡ optional_words → ⊥) → b ≡ eqb f optional_number → b ≡ (eqb f optional_words || eqb f optional_number)
  may_number b e q = rw (ne_eqb f optional_words e, q)

  module _ (fs : List (List ℕ)) (k j : ℕ) where
    pub absent_if : (m b : Bool) (s : List ℕ) → m ≡ (eqb f optional_words || eqb f optional_number) → m ≡ true → s ≡ field k fs
        → b ≡ missing s → b ≡ is_absent f fs k
    absent_if m b s q y w r = rw (sym q ∙ y, r, w)

    pub absent_not : (m : Bool) → m ≡ (eqb f optional_words || eqb f optional_number) → m ≡ false → false ≡ is_absent f fs k
    absent_not m q n = rw (sym q ∙ n)

    -- its value
    dropped_is : f < 58 → value_for f fs k j ≡ escaped (field (f - 48) fs)
    dropped_is h = rw (lt-ltb f 58 h)

    flag_is : 58 ≤ f → f ≡ flag → value_for f fs k j ≡ flagged (get_or (field k fs) 0 0)
    flag_is h e = rw (le-ltb f 58 h, eq-eqb f flag e)

    further_is : 58 ≤ f → f ≡ further_flag → value_for f fs k j ≡ flagged (get_or (field (k - 1) fs) j 0)
    further_is h e = rw e

    hex_is : 58 ≤ f → f ≡ hex_number → value_for f fs k j ≡ hexed (field k fs)
    hex_is h e = rw e

    else_is : 58 ≤ f → (f ≡ flag → ⊥) → (f ≡ further_flag → ⊥) → (f ≡ hex_number → ⊥) → value_for f fs k j ≡ escaped (field k fs)
    else_is h a b c = rw (le-ltb f 58 h, ne_eqb f flag a, ne_eqb f further_flag b, ne_eqb f hex_number c)

    module _ (at : ℕ) (room : Room at (value_for f fs k j)) where
      pub dropped_room : (n : ℕ) (again : List ℕ) → again ≡ field n fs → n ≡ f - 48 → f < 58 → Room at (escaped again)
      dropped_room n again q m h = rw (q, m) (rw (dropped_is h) at room)

      pub flag-room : (s : List ℕ) (d : ℕ) → d ≡ get_or s 0 0 → s ≡ field k fs → 58 ≤ f → f ≡ flag → Room at (flagged d)
      flag-room s d p q h e = rw (p, q) (rw (flag_is h e) at room)

      pub further-room : (n : ℕ) (s : List ℕ) (d : ℕ) → d ≡ get_or s j 0 → s ≡ field n fs → n ≡ k - 1 → 58 ≤ f → f ≡ further_flag
          → Room at (flagged d)
      further-room n s d p q m h e = rw (p, q, m) (rw (further_is h e) at room)

      pub hex-room : (s : List ℕ) → s ≡ field k fs → 58 ≤ f → f ≡ hex_number → Room at (hexed s)
      hex-room s q h e = rw q (rw (hex_is h e) at room)

      pub else_room : (s : List ℕ) → s ≡ field k fs → 58 ≤ f → (f ≡ flag → ⊥) → (f ≡ further_flag → ⊥) → (f ≡ hex_number → ⊥)
          → Room at (escaped s)
      else_room s q h a b c = rw q (rw (else_is h a b c) at room)

    module _ (b b' : List ℕ) (at r : ℕ) where
      pub dropped_laid : (n : ℕ) (again : List ℕ) → again ≡ field n fs → n ≡ f - 48 → f < 58 → Laid (escaped again) b at r b'
          → Laid (value_for f fs k j) b at r b'
      dropped_laid n again q m h l = rw (dropped_is h, ← m, ← q) l

      pub flag-laid : (s : List ℕ) (d : ℕ) → d ≡ get_or s 0 0 → s ≡ field k fs → 58 ≤ f → f ≡ flag → Laid (flagged d) b at r b'
          → Laid (value_for f fs k j) b at r b'
      flag-laid s d p q h e l = rw (flag_is h e, ← q, ← p) l

      pub further-laid : (n : ℕ) (s : List ℕ) (d : ℕ) → d ≡ get_or s j 0 → s ≡ field n fs → n ≡ k - 1 → 58 ≤ f → f ≡ further_flag
          → Laid (flagged d) b at r b'
          → Laid (value_for f fs k j) b at r b'
      further-laid n s d p q m h e l = rw (further_is h e, ← m, ← q, ← p) l

      pub hex-laid : (s : List ℕ) → s ≡ field k fs → 58 ≤ f → f ≡ hex_number → Laid (hexed s) b at r b'
          → Laid (value_for f fs k j) b at r b'
      hex-laid s q h e l = rw (hex_is h e, ← q) l

      pub else_laid : (s : List ℕ) → s ≡ field k fs → 58 ≤ f → (f ≡ flag → ⊥) → (f ≡ further_flag → ⊥) → (f ≡ hex_number → ⊥)
          → Laid (escaped s) b at r b'
          → Laid (value_for f fs k j) b at r b'
      else_laid s q h a c d l = rw (else_is h a c d, ← q) l

-- ---- what stands before a value
module _ (e : List ℕ) (a : ℕ) (name : drop a e ≡ name_of e) (at : ℕ) where
  pub label-space : Room at (label (name_of e)) → Room at (0x20 ∷ [])
  label-space room = room-first at (0x20 ∷ []) (name_of e ++ (0x3d ∷ 0x22 ∷ [])) room

  module _ (b b₁ : List ℕ) (r : ℕ) (space : Laid (0x20 ∷ []) b at r b₁) where
    pub label-name : Room at (label (name_of e)) → Room r (take (length e - a) (drop a e))
    label-name room =
        rw (tail, name)
        (room-first r (name_of e) (0x3d ∷ 0x22 ∷ []) (room-second at r (0x20 ∷ []) (name_of e ++ (0x3d ∷ 0x22 ∷ [])) b b₁ space room))

    module _ (b₂ : List ℕ) (q : ℕ) (named : Laid (take (length e - a) (drop a e)) b₁ r q b₂) where
      named_is : Laid (name_of e) b₁ r q b₂
      named_is = let n : Laid (drop a e) b₁ r q b₂ = rw tail at named in rw name at n

      pub label_equals : Room at (label (name_of e)) → Room q (0x3d ∷ 0x22 ∷ [])
      label_equals room =
          room-second r q (name_of e) (0x3d ∷ 0x22 ∷ []) b₁ b₂ named_is
          (room-second at r (0x20 ∷ []) (name_of e ++ (0x3d ∷ 0x22 ∷ [])) b b₁ space room)

      pub label-laid : (b₃ : List ℕ) (p : ℕ) → Laid (0x3d ∷ 0x22 ∷ []) b₂ q p b₃ → Laid (label (name_of e)) b at p b₃
      label-laid b₃ p equals =
          laid_both (0x20 ∷ []) (name_of e ++ (0x3d ∷ 0x22 ∷ [])) b b₁ b₃ at r p space
          (laid_both (name_of e) (0x3d ∷ 0x22 ∷ []) b₁ b₂ b₃ r q p named_is equals)

-- ---- an attribute
module _ (e : List ℕ) (fs : List (List ℕ)) (k j f : ℕ) (is : f ≡ form_of e) (m : Bool) (q : m ≡ is_absent f fs k) where
  pub attribute-none : m ≡ true → (b : List ℕ) (at : ℕ) → Laid (written e fs k j) b at at b
  attribute-none y b at = rw (← is, sym q ∙ y) (laid_none b at)

  module _ (n : m ≡ false) where
    there : written e fs k j ≡ label (name_of e) ++ (value_for f fs k j ++ (0x22 ∷ []))
    there = rw (← is, sym q ∙ n)

    module _ (at : ℕ) (room : Room at (written e fs k j)) where
      room_is : Room at (label (name_of e) ++ (value_for f fs k j ++ (0x22 ∷ [])))
      room_is = rw there at room

      pub attribute-label : Room at (label (name_of e))
      attribute-label = room-first at (label (name_of e)) (value_for f fs k j ++ (0x22 ∷ [])) room_is

      module _ (b b₁ : List ℕ) (r : ℕ) (labelled : Laid (label (name_of e)) b at r b₁) where
        pub attribute-value : Room r (value_for f fs k j)
        attribute-value =
            room-first r (value_for f fs k j) (0x22 ∷ [])
            (room-second at r (label (name_of e)) (value_for f fs k j ++ (0x22 ∷ [])) b b₁ labelled room_is)

        pub attribute_end : (b₂ : List ℕ) (p : ℕ) → Laid (value_for f fs k j) b₁ r p b₂ → Room p (0x22 ∷ [])
        attribute_end b₂ p valued =
            room-second r p (value_for f fs k j) (0x22 ∷ []) b₁ b₂ valued
            (room-second at r (label (name_of e)) (value_for f fs k j ++ (0x22 ∷ [])) b b₁ labelled room_is)

    pub attribute-laid : (b b₁ b₂ b₃ : List ℕ) (at r p o : ℕ) → Laid (label (name_of e)) b at r b₁ → Laid (value_for f fs k j) b₁ r p b₂
        → Laid (0x22 ∷ []) b₂ p o b₃ → Laid (written e fs k j) b at o b₃
    attribute-laid b b₁ b₂ b₃ at r p o x y z =
        rw there
        (laid_both (label (name_of e)) (value_for f fs k j ++ (0x22 ∷ [])) b b₁ b₃ at r o x
        (laid_both (value_for f fs k j) (0x22 ∷ []) b₁ b₂ b₃ r p o y z))

-- ---- entry by entry
after-low : (f k : ℕ) → field_after f k ≤ k + 1
after-low f k = by (is_dropped f || eqb f further_flag)
  where
    by : (t : Bool) → cond t k (k + 1) ≤ k + 1
    by true = omega arith
    by false = omega arith

digit-after-low : (f j : ℕ) → digit_after f j ≤ j + 1
digit-after-low f j = by (eqb f further_flag)
  where
    by : (t : Bool) → cond t (j + 1) 1 ≤ j + 1
    by true = omega arith
    by false = omega arith

pub record Listing (row : List ℕ) (fs : List (List ℕ)) (first : ℕ) (b b₀ : List ℕ) (at at₀ : ℕ) (rest : List ℕ) (k j : ℕ) : Type 0 where
  pub field-low : k + length rest ≤ length row + 2
  pub digit_low : j + length rest ≤ length row + 1
  pub leaves : Leaves (attributes (drop 1 (fields rest)) fs k j) (attributes (drop 1 (fields row)) fs first 1) b b₀ at at₀

pub listing_start : (row : List ℕ) (fs : List (List ℕ)) (first : ℕ) (b : List ℕ) (at : ℕ) → first ≤ 2 → Listing row fs first b b at at row first 1
listing_start row fs first b at h = record {
  field-low = omega arith;
  digit_low = omega arith;
  leaves = leaves_start (attributes (drop 1 (fields row)) fs first 1) b at;
}

module _ (row : List ℕ) (fs : List (List ℕ)) (first : ℕ) (b b₀ : List ℕ) (at at₀ : ℕ) (rest : List ℕ) (k j : ℕ)
    (inv : Listing row fs first b b₀ at at₀ rest k j) where
  pub listing-same : length b ≡ length b₀
  listing-same = inv.leaves.same

  pub listing-field : length row ≤ 300 → k < 1000
  listing-field h = omega (arith, inv.field-low)

  pub listing-digit : length row ≤ 300 → j < 1000
  listing-digit h = omega (arith, inv.digit_low)

  module _ (n : Option (ℕ × ℕ)) (follows : Follows rest n) where
    pub listing_done : n ≡ None → Laid (attributes (drop 1 (fields row)) fs first 1) b₀ at₀ at b
    unfolding attributes
    listing_done e =
        leaves_done (attributes (drop 1 (fields row)) fs first 1) b b₀ at at₀ (rw (entry_last rest n follows e) at inv.leaves)

    module _ (a len : ℕ) (e : n ≡ Some (a, len)) where
      abbrev left : List ℕ
      left = take (length rest - a) (drop a rest)

      abbrev entry : List ℕ
      entry = take len left

      left-long : (1 ≤ a) × (length left + a ≡ length rest)
      left-long =
          let now : (1 ≤ a) × (a ≤ length rest) = (entry_some rest n follows a len e, entry_start rest n follows a len e) in
          (now.0, rw (tail, length-drop) (omega (arith, now.1)))

      one_more : Leaves (written entry fs k j ++ attributes (drop 1 (fields left)) fs (field_after (form_of entry) k) (digit_after (form_of entry) j))
          (attributes (drop 1 (fields row)) fs first 1) b b₀ at at₀
      unfolding attributes
      one_more = rw (entry_is rest n follows a len e) at inv.leaves

      pub entry_room : Room at₀ (attributes (drop 1 (fields row)) fs first 1) → Room at (written entry fs k j)
      entry_room room = leaves_room (written entry fs k j) _ (attributes (drop 1 (fields row)) fs first 1) b b₀ at at₀ one_more room

      pub listing-more : (b' : List ℕ) (r f k' j' : ℕ) → Laid (written entry fs k j) b at r b' → f ≡ form_of entry
          → k' ≡ field_after f k → j' ≡ digit_after f j
          → Listing row fs first b' b₀ r at₀ left k' j'
      listing-more b' r f k' j' l is ks js = record {
        field-low = omega (arith, left-long.0, left-long.1, inv.field-low, ks, after-low f k);
        digit_low = omega (arith, left-long.0, left-long.1, inv.digit_low, js, digit-after-low f j);
        leaves =
            rw (ks, js, is)
            (leaves_more (written entry fs k j) _ (attributes (drop 1 (fields row)) fs first 1) b b₀ at at₀ one_more b' r l);
      }

pub ruleset laws = (
  digit-none,
  digit-more,
  digit_one,
  field_dropped,
  field-further,
  field_next,
  may_words,
  may_number,
  absent_if,
  absent_not,
  dropped_room,
  flag-room,
  further-room,
  hex-room,
  else_room,
  dropped_laid,
  flag-laid,
  further-laid,
  hex-laid,
  else_laid,
  label-space,
  label-name,
  label_equals,
  label-laid,
  attribute-none,
  attribute-label,
  attribute-value,
  attribute_end,
  attribute-laid,
  listing_start,
  listing-same,
  listing-field,
  listing-digit,
  listing_done,
  entry_laws,
  entry_room,
  listing-more,
)
