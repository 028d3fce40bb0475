-- A fault is told of a line of a command text exactly where the line is none of the forms. Assumes nothing.
use mathlib.Core.Path.{◌≡◌, refl, sym, ap, subst, ◌∙◌}
use mathlib.Core.Bool.{Bool, true, false, cond, ◌&&◌}
use mathlib.Core.List.{List, [], ◌∷◌}
use Prim.Native.Nat.{ℕ}
use native.Mathlib.Omega.{arith}
use lib.Dec.{eqb}
use lib.ListN.{length, get_or}
use borrow.Author.Tests.{eqb-true, ne_eqb}
use Rattle.text.specs.Text.{fields, field, up_to, optional_up_to, name}
use Rattle.text.specs.Place.{kind_of}
use Rattle.text.specs.Records.{is_some}
use Rattle.text.proofs.Judging.{split_some}
use Rattle.command_text.specs.Form.{Record, group, item, variant, array, bit_flag, bit_field, const, bitmask, value, given, ascii_of, type_of, known}
use Rattle.command_text.specs.Form.{param_form, param_condition, group_form, variant_form, array_form, named_form, bits_form, bitmask_form, group_of, size_of, bits_of}
use Rattle.command_text.specs.Form.{of_type, said, param_said, form}
use Rattle.text_faults.specs.Form.{command_count, want_of}
use Rattle.text_faults.specs.Advice.{is_fine, advice_on, after, command_advice}
use Rattle.text_faults.proofs.advice.Tables.{line_exact, some_count, one, two, three, four, regroup}
use Rattle.std.specs.Prelude.{Option, Some, None}
use Rattle.command_text.specs.declared.ParamType.{ParamType}

some_said : (b : Bool) (x : Record) → is_some (said b (Some x)) ≡ b
some_said true x = refl
some_said false x = refl

-- a Q's type is known where its form holds
some_param : (fs : List (List ℕ)) → is_some (param_said fs) ≡ param_form fs
some_param fs = go (eqb (length fs) 6) (up_to 1 (field 1 fs)) (type_of (field 2 fs)) (name (field 3 fs)) (param_condition fs)
  where
    go : (a b : Bool) (t : Option ParamType) (c d : Bool) → is_some (said (a && ((b && (known t && c)) && d)) (of_type fs t)) ≡ (a && ((b && (known t && c)) && d))
    go false b t c d = refl
    go true false t c d = refl
    go true true (Some type) true true = refl
    go true true (Some type) true false = refl
    go true true (Some type) false d = refl
    go true true None c d = refl

-- the form, by the letter
abbrev form_at : ℕ → List (List ℕ) → Option Record
form_at c fs =
    cond (eqb c 0x51) (param_said fs)
    (cond (eqb c 0x47) (said (group_form fs) (Some (group (group_of fs))))
    (cond (eqb c 0x52) (said (variant_form fs) (Some (item (variant (size_of fs)))))
    (cond (eqb c 0x41) (said (array_form fs) (Some (item (array (value (field 1 fs)) (ascii_of (field 2 fs))))))
    (cond (eqb c 0x54) (said (named_form fs) (Some (item (bit_flag (value (field 1 fs)) (field 2 fs)))))
    (cond (eqb c 0x53) (said (bits_form fs) (Some (item (bit_field (bits_of fs)))))
    (cond (eqb c 0x55) (said (bits_form fs) (Some (item (bit_field (bits_of fs)))))
    (cond (eqb c 0x4b) (said (named_form fs) (Some (item (const (value (field 1 fs)) (field 2 fs)))))
    (cond (eqb c 0x4d) (said (bitmask_form fs) (Some (item (bitmask (given (field 1 fs)))))) None))))))))

module _ (f : List ℕ) (fs : List (List ℕ)) where
  -- a field after the letter, from 0
  abbrev at : ℕ → List ℕ
  at k = get_or fs k []

  abbrev Exact : ℕ → Type 0
  Exact c = is_fine (advice_on (want_of c) (command_count c) fs) ≡ is_some (form_at c (f ∷ fs))

  exact_Q : Exact 0x51
  exact_Q = sym (some_param (f ∷ fs) ∙ line_exact (want_of 0x51) 5 f fs
      ((up_to 1 (at 0) && (known (type_of (at 1)) && name (at 2))) && (optional_up_to 255 (at 3) && optional_up_to 255 (at 4))) (some_count 5 refl)
      (regroup (up_to 1 (at 0)) (known (type_of (at 1))) (name (at 2)) (optional_up_to 255 (at 3) && optional_up_to 255 (at 4))
      ∙ ap (λ (b : Bool). up_to 1 (at 0) && (known (type_of (at 1)) && (name (at 2) && (optional_up_to 255 (at 3) && b)))) (one (optional_up_to 255 (at 4)))))

  exact_G : Exact 0x47
  exact_G = sym (some_said (group_form (f ∷ fs)) _ ∙ line_exact (want_of 0x47) 4 f fs
      (name (at 0) && (up_to 255 (at 1) && (up_to 255 (at 2) && up_to 255 (at 3)))) (some_count 4 refl)
      (four (name (at 0)) (up_to 255 (at 1)) (up_to 255 (at 2)) (up_to 255 (at 3))))

  exact_R : Exact 0x52
  exact_R = sym (some_said (variant_form (f ∷ fs)) _ ∙ line_exact (want_of 0x52) 4 f fs
      (up_to 255 (at 0) && (up_to 255 (at 1) && (optional_up_to 255 (at 2) && up_to 1 (at 3)))) (some_count 4 refl)
      (four (up_to 255 (at 0)) (up_to 255 (at 1)) (optional_up_to 255 (at 2)) (up_to 1 (at 3))))

  exact_A : Exact 0x41
  exact_A = sym (some_said (array_form (f ∷ fs)) _ ∙ line_exact (want_of 0x41) 2 f fs (up_to 255 (at 0) && up_to 1 (at 1)) (some_count 2 refl)
      (two (up_to 255 (at 0)) (up_to 1 (at 1))))

  exact_T : Exact 0x54
  exact_T = sym (some_said (named_form (f ∷ fs)) _ ∙ line_exact (want_of 0x54) 2 f fs (up_to 255 (at 0) && name (at 1)) (some_count 2 refl)
      (two (up_to 255 (at 0)) (name (at 1))))

  exact_S : Exact 0x53
  exact_S = sym (some_said (bits_form (f ∷ fs)) _ ∙ line_exact (want_of 0x53) 3 f fs (up_to 255 (at 0) && (optional_up_to 255 (at 1) && name (at 2)))
      (some_count 3 refl) (three (up_to 255 (at 0)) (optional_up_to 255 (at 1)) (name (at 2))))

  exact_U : Exact 0x55
  exact_U = sym (some_said (bits_form (f ∷ fs)) _ ∙ line_exact (want_of 0x55) 3 f fs (up_to 255 (at 0) && (optional_up_to 255 (at 1) && name (at 2)))
      (some_count 3 refl) (three (up_to 255 (at 0)) (optional_up_to 255 (at 1)) (name (at 2))))

  exact_K : Exact 0x4b
  exact_K = sym (some_said (named_form (f ∷ fs)) _ ∙ line_exact (want_of 0x4b) 2 f fs (up_to 255 (at 0) && name (at 1)) (some_count 2 refl)
      (two (up_to 255 (at 0)) (name (at 1))))

  exact_M : Exact 0x4d
  exact_M = sym (some_said (bitmask_form (f ∷ fs)) _ ∙ line_exact (want_of 0x4d) 1 f fs (optional_up_to 255 (at 0)) (some_count 1 refl)
      (one (optional_up_to 255 (at 0))))

  exact : (c : ℕ) → Exact c
  exact c = at_Q (eqb c 0x51) refl
    where
      at_M : (b : Bool) → eqb c 0x4d ≡ b → eqb c 0x51 ≡ false → eqb c 0x47 ≡ false → eqb c 0x52 ≡ false → eqb c 0x41 ≡ false
          → eqb c 0x54 ≡ false → eqb c 0x53 ≡ false → eqb c 0x55 ≡ false → eqb c 0x4b ≡ false → Exact c
      at_M true e h0 h1 h2 h3 h4 h5 h6 h7 = subst Exact (sym (eqb-true c 0x4d e)) exact_M
      at_M false e h0 h1 h2 h3 h4 h5 h6 h7 = rw (h0, h1, h2, h3, h4, h5, h6, h7, e)

      at_K : (b : Bool) → eqb c 0x4b ≡ b → eqb c 0x51 ≡ false → eqb c 0x47 ≡ false → eqb c 0x52 ≡ false → eqb c 0x41 ≡ false
          → eqb c 0x54 ≡ false → eqb c 0x53 ≡ false → eqb c 0x55 ≡ false → Exact c
      at_K true e h0 h1 h2 h3 h4 h5 h6 = subst Exact (sym (eqb-true c 0x4b e)) exact_K
      at_K false e h0 h1 h2 h3 h4 h5 h6 = at_M (eqb c 0x4d) refl h0 h1 h2 h3 h4 h5 h6 e

      at_u : (b : Bool) → eqb c 0x55 ≡ b → eqb c 0x51 ≡ false → eqb c 0x47 ≡ false → eqb c 0x52 ≡ false → eqb c 0x41 ≡ false
          → eqb c 0x54 ≡ false → eqb c 0x53 ≡ false → Exact c
      at_u true e h0 h1 h2 h3 h4 h5 = subst Exact (sym (eqb-true c 0x55 e)) exact_U
      at_u false e h0 h1 h2 h3 h4 h5 = at_K (eqb c 0x4b) refl h0 h1 h2 h3 h4 h5 e

      at_S : (b : Bool) → eqb c 0x53 ≡ b → eqb c 0x51 ≡ false → eqb c 0x47 ≡ false → eqb c 0x52 ≡ false → eqb c 0x41 ≡ false
          → eqb c 0x54 ≡ false → Exact c
      at_S true e h0 h1 h2 h3 h4 = subst Exact (sym (eqb-true c 0x53 e)) exact_S
      at_S false e h0 h1 h2 h3 h4 = at_u (eqb c 0x55) refl h0 h1 h2 h3 h4 e

      at_T : (b : Bool) → eqb c 0x54 ≡ b → eqb c 0x51 ≡ false → eqb c 0x47 ≡ false → eqb c 0x52 ≡ false → eqb c 0x41 ≡ false → Exact c
      at_T true e h0 h1 h2 h3 = subst Exact (sym (eqb-true c 0x54 e)) exact_T
      at_T false e h0 h1 h2 h3 = at_S (eqb c 0x53) refl h0 h1 h2 h3 e

      at_A : (b : Bool) → eqb c 0x41 ≡ b → eqb c 0x51 ≡ false → eqb c 0x47 ≡ false → eqb c 0x52 ≡ false → Exact c
      at_A true e h0 h1 h2 = subst Exact (sym (eqb-true c 0x41 e)) exact_A
      at_A false e h0 h1 h2 = at_T (eqb c 0x54) refl h0 h1 h2 e

      at_R : (b : Bool) → eqb c 0x52 ≡ b → eqb c 0x51 ≡ false → eqb c 0x47 ≡ false → Exact c
      at_R true e h0 h1 = subst Exact (sym (eqb-true c 0x52 e)) exact_R
      at_R false e h0 h1 = at_A (eqb c 0x41) refl h0 h1 e

      at_g : (b : Bool) → eqb c 0x47 ≡ b → eqb c 0x51 ≡ false → Exact c
      at_g true e h0 = subst Exact (sym (eqb-true c 0x47 e)) exact_G
      at_g false e h0 = at_R (eqb c 0x52) refl h0 e

      at_Q : (b : Bool) → eqb c 0x51 ≡ b → Exact c
      at_Q true e = subst Exact (sym (eqb-true c 0x51 e)) exact_Q
      at_Q false e = at_g (eqb c 0x47) refl e

-- a line, given without its 0x0A
pub command_exact : (l : List ℕ) → is_fine (command_advice l) ≡ is_some (form (fields l))
command_exact [] = refl
command_exact (x ∷ xs) = rw (ne_eqb (length (x ∷ xs)) 0 (λ z. omega arith)) (go (fields (x ∷ xs)) (split_some 9 (x ∷ xs)))
  where
    go : (fs : List (List ℕ)) → (fs ≡ [] → ⊥) → is_fine (advice_on (want_of (kind_of fs)) (command_count (kind_of fs)) (after fs)) ≡ is_some (form fs)
    go [] h = absurd (h refl)
    go (f ∷ fs) h = exact f fs (kind_of (f ∷ fs))
