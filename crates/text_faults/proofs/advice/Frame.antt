-- A fault is told of a line of a frame text exactly where the line is none of the forms. Assumes nothing.
use mathlib.Core.Path.{◌≡◌, refl, sym, ap, subst, ◌∙◌}
use mathlib.Core.Bool.{Bool, true, false, cond, ◌&&◌}
use mathlib.Core.List.{List, [], ◌∷◌}
use Prim.Native.Nat.{ℕ}
use native.Mathlib.Omega.{arith}
use lib.Dec.{eqb}
use lib.ListN.{length, get_or}
use borrow.Author.Tests.{eqb-true, ne_eqb}
use Rattle.text.specs.Text.{fields, field, decimal, up_to, optional_up_to, name, plain, path, optional_name, optional_path}
use Rattle.text.specs.Place.{kind_of}
use Rattle.text.specs.Records.{is_some}
use Rattle.text.proofs.Judging.{split_some}
use Rattle.frame_text.specs.Form.{Record, frequency, base, header, validation, set, entry, value, names, type_of, known, flags, frequency_form, base_form}
use Rattle.frame_text.specs.Form.{header_form, param_numbers, param_form, validation_form, set_form, entry_form, header_of, of_type, said, param_said, form}
use Rattle.text_faults.specs.Form.{frame_count, want_of}
use Rattle.text_faults.specs.Advice.{is_fine, advice_on, after, frame_advice}
use Rattle.text_faults.proofs.advice.Tables.{line_exact, some_count, one, two, four, regroup}
use Rattle.std.specs.Prelude.{Option, Some, None}
use Rattle.frame_text.specs.declared.ParamType.{ParamType}

some_said : (b : Bool) (x : Record) → is_some (said b (Some x)) ≡ b
some_said true x = refl
some_said false x = refl

-- a P's type is known where its form holds
some_param : (fs : List (List ℕ)) → is_some (param_said fs) ≡ param_form fs
some_param fs = go (eqb (length fs) 9) (param_numbers fs) (type_of (field 4 fs)) _
  where
    go : (a b : Bool) (t : Option ParamType) (c : Bool) → is_some (said (a && (b && (known t && c))) (of_type fs t)) ≡ (a && (b && (known t && c)))
    go false b t c = refl
    go true false t c = refl
    go true true (Some type) true = refl
    go true true (Some type) false = refl
    go true true None c = refl

-- the form, by the letter
abbrev form_at : ℕ → List (List ℕ) → Option Record
form_at c fs =
    cond (eqb c 0x46) (said (frequency_form fs) (Some (frequency (value (field 1 fs)) (value (field 2 fs)))))
    (cond (eqb c 0x42) (said (base_form fs) (Some (base (value (field 1 fs)))))
    (cond (eqb c 0x48) (said (header_form fs) (Some (header (header_of fs))))
    (cond (eqb c 0x50) (param_said fs)
    (cond (eqb c 0x56) (said (validation_form fs) (Some (validation (names (field 1 fs)) (value (field 2 fs)))))
    (cond (eqb c 0x44) (said (set_form fs) (Some (set (field 1 fs))))
    (cond (eqb c 0x45) (said (entry_form fs) (Some (entry (value (field 1 fs)) (field 2 fs)))) None))))))

module _ (f : List ℕ) (fs : List (List ℕ)) where
  -- a field after the letter, from 0
  abbrev at : ℕ → List ℕ
  at k = get_or fs k []

  abbrev Exact : ℕ → Type 0
  Exact c = is_fine (advice_on (want_of c) (frame_count c) fs) ≡ is_some (form_at c (f ∷ fs))

  exact_F : Exact 0x46
  exact_F = sym (some_said (frequency_form (f ∷ fs)) _
      ∙ line_exact (want_of 0x46) 2 f fs (up_to 255 (at 0) && up_to 255 (at 1)) (some_count 2 refl) (two (up_to 255 (at 0)) (up_to 255 (at 1))))

  exact_B : Exact 0x42
  exact_B = sym (some_said (base_form (f ∷ fs)) _ ∙ line_exact (want_of 0x42) 1 f fs (up_to 255 (at 0)) (some_count 1 refl) (one (up_to 255 (at 0))))

  exact_H : Exact 0x48
  exact_H = sym (some_said (header_form (f ∷ fs)) _ ∙ line_exact (want_of 0x48) 4 f fs
      (up_to 255 (at 0) && (optional_up_to 255 (at 1) && (flags (at 2) && name (at 3)))) (some_count 4 refl)
      (four (up_to 255 (at 0)) (optional_up_to 255 (at 1)) (flags (at 2)) (name (at 3))))

  exact_P : Exact 0x50
  exact_P = sym (some_param (f ∷ fs) ∙ line_exact (want_of 0x50) 8 f fs
      ((decimal (at 0) && (up_to 65535 (at 1) && up_to 255 (at 2)))
      && (known (type_of (at 3)) && (plain (at 4) && (optional_name (at 5) && (optional_path (at 6) && optional_path (at 7)))))) (some_count 8 refl)
      (regroup (decimal (at 0)) (up_to 65535 (at 1)) (up_to 255 (at 2))
      (known (type_of (at 3)) && (plain (at 4) && (optional_name (at 5) && (optional_path (at 6) && optional_path (at 7)))))
      ∙ ap (λ (b : Bool). decimal (at 0) && (up_to 65535 (at 1)
      && (up_to 255 (at 2) && (known (type_of (at 3)) && (plain (at 4) && (optional_name (at 5) && (optional_path (at 6) && b)))))))
      (one (optional_path (at 7)))))

  exact_V : Exact 0x56
  exact_V = sym (some_said (validation_form (f ∷ fs)) _
      ∙ line_exact (want_of 0x56) 2 f fs (path (at 0) && up_to 65535 (at 1)) (some_count 2 refl) (two (path (at 0)) (up_to 65535 (at 1))))

  exact_D : Exact 0x44
  exact_D = sym (some_said (set_form (f ∷ fs)) _ ∙ line_exact (want_of 0x44) 1 f fs (name (at 0)) (some_count 1 refl) (one (name (at 0))))

  exact_E : Exact 0x45
  exact_E = sym (some_said (entry_form (f ∷ fs)) _ ∙ line_exact (want_of 0x45) 2 f fs (up_to 65535 (at 0) && name (at 1)) (some_count 2 refl)
      (two (up_to 65535 (at 0)) (name (at 1))))

  exact : (c : ℕ) → Exact c
  exact c = at_F (eqb c 0x46) refl
    where
      at_E : (b : Bool) → eqb c 0x45 ≡ b → eqb c 0x46 ≡ false → eqb c 0x42 ≡ false → eqb c 0x48 ≡ false → eqb c 0x50 ≡ false
          → eqb c 0x56 ≡ false → eqb c 0x44 ≡ false → Exact c
      at_E true e h0 h1 h2 h3 h4 h5 = subst Exact (sym (eqb-true c 0x45 e)) exact_E
      at_E false e h0 h1 h2 h3 h4 h5 = rw (h0, h1, h2, h3, h4, h5, e)

      at_D : (b : Bool) → eqb c 0x44 ≡ b → eqb c 0x46 ≡ false → eqb c 0x42 ≡ false → eqb c 0x48 ≡ false → eqb c 0x50 ≡ false
          → eqb c 0x56 ≡ false → Exact c
      at_D true e h0 h1 h2 h3 h4 = subst Exact (sym (eqb-true c 0x44 e)) exact_D
      at_D false e h0 h1 h2 h3 h4 = at_E (eqb c 0x45) refl h0 h1 h2 h3 h4 e

      at_V : (b : Bool) → eqb c 0x56 ≡ b → eqb c 0x46 ≡ false → eqb c 0x42 ≡ false → eqb c 0x48 ≡ false → eqb c 0x50 ≡ false → Exact c
      at_V true e h0 h1 h2 h3 = subst Exact (sym (eqb-true c 0x56 e)) exact_V
      at_V false e h0 h1 h2 h3 = at_D (eqb c 0x44) refl h0 h1 h2 h3 e

      at_P : (b : Bool) → eqb c 0x50 ≡ b → eqb c 0x46 ≡ false → eqb c 0x42 ≡ false → eqb c 0x48 ≡ false → Exact c
      at_P true e h0 h1 h2 = subst Exact (sym (eqb-true c 0x50 e)) exact_P
      at_P false e h0 h1 h2 = at_V (eqb c 0x56) refl h0 h1 h2 e

      at_h : (b : Bool) → eqb c 0x48 ≡ b → eqb c 0x46 ≡ false → eqb c 0x42 ≡ false → Exact c
      at_h true e h0 h1 = subst Exact (sym (eqb-true c 0x48 e)) exact_H
      at_h false e h0 h1 = at_P (eqb c 0x50) refl h0 h1 e

      at_B : (b : Bool) → eqb c 0x42 ≡ b → eqb c 0x46 ≡ false → Exact c
      at_B true e h0 = subst Exact (sym (eqb-true c 0x42 e)) exact_B
      at_B false e h0 = at_h (eqb c 0x48) refl h0 e

      at_F : (b : Bool) → eqb c 0x46 ≡ b → Exact c
      at_F true e = subst Exact (sym (eqb-true c 0x46 e)) exact_F
      at_F false e = at_B (eqb c 0x42) refl e

-- a line, given without its 0x0A
pub frame_exact : (l : List ℕ) → is_fine (frame_advice l) ≡ is_some (form (fields l))
frame_exact [] = refl
frame_exact (x ∷ xs) = rw (ne_eqb (length (x ∷ xs)) 0 (λ z. omega arith)) (go (fields (x ∷ xs)) (split_some 9 (x ∷ xs)))
  where
    go : (fs : List (List ℕ)) → (fs ≡ [] → ⊥) → is_fine (advice_on (want_of (kind_of fs)) (frame_count (kind_of fs)) (after fs)) ≡ is_some (form fs)
    go [] h = absurd (h refl)
    go (f ∷ fs) h = exact f fs (kind_of (f ∷ fs))
