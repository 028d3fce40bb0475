-- A text has at most one Q or G for each five bytes. Assumes nothing.
use mathlib.Core.Path.{◌≡◌, refl}
use mathlib.Core.Bool.{Bool, true, false, cond, ◌&&◌}
use mathlib.Core.List.{List, [], ◌∷◌}
use Prim.Native.Nat.{ℕ, suc, ◌+◌, ◌*◌, ◌≤◌}
use native.Mathlib.Omega.{arith}
use lib.Dec.{eqb}
use lib.ListN.{length}
use borrow.Author.Tests.{eqb-true}
use Rattle.text.specs.Text.{split, lines, fields, field}
use Rattle.text.specs.Text as text
use Rattle.text.specs.Records.{records, onto}
use Rattle.text.specs.Place.{kind_of}
use Rattle.command_text.specs.Form.{Record, group, item, Detail, variant, array, bit_flag, bit_field, const, bitmask, type_of, param_fields, group_fields}
use Rattle.command_text.specs.Form.{group_form}
use Rattle.command_text.specs.Form.{variant_form, array_form, named_form, bits_form, bitmask_form, of_type, said, param_said, form}
use Rattle.command_text.specs.Form as form
use Rattle.command_text.specs.Rules.{begins, count}
use Rattle.command_schema.specs.Heads.{heads_of}
use Rattle.command_schema.proofs.Heads.{heads-count}
use Rattle.std.specs.Prelude.{Option, Some, None}

-- ---- the bytes of pieces, each with the byte that parts it from the next
abbrev total : List (List ℕ) → ℕ
total [] = 0
total (p ∷ ps) = suc (length p) + total ps

split-total : (b : ℕ) (l : List ℕ) → total (split b l) ≡ suc (length l)
split-total b [] = refl
split-total b (x ∷ xs) = go (eqb x b) (split b xs) (split-total b xs)
  where
    go : (t : Bool) (ps : List (List ℕ)) → total ps ≡ suc (length xs) → total (cond t ([] ∷ ps) (text.onto x ps)) ≡ suc (suc (length xs))
    go true ps e = omega arith
    go false [] e = absurd (omega arith)
    go false (p ∷ ps) e = omega arith

few_pieces : (ps : List (List ℕ)) → length ps ≤ total ps
few_pieces [] = omega arith
few_pieces (p ∷ ps) = let h = few_pieces ps in omega arith

-- ---- a Q or G has at least five fields
abbrev Long : List (List ℕ) → Option Record → Type 0
Long fs None = Unit {0}
Long fs (Some r) = begins r ≡ true → 5 ≤ length fs

module _ (fs : List (List ℕ)) where
  enough : 5 ≤ length fs → (x : Option Record) → Long fs x
  enough h None = tt
  enough h (Some r) = λ e. h

  counted : (n : ℕ) (others : Bool) (x : Option Record) → 5 ≤ n → Long fs (said (eqb (length fs) n && others) x)
  counted n others x h = go (eqb (length fs) n) refl
    where
      go : (b : Bool) → eqb (length fs) n ≡ b → Long fs (said (b && others) x)
      go true e = enough (omega (arith, eqb-true (length fs) n e)) (said others x)
      go false e = tt

  short : (b : Bool) (d : Detail) → Long fs (said b (Some (item d)))
  short true d = λ e. absurd (let z : ◌≡◌ {A = ℕ} 0 1 = cc in omega arith)
  short false d = tt

  form-long : Long fs (form fs)
  form-long =
      by_kind (eqb (kind_of fs) 81) (eqb (kind_of fs) 71) (eqb (kind_of fs) 82) (eqb (kind_of fs) 65) (eqb (kind_of fs) 84) (eqb (kind_of fs) 83)
      (eqb (kind_of fs) 85) (eqb (kind_of fs) 75) (eqb (kind_of fs) 77)
    where
      by_kind : (q g r a t s u k m : Bool)
          → Long fs
          (cond q (param_said fs)
          (cond g (said (group_form fs) (Some (group (form.group_of fs))))
          (cond r (said (variant_form fs) (Some (item (variant (form.size_of fs)))))
          (cond a (said (array_form fs) (Some (item (array (form.value (field 1 fs)) (form.ascii_of (field 2 fs))))))
          (cond t (said (named_form fs) (Some (item (bit_flag (form.value (field 1 fs)) (field 2 fs)))))
          (cond s (said (bits_form fs) (Some (item (bit_field (form.bits_of fs)))))
          (cond u (said (bits_form fs) (Some (item (bit_field (form.bits_of fs)))))
          (cond k (said (named_form fs) (Some (item (const (form.value (field 1 fs)) (field 2 fs)))))
          (cond m (said (bitmask_form fs) (Some (item (bitmask (form.given (field 1 fs)))))) None)))))))))
      by_kind true g r a t s u k m = counted 6 (param_fields fs) (of_type fs (type_of (field 2 fs))) (omega arith)
      by_kind false true r a t s u k m = counted 5 (group_fields fs) (Some (group (form.group_of fs))) (omega arith)
      by_kind false false true a t s u k m = short (variant_form fs) _
      by_kind false false false true t s u k m = short (array_form fs) _
      by_kind false false false false true s u k m = short (named_form fs) _
      by_kind false false false false false true u k m = short (bits_form fs) _
      by_kind false false false false false false true k m = short (bits_form fs) _
      by_kind false false false false false false false true m = short (named_form fs) _
      by_kind false false false false false false false false true = short (bitmask_form fs) _
      by_kind false false false false false false false false false = tt

lines_long : (ls : List (List ℕ)) → count (records form ls) * 5 ≤ total ls
lines_long [] = omega arith
lines_long (l ∷ []) = omega arith
lines_long (l ∷ m ∷ ms) = go (form (fields l)) (form-long (fields l)) (lines_long (m ∷ ms))
  where
    go : (x : Option Record) → Long (fields l) x → count (records form (m ∷ ms)) * 5 ≤ total (m ∷ ms)
        → count (onto x (records form (m ∷ ms))) * 5 ≤ total (l ∷ m ∷ ms)
    go None long ih = omega arith
    go (Some r) long ih = by (begins r) refl
      where
        by : (b : Bool) → begins r ≡ b → cond b (suc (count (records form (m ∷ ms)))) (count (records form (m ∷ ms))) * 5 ≤ total (l ∷ m ∷ ms)
        by true e =
            let f = long e in
            let p = few_pieces (fields l) in
            let s = split-total 9 l in
            omega arith
        by false e = omega arith

pub heads-short : (t : List ℕ) → length (heads_of t) * 5 ≤ length t + 1
heads-short t =
    let c = heads-count 1 (records form (lines t)) in
    let s = split-total 10 t in
    let h = lines_long (lines t) in
    omega arith
