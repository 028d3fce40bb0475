-- Laws of the schema's table. Assumes nothing.
use mathlib.Core.Path.{◌≡◌, refl, sym, ◌∙◌}
use mathlib.Core.Bool.{Bool, true, false, cond}
use mathlib.Core.Logic.{⊎_elim}
use mathlib.Core.List.{List, [], ◌∷◌}
use Prim.Native.Nat.{ℕ, zero, suc, ◌+◌, ◌-◌, ◌≤◌, ◌<◌}
use native.Mathlib.Nat.{eq-or-lt_of_le}
use native.Mathlib.Omega.{arith}
use mir.Val.{Fits}
use mir.Syntax.{w64}
use lib.ListN.{length, get_or, take, drop, length-drop}
use lib.Seq.{take-length}
use Rattle.laws.proofs.Lists.{tail}
use Rattle.text.specs.Text.{fields, field, same}
use Rattle.text.specs.Scan.{cut}
use Rattle.text.specs.declared.Part.{Part}
use Rattle.text.proofs.Laws.{split-last, split-more, front_count}
use Rattle.readers.specs.Fields.{IsField}
use Rattle.xml_schema.specs.Schema.{table, row_of, letter_of, form_of, name_of, form_in, nowhere, parents, parent_of, Follows}
use Rattle.std.specs.Prelude.{Option, Some, None}

-- ---- an entry
pub form-none : (e : List ℕ) → length e ≡ 0 → 0 ≡ form_of e
form-none [] h = refl
form-none (x ∷ xs) h = absurd (omega arith)

pub name-none : (e : List ℕ) → length e ≡ 0 → drop 0 e ≡ name_of e
name-none [] h = refl
name-none (x ∷ xs) h = absurd (omega arith)

pub some_one : (e : List ℕ) → (length e ≡ 0 → ⊥) → 1 ≤ length e
some_one e h = omega (arith, h)

pub name_is : (e n : List ℕ) (a : ℕ) (r : Bool) → r ≡ same n (take (length e - a) (drop a e)) → drop a e ≡ name_of e → r ≡ same n (name_of e)
name_is e n a r is q = let i : r ≡ same n (drop a e) = rw tail at is in rw q at i

-- ---- what stands behind the first field
module _ (row : List ℕ) (e : ℕ) (at-e : e ≡ cut 9 row) (in_e : e ≤ length row) where
  pub next_last : e ≡ length row → Follows row None
  next_last l = rw (split-last 9 row (sym at-e ∙ l))

  module _ (more : e ≡ length row → ⊥) (n : ℕ) (at_n : n ≡ cut 9 (take (length row - (e + 1)) (drop (e + 1) row)))
      (in-n : n ≤ length (take (length row - (e + 1)) (drop (e + 1) row))) where
    behind : drop 1 (fields row) ≡ fields (drop (e + 1) row)
    behind = rw (split-more 9 row (rw (← at-e) (omega (arith, more))), at-e)

    at_n' : n ≡ cut 9 (drop (e + 1) row)
    at_n' = rw tail at at_n

    room : e + 1 + n ≤ length row
    room = let i : n ≤ length row - (e + 1) = rw length-drop at (rw tail at in-n) in omega (arith, more)

    begins : (l : List ℕ) (m : ℕ) → m ≡ cut 9 l → m ≤ length l → fields l ≡ take m l ∷ drop 1 (fields l)
    begins l m q h =
        ⊎_elim
        (λ e. rw (split-last 9 l (sym q ∙ e), e, take-length))
        (λ e. rw (split-more 9 l (rw (← q) e), q))
        (eq-or-lt_of_le h)

    pub next_entry : Follows row (Some (e + 1, n))
    next_entry = (omega arith, room, behind ∙ begins (drop (e + 1) row) n at_n' (rw tail at in-n))

-- ---- the place of an element
past : (l : List ℕ) (k d : ℕ) → length l ≤ k → d ≡ get_or l k d
past [] k d h = refl
past (x ∷ xs) zero d h = absurd (omega arith)
past (x ∷ xs) (suc k) d h = past xs k d (omega arith)

either : (l : List ℕ) (k d e : ℕ) → k < length l → get_or l k d ≡ get_or l k e
either [] k d e h = absurd (omega arith)
either (x ∷ xs) zero d e h = refl
either (x ∷ xs) (suc k) d e h = either xs k d e (omega arith)

pub parent_is : (k : ℕ) → k < 13 → get_or parents k 0 ≡ parent_of k
parent_is k h = either parents k 0 nowhere h

pub parent-none : (k : ℕ) → 13 ≤ k → 15 ≡ parent_of k
parent-none k h = past parents k nowhere h

-- ---- one entry after another: what is left of the row begins with a field that is passed
module _ (rest : List ℕ) (r : Option (ℕ × ℕ)) (is : Follows rest r) where
  pub entry_last : r ≡ None → drop 1 (fields rest) ≡ []
  entry_last q = rw q at is

  module _ (a len : ℕ) (q : r ≡ Some (a, len)) where
    entry_now : (1 ≤ a) × (a + len ≤ length rest) × (drop 1 (fields rest) ≡ take len (drop a rest) ∷ drop 1 (fields (drop a rest)))
    entry_now = rw q at is

    pub entry_some : 1 ≤ a
    entry_some = entry_now.0

    pub entry_start : a ≤ length rest
    entry_start = omega (arith, entry_now.1)

    pub entry_end : len ≤ length (take (length rest - a) (drop a rest))
    entry_end = rw (tail, length-drop) (omega (arith, entry_now.1))

    pub entry_less : length (take (length rest - a) (drop a rest)) < length rest
    entry_less = rw (tail, length-drop) (omega (arith, entry_now.1, entry_now.0))

    -- the entry is what the code takes for it, and after it stand those of what is left from there
    pub entry_is : drop 1 (fields rest) ≡ take len (take (length rest - a) (drop a rest)) ∷ drop 1 (fields (take (length rest - a) (drop a rest)))
    entry_is = rw tail entry_now.2

pub ruleset entry_laws = (entry_start, entry_end, entry_less)

-- ---- the form of an attribute
module _ (row n rest : List ℕ) (inv : form_in (drop 1 (fields row)) n ≡ form_in (drop 1 (fields rest)) n)
    (r : Option (ℕ × ℕ)) (is : Follows rest r) where
  pub form-last : r ≡ None → 0 ≡ form_in (drop 1 (fields row)) n
  form-last q = rw (inv, entry_last rest r is q)

  module _ (a len : ℕ) (q : r ≡ Some (a, len)) (x : Bool) (named : x ≡ same n (name_of (take len (take (length rest - a) (drop a rest))))) where
    form-on : form_in (drop 1 (fields row)) n
        ≡ cond x (form_of (take len (take (length rest - a) (drop a rest)))) (form_in (drop 1 (fields (take (length rest - a) (drop a rest)))) n)
    form-on = inv ∙ rw (entry_is rest r is a len q, ← named)

    pub form_here : x ≡ true → (f : ℕ) → f ≡ form_of (take len (take (length rest - a) (drop a rest))) → f ≡ form_in (drop 1 (fields row)) n
    form_here t f e = e ∙ sym (form-on ∙ rw t)

    pub form-more : x ≡ false → form_in (drop 1 (fields row)) n ≡ form_in (drop 1 (fields (take (length rest - a) (drop a rest)))) n
    form-more t = form-on ∙ rw t

-- ---- the letter of a row
module _ (k : ℕ) (p : Part) (is : IsField 10 k table p) where
  pub row_end : p.start + p.len ≤ 274
  unfolding table
  row_end = is.inside

  pub row_fits : Fits w64 (p.start + p.len)
  row_fits = omega (arith, row_end)

  pub row_is : fields (take (p.start + p.len - p.start) (drop p.start table)) ≡ row_of k
  row_is = let d : p.start + p.len - p.start ≡ p.len = omega arith in rw (d, is.says)

  pub letter_is : (l : List ℕ) → l ≡ field 0 (fields (take (p.start + p.len - p.start) (drop p.start table))) → (x : ℕ) → x ≡ form_of l
      → x ≡ letter_of k
  letter_is l e x f = rw row_is at (rw e at f)

pub ruleset laws = (
  form-none,
  name-none,
  some_one,
  name_is,
  next_last,
  next_entry,
  parent_is,
  parent-none,
  entry_laws,
  form-last,
  form_here,
  form-more,
  row_fits,
  row_end,
  letter_is,
  front_count,
)
