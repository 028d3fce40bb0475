-- The laws that the proofs of this crate's functions go by. Assumes nothing.
use mathlib.Core.Path.{◌≡◌, refl, sym, ◌∙◌}
use mathlib.Core.Bool.{Bool, true, false, cond}
use mathlib.Core.List.{List, [], ◌∷◌}
use Prim.Native.Nat.{ℕ, suc, ◌+◌, ◌-◌, ◌*◌, ◌≤◌, ◌<◌, ◌^◌}
use native.Mathlib.Omega.{arith}
use native.Mathlib.Decide.{dec_le}
use lib.Dec.{ltb}
use lib.ListN.{length, get_or, take, drop, length-drop}
use lib.Seq.{drop-drop, take_all}
use mir.Syntax.{w64}
use mir.Val.{Fits}
use borrow.Author.Tests.{le-ltb, lt-ltb, eq-eqb, ne_eqb}
use Rattle.text.specs.Text.{split, lines, fields}
use Rattle.text.specs.Scan.{cut}
use Rattle.text.specs.Place.{kind_of}
use Rattle.text.specs.declared.Part.{Part}
use Rattle.text.proofs.Laws.{tail, split-last, split-more}
use Rattle.readers.specs.Fields.{IsField}
use Rattle.text_faults.specs.Fault.{is_right, fault_of}
use Rattle.text_faults.specs.declared.fault.Want.{Want}
use Rattle.text_faults.specs.declared.fault.Fault.{Fault}
use Rattle.text_faults.specs.Form.{frame_count, command_count, want_of}
use Rattle.text_faults.specs.Advice.{first_fault, by_count, advice_on, after, line_advice, frame_advice, command_advice, frame_line, command_line}
use Rattle.text_faults.specs.declared.advice.Advice.{Advice}
use Rattle.text_faults.specs.declared.advice.Advice.TheVariants.{Fine, Empty, Unended, Letter, Count, Field}

-- ---- the first fault

-- no field before field k, which begins at `at`, has a fault
pub record Faultless (want : ℕ → Want) (s : List ℕ) (at k : ℕ) : Type 0 where
  pub at_in : at ≤ length s
  pub few : k ≤ at + 1
  pub so : first_fault want 1 (fields s) ≡ first_fault want k (fields (drop at s))

pub faultless_start : (want : ℕ → Want) (s : List ℕ) → Faultless want s 0 1
faultless_start want s = record { at_in = omega arith; few = omega arith; so = refl }

module _ (want : ℕ → Want) (s : List ℕ) (at k e : ℕ) (so_far : Faultless want s at k) (at-e : e ≡ cut 9 (take (length s - at) (drop at s))) where
  -- the last field
  alone : e ≡ length (take (length s - at) (drop at s)) → fields (drop at s) ≡ take e (drop at s) ∷ []
  alone end =
      let l : e ≡ length (drop at s) = rw tail at end in
      let w : take e (drop at s) ≡ drop at s = take_all e (drop at s) (omega arith) in
      rw w (split-last 9 (drop at s) (rw tail at (sym at-e ∙ end)))

  -- a field that another follows
  module _ (in_e : e ≤ length (take (length s - at) (drop at s))) (not_end : e ≡ length (take (length s - at) (drop at s)) → ⊥) where
    short : e < length (drop at s)
    short = let v : e < length (take (length s - at) (drop at s)) = omega (arith, not_end) in rw tail at v

    pub fault-inside : at + e + 1 ≤ length s
    fault-inside = let v : e < length s - at = rw length-drop at short in omega (arith, so_far.at_in)

    parted : fields (drop at s) ≡ take e (drop at s) ∷ fields (drop (at + e + 1) s)
    parted =
        let f : e ≡ cut 9 (drop at s) = rw tail at at-e in
        let z : at + e + 1 ≡ at + (e + 1) = omega arith in
        rw (z, ← drop-drop (e + 1) at s, f) (split-more 9 (drop at s) (rw (← f) short))

    pub fault-fits : length s < 2 ^ 64 → Fits w64 (at + e + 1)
    fault-fits l = omega (arith, fault-inside)

    pub fault-sum-fits : length s < 2 ^ 64 → Fits w64 (at + e)
    fault-sum-fits l = omega (arith, fault-inside)

    pub fault-number-fits : length s * 1 < 2 ^ 63 → Fits w64 (k + 1)
    fault-number-fits l = omega (arith, fault-inside, so_far.few)

  module _ (w : Want) (w-is : w ≡ want k) (f : Fault) (f-is : f ≡ fault_of w (take e (take (length s - at) (drop at s)))) (b : Bool)
      (b_is : b ≡ is_right f) where
    -- the fields begin with this one
    begins : (fs : List (List ℕ)) → fields (drop at s) ≡ take e (drop at s) ∷ fs
        → first_fault want 1 (fields s) ≡ cond b (first_fault want (k + 1) fs) (Field k w f)
    begins fs h =
        let g : fault_of w (take e (drop at s)) ≡ f = sym (rw tail at f-is) in
        so_far.so ∙ rw (h, ← w-is, g, ← b_is)

    pub fault_end : b ≡ true → e ≡ length (take (length s - at) (drop at s)) → Fine ≡ first_fault want 1 (fields s)
    fault_end t end = sym (begins [] (alone end) ∙ rw t)

    pub fault-on : b ≡ true → e ≤ length (take (length s - at) (drop at s)) → (e ≡ length (take (length s - at) (drop at s)) → ⊥)
        → Faultless want s (at + e + 1) (k + 1)
    fault-on t in_e not_end = record {
      at_in = fault-inside in_e not_end;
      few = omega (arith, so_far.few);
      so = begins (fields (drop (at + e + 1) s)) (parted in_e not_end) ∙ rw t;
    }

    pub fault_here : b ≡ false → e ≤ length (take (length s - at) (drop at s)) → Field k w f ≡ first_fault want 1 (fields s)
    fault_here t in_e = go (dec_le (e + 1) (length (take (length s - at) (drop at s))))
      where
        go : Dec (e + 1 ≤ length (take (length s - at) (drop at s))) → Field k w f ≡ first_fault want 1 (fields s)
        go (yes q) = sym (begins (fields (drop (at + e + 1) s)) (parted in_e (λ z. omega arith)) ∙ rw t)
        go (no q) = sym (begins [] (alone (omega (arith, q))) ∙ rw t)

pub ruleset fault_laws = (faultless_start, fault-inside, fault-fits, fault-sum-fits, fault-number-fits, fault_end, fault-on, fault_here)

-- ---- a line
module _ (want : ℕ → Want) (n : ℕ) (s : List ℕ) (has : ℕ) (has-is : has ≡ length (split 9 s)) where
  pub count-other : (has ≡ n → ⊥) → Count has n ≡ by_count want n (fields s)
  count-other h = rw (← has-is, ne_eqb _ _ h)

  pub count-right : (r : Advice) → has ≡ n → r ≡ first_fault want 1 (fields s) → r ≡ by_count want n (fields s)
  count-right r h e = rw (← has-is, eq-eqb _ _ h) e

pub no-letter : (want : ℕ → Want) (n : ℕ) (fs : List (List ℕ)) → n ≡ 0 → Letter ≡ advice_on want n fs
no-letter want n fs h = rw (eq-eqb _ _ h)

module _ (want : ℕ → Want) (n : ℕ) (s : List ℕ) (some : n ≡ 0 → ⊥) (e : ℕ) (at-e : e ≡ cut 9 s) where
  pub bare : e ≡ length s → Count 0 n ≡ advice_on want n (after (fields s))
  bare end =
      let l : fields s ≡ s ∷ [] = split-last 9 s (sym at-e ∙ end) in
      rw (l, ne_eqb n 0 some, ne_eqb 0 n (λ z. some (sym z)))

  module _ (in_e : e ≤ length s) (not_end : e ≡ length s → ⊥) where
    pub rest-inside : e + 1 ≤ length s
    rest-inside = omega (arith, not_end)

    pub rest-fits : length s < 2 ^ 64 → Fits w64 (e + 1)
    rest-fits l = omega (arith, not_end)

    pub rest-told : (r : Advice) → r ≡ by_count want n (fields (take (length s - (e + 1)) (drop (e + 1) s))) → r ≡ advice_on want n (after (fields s))
    rest-told r h =
        let l : fields s ≡ take e s ∷ fields (drop (e + 1) s) = rw at-e (split-more 9 s (rw (← at-e) (omega (arith, not_end)))) in
        rw (l, ne_eqb n 0 some) (rw tail at h)

pub empty_line : (count : ℕ → ℕ) (l : List ℕ) → length l ≡ 0 → Empty ≡ line_advice count l
empty_line count l h = rw (eq-eqb _ _ h)

module _ (l : List ℕ) (some : length l ≡ 0 → ⊥) (c : ℕ) (c-is : c ≡ kind_of (fields l)) (n : ℕ) (r : Advice)
    (told : r ≡ advice_on (want_of c) n (after (fields l))) where
  pub frame_told : n ≡ frame_count c → r ≡ frame_advice l
  frame_told e = rw (ne_eqb _ _ some, ← c-is, ← e) told

  pub command_told : n ≡ command_count c → r ≡ command_advice l
  command_told e = rw (ne_eqb _ _ some, ← c-is, ← e) told

pub ruleset laws = (count-other, count-right, no-letter, bare, rest-inside, rest-fits, rest-told, empty_line, frame_told, command_told)

-- ---- a line of a text
module _ (t : List ℕ) (k : ℕ) (p : Part) (is : IsField 10 k t p) where
  pub line_fits : length t < 2 ^ 64 → Fits w64 (p.start + p.len)
  line_fits h = omega (arith, is.inside)

  pub line_end : p.start + p.len ≤ length t
  line_end = is.inside

  -- the last piece
  module _ (end : p.start + p.len ≡ length t) where
    last : ltb (suc k) (length (lines t)) ≡ false
    last = sym is.more ∙ le-ltb (p.start + p.len) (length t) (omega arith)

    pub frame_unended : Unended ≡ frame_line t k
    frame_unended = rw last

    pub command_unended : Unended ≡ command_line t k
    command_unended = rw last

  module _ (not_end : p.start + p.len ≡ length t → ⊥) (r : Advice) where
    followed : ltb (suc k) (length (lines t)) ≡ true
    followed = sym is.more ∙ lt-ltb (p.start + p.len) (length t) (omega (arith, not_end, is.inside))

    line_is : take (p.start + p.len - p.start) (drop p.start t) ≡ get_or (lines t) k []
    line_is = let z : p.start + p.len - p.start ≡ p.len = omega arith in rw z is.says

    pub frame_line_lem : r ≡ frame_advice (take (p.start + p.len - p.start) (drop p.start t)) → r ≡ frame_line t k
    frame_line_lem h = rw (followed, ← line_is) h

    pub command_line_lem : r ≡ command_advice (take (p.start + p.len - p.start) (drop p.start t)) → r ≡ command_line t k
    command_line_lem h = rw (followed, ← line_is) h

pub ruleset line_laws = (line_fits, line_end, frame_unended, command_unended, frame_line_lem, command_line_lem)
