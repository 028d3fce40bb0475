-- The laws that the proofs of this crate's functions go by. Assumes nothing.
use mathlib.Core.Path.{◌≡◌, refl, sym, ap, ◌∙◌}
use mathlib.Core.List.{List, [], ◌∷◌}
use Prim.Native.Nat.{ℕ, zero, suc, ◌+◌, ◌-◌, ◌*◌, ◌≤◌, ◌<◌, ◌^◌}
use native.Mathlib.Omega.{arith}
use native.Mathlib.Decide.{dec_le}
use lib.ListN.{length, get_or, take, drop, length-drop}
use lib.Seq.{drop-drop, take_all}
use mir.Syntax.{w64}
use mir.Val.{Fits}
use borrow.Author.Tests.{le-ltb, lt-ltb}
use Rattle.text.specs.Text.{split, field, fields}
use Rattle.text.specs.Scan.{cut}
use Rattle.text.specs.Place.{kind_of}
use Rattle.text.specs.declared.Part.{Part}
use Rattle.text.proofs.Laws.{tail, split-last, split-more}
use Rattle.text.proofs.Judging.{split_some}
use Rattle.readers.specs.Fields.{IsField}

-- there is a piece at least
some_piece : (b : ℕ) (l : List ℕ) → 0 < length (split b l)
some_piece b l = go (split b l) (split_some b l)
  where
    go : (ps : List (List ℕ)) → (ps ≡ [] → ⊥) → 0 < length ps
    go [] h = absurd (h refl)
    go (p ∷ ps) h = omega arith

-- ---- on to the next piece
module _ (b : ℕ) (s : List ℕ) (at e : ℕ) (at_in : at ≤ length s) (at-e : e ≡ cut b (take (length s - at) (drop at s))) where
  -- the last piece
  alone : e ≡ length (take (length s - at) (drop at s)) → split b (drop at s) ≡ drop at s ∷ []
  alone end = split-last b (drop at s) (rw tail at (sym at-e ∙ end))

  -- a piece that another follows
  module _ (in_e : e ≤ length (take (length s - at) (drop at s))) (not_end : e ≡ length (take (length s - at) (drop at s)) → ⊥) where
    short : e < length (drop at s)
    short = let v : e < length (take (length s - at) (drop at s)) = omega (arith, not_end) in rw tail at v

    pub step_inside : at + e + 1 ≤ length s
    step_inside = let v : e < length s - at = rw length-drop at short in omega arith

    parted : split b (drop at s) ≡ take e (drop at s) ∷ split b (drop (at + e + 1) s)
    parted =
        let f : e ≡ cut b (drop at s) = rw tail at at-e in
        let z : at + e + 1 ≡ at + (e + 1) = omega arith in
        rw (z, ← drop-drop (e + 1) at s, f) (split-more b (drop at s) (rw (← f) short))

    pub step_fits : length s < 2 ^ 64 → Fits w64 (at + e + 1)
    step_fits l = omega (arith, step_inside)

    pub step_sum-fits : length s < 2 ^ 64 → Fits w64 (at + e)
    step_sum-fits l = omega (arith, step_inside)

pub ruleset step_laws = (step_inside, step_fits, step_sum-fits)

-- ---- piece k: piece i begins at `at`
pub record Left (b : ℕ) (s : List ℕ) (k at i : ℕ) : Type 0 where
  pub at_in : at ≤ length s
  pub gets : get_or (split b s) k [] ≡ get_or (split b (drop at s)) (k - i) []
  pub counts : i + length (split b (drop at s)) ≡ length (split b s)

pub left-start : (b : ℕ) (s : List ℕ) (k : ℕ) → Left b s k 0 0
left-start b s k = let z : k - 0 ≡ k = omega arith in record { at_in = omega arith; gets = rw z; counts = omega arith }

pub left_in : (b : ℕ) (s : List ℕ) (k at i : ℕ) → Left b s k at i → at ≤ length s
left_in b s k at i l = l.at_in

module _ (b : ℕ) (s : List ℕ) (k at i e : ℕ) (so_far : Left b s k at i) (at-e : e ≡ cut b (take (length s - at) (drop at s))) where
  -- no piece k is left
  pub left-past : i < k → e ≡ length (take (length s - at) (drop at s)) → IsField b k s (record { start = length s; len = 0 })
  left-past h end = record {
    inside = omega arith;
    more = le-ltb (length s + 0) (length s) (omega arith) ∙ sym (le-ltb (suc k) (length (split b s)) (omega (arith, counted)));
    says = sym (so_far.gets ∙ ap (λ (ps : List (List ℕ)). get_or ps (k - i) []) (alone b s at e so_far.at_in at-e end) ∙ past (k - i) (omega arith));
  }
    where
      counted : i + 1 ≡ length (split b s)
      counted = let c : length (split b (drop at s)) ≡ 1 = ap length (alone b s at e so_far.at_in at-e end) in omega (arith, so_far.counts)

      past : (n : ℕ) → 0 < n → get_or (drop at s ∷ []) n [] ≡ []
      past zero q = absurd (omega arith)
      past (suc n) q = refl

  pub left-on : i < k → e ≤ length (take (length s - at) (drop at s)) → (e ≡ length (take (length s - at) (drop at s)) → ⊥)
      → Left b s k (at + e + 1) (i + 1)
  left-on h in_e not_end = record {
    at_in = step_inside b s at e so_far.at_in at-e in_e not_end;
    gets = so_far.gets ∙ ap (λ (ps : List (List ℕ)). get_or ps (k - i) []) p ∙ get (k - i) (omega arith) ∙ ap (λ (n : ℕ). get_or (split b (drop (at + e + 1) s)) n []) less;
    counts = let c : length (split b (drop at s)) ≡ suc (length (split b (drop (at + e + 1) s))) = ap length p in omega (arith, so_far.counts);
  }
    where
      less : k - i - 1 ≡ k - (i + 1)
      less = omega arith

      p : split b (drop at s) ≡ take e (drop at s) ∷ split b (drop (at + e + 1) s)
      p = parted b s at e so_far.at_in at-e in_e not_end

      get : (n : ℕ) → 0 < n → get_or (take e (drop at s) ∷ split b (drop (at + e + 1) s)) n [] ≡ get_or (split b (drop (at + e + 1) s)) (n - 1) []
      get zero q = absurd (omega arith)
      get (suc n) q = let z : suc n - 1 ≡ n = omega arith in rw z

  -- it is the next
  pub left_here : i ≤ k → k ≤ i → e ≤ length (take (length s - at) (drop at s)) → IsField b k s (record { start = at; len = e })
  left_here most least in_e = go (dec_le (e + 1) (length (take (length s - at) (drop at s))))
    where
      none : k - i ≡ 0
      none = omega arith

      l : length (take (length s - at) (drop at s)) ≡ length s - at
      l = rw tail (length-drop at s)

      gets_first : get_or (split b s) k [] ≡ get_or (split b (drop at s)) 0 []
      gets_first = so_far.gets ∙ ap (λ (n : ℕ). get_or (split b (drop at s)) n []) none

      go : Dec (e + 1 ≤ length (take (length s - at) (drop at s))) → IsField b k s (record { start = at; len = e })
      go (yes q) =
          let p : split b (drop at s) ≡ take e (drop at s) ∷ split b (drop (at + e + 1) s) =
          parted b s at e so_far.at_in at-e in_e (λ z. omega arith) in
          record {
            inside = omega (arith, so_far.at_in, l);
            more = lt-ltb (at + e) (length s) (omega (arith, so_far.at_in, l))
                ∙ sym (lt-ltb (suc k) (length (split b s)) (omega (arith, so_far.counts, ap length p, some_piece b (drop (at + e + 1) s))));
            says = sym (gets_first ∙ ap (λ (ps : List (List ℕ)). get_or ps 0 []) p);
          }
      go (no q) =
          let end : e ≡ length (take (length s - at) (drop at s)) = omega (arith, q) in
          let p : split b (drop at s) ≡ drop at s ∷ [] = alone b s at e so_far.at_in at-e end in
          record {
            inside = omega (arith, so_far.at_in, l);
            more = le-ltb (at + e) (length s) (omega (arith, so_far.at_in, l))
                ∙ sym (le-ltb (suc k) (length (split b s)) (omega (arith, so_far.counts, ap length p)));
            says = take_all e (drop at s) (rw (length-drop at s) (omega (arith, l))) ∙ sym (gets_first ∙ ap (λ (ps : List (List ℕ)). get_or ps 0 []) p);
          }

pub ruleset left_laws = (left-start, left_in, left-past, left-on, left_here)

-- ---- how many: n from the first piece to that at `at`
pub record Counted (b : ℕ) (s : List ℕ) (at n : ℕ) : Type 0 where
  pub at_in : at ≤ length s
  pub few : n ≤ at + 1
  pub so : length (split b s) + 1 ≡ n + length (split b (drop at s))

pub counted_start : (b : ℕ) (s : List ℕ) → Counted b s 0 1
counted_start b s = record { at_in = omega arith; few = omega arith; so = omega arith }

pub counted_in : (b : ℕ) (s : List ℕ) (at n : ℕ) → Counted b s at n → at ≤ length s
counted_in b s at n c = c.at_in

module _ (b : ℕ) (s : List ℕ) (at n e : ℕ) (so_far : Counted b s at n) (at-e : e ≡ cut b (take (length s - at) (drop at s))) where
  pub counted_end : e ≡ length (take (length s - at) (drop at s)) → n ≡ length (split b s)
  counted_end end = let c : length (split b (drop at s)) ≡ 1 = ap length (alone b s at e so_far.at_in at-e end) in omega (arith, so_far.so)

  module _ (in_e : e ≤ length (take (length s - at) (drop at s))) (not_end : e ≡ length (take (length s - at) (drop at s)) → ⊥) where
    pub counted-on : Counted b s (at + e + 1) (n + 1)
    counted-on = record {
      at_in = step_inside b s at e so_far.at_in at-e in_e not_end;
      few = omega (arith, so_far.few);
      so =
          let c : length (split b (drop at s)) ≡ suc (length (split b (drop (at + e + 1) s))) =
          ap length (parted b s at e so_far.at_in at-e in_e not_end) in
          omega (arith, so_far.so);
    }

    pub counted-fits : length s * 1 < 2 ^ 63 → Fits w64 (n + 1)
    counted-fits l = omega (arith, so_far.few, step_inside b s at e so_far.at_in at-e in_e not_end)

pub ruleset count_laws = (counted_start, counted_in, counted_end, counted-on, counted-fits)

-- ---- a field
module _ (l : List ℕ) (k : ℕ) (p : Part) (is : IsField 9 k l p) where
  pub field_fits : length l < 2 ^ 64 → Fits w64 (p.start + p.len)
  field_fits h = omega (arith, is.inside)

  pub field_end : p.start + p.len ≤ length l
  field_end = is.inside

  pub field_is : take (p.start + p.len - p.start) (drop p.start l) ≡ field k (fields l)
  field_is = let z : p.start + p.len - p.start ≡ p.len = omega arith in rw z is.says

pub ruleset field_laws = (field_fits, field_end, field_is)

-- ---- the letter
module _ (l : List ℕ) (e : ℕ) (at-e : e ≡ cut 9 l) (in_e : e ≤ length l) where
  first_is : (x : ℕ) → kind_of (take e l ∷ []) ≡ x → kind_of (fields l) ≡ x
  first_is x h = go (dec_le (e + 1) (length l))
    where
      with_more : (f : List ℕ) (fs gs : List (List ℕ)) → kind_of (f ∷ fs) ≡ kind_of (f ∷ gs)
      with_more [] fs gs = refl
      with_more (y ∷ []) fs gs = refl
      with_more (y ∷ z ∷ zs) fs gs = refl

      go : Dec (e + 1 ≤ length l) → kind_of (fields l) ≡ x
      go (yes q) =
          let m : fields l ≡ take e l ∷ fields (drop (e + 1) l) = rw at-e (split-more 9 l (rw (← at-e) (omega arith))) in
          rw m (with_more (take e l) (fields (drop (e + 1) l)) [] ∙ h)
      go (no q) =
          let z : e ≡ length l = omega (arith, q) in
          let m : fields l ≡ l ∷ [] = split-last 9 l (sym at-e ∙ z) in
          let w : take e l ≡ l = take_all e l (omega arith) in
          rw m (rw w at h)

  pub letter_one : e ≡ 1 → get_or l 0 0 ≡ kind_of (fields l)
  letter_one o = sym (first_is (get_or l 0 0) (one l e o in_e))
    where
      one : (l : List ℕ) (e : ℕ) → e ≡ 1 → e ≤ length l → kind_of (take e l ∷ []) ≡ get_or l 0 0
      one [] e o h = absurd (omega arith)
      one (x ∷ xs) e o h = rw o

  pub letter-none : (e ≡ 1 → ⊥) → 0 ≡ kind_of (fields l)
  letter-none o = sym (first_is 0 (none e l o in_e))
    where
      none : (n : ℕ) (l : List ℕ) → (n ≡ 1 → ⊥) → n ≤ length l → kind_of (take n l ∷ []) ≡ 0
      none zero l o h = refl
      none (suc zero) l o h = absurd (o refl)
      none (suc (suc n)) [] o h = absurd (omega arith)
      none (suc (suc n)) (x ∷ []) o h = absurd (omega arith)
      none (suc (suc n)) (x ∷ y ∷ ys) o h = refl

pub ruleset letter_laws = (letter_one, letter-none)
