-- The laws of the sets of P lines, line by line. Assumes nothing.
use Rattle.std.proofs.Common.{◌≡◌, ℕ, zero, suc, ◌+◌, ◌-◌, ◌<◌, ◌≤◌, Bool, true, false, List, [], ◌∷◌, length, get_or, take, drop, set, sym, refl, ◌∙◌, arith, length-set, eq-eqb, ne_eqb}
use lib.Seq.{sets, set_out}
use Rattle.text.specs.Text.{fields, field, same}
use Rattle.text.proofs.Laws.{done}
use Rattle.readers.specs.Lines.{lines_in, line_at, of_kind, Follows}
use Rattle.readers.proofs.lines.Laws.{line_first, begins_by}
use Rattle.coverage_word.specs.Sets.{number_from, set_of, sets_of}

-- ---- the D line of a name: those from `at` on, after k D lines
pub record Names (t name : List ℕ) (at k : ℕ) : Type 0 where
  pub inside : at ≤ length t
  pub few : k ≤ 16
  pub finds : set_of t name ≡ number_from k name (take (16 - k) (of_kind 0x44 (lines_in (drop at t))))

pub names-start : (t name : List ℕ) → Names t name 0 0
names-start t name = record { inside = omega arith; few = omega arith; finds = refl }

pub names-none : (t name : List ℕ) (at k : ℕ) → Names t name at k → length t ≤ at → 16 ≡ set_of t name
names-none t name at k so_far h = rw (so_far.finds, done t at h) (go (16 - k))
  where
    go : (n : ℕ) → 16 ≡ number_from k name (take n [])
    go zero = refl
    go (suc n) = refl

pub names-full : (t name : List ℕ) (at k : ℕ) → Names t name at k → k ≡ 16 → 16 ≡ set_of t name
names-full t name at k so_far e = let z : 16 - k ≡ 0 = omega arith in rw (so_far.finds, z)

module _ (t name : List ℕ) (at k : ℕ) (so_far : Names t name at k) (h : at < length t) where
  pub names_pass : (r : ℕ) → r ≤ length t → Follows t at r → (get_or t at 0 ≡ 0x44 → ⊥) → Names t name r k
  names_pass r i f other = record {
    inside = i;
    few = so_far.few;
    finds = so_far.finds ∙ rw (f.says, begins_by 0x44 t at h, ne_eqb _ _ other);
  }

  module _ (is : get_or t at 0 ≡ 0x44) (room : k ≡ 16 → ⊥) (l g : List ℕ) (at-l : l ≡ line_at t at) (at_g : g ≡ field 1 (fields l))
      (b : Bool) (said : b ≡ same g name) where
    left : 16 - k ≡ suc (16 - (k + 1))
    left = omega (arith, so_far.few, room)

    named : b ≡ same (field 1 (fields (line_at t at))) name
    named = rw (← at-l, ← at_g) said

    pub names-found : b ≡ true → k ≡ set_of t name
    names-found q = rw (so_far.finds, line_first t at h, begins_by 0x44 t at h, eq-eqb _ _ is, left, ← named, q)

    pub names_more : (r : ℕ) → r ≤ length t → Follows t at r → b ≡ false → Names t name r (k + 1)
    names_more r i f q = record {
      inside = i;
      few = omega (arith, so_far.few, room);
      finds = so_far.finds ∙ rw (f.says, begins_by 0x44 t at h, eq-eqb _ _ is, left, ← named, q);
    }

pub ruleset names_laws = (names-start, names-none, names-full, names_pass, names-found, names_more)

-- ---- the sets of the P lines from `at` on, after k of them
pub record Fills (t s s₀ : List ℕ) (at k : ℕ) : Type 0 where
  pub inside : at ≤ length t
  pub whole : sets s k (sets_of t (of_kind 0x50 (lines_in (drop at t)))) ≡ sets s₀ 0 (sets_of t (of_kind 0x50 (lines_in t)))
  pub long : length s ≡ length s₀

pub fills_start : (t s : List ℕ) → Fills t s s 0 0
fills_start t s = record { inside = omega arith; whole = refl; long = refl }

pub fills_done : (t s s₀ : List ℕ) (at k : ℕ) → Fills t s s₀ at k → length t ≤ at
    → s ≡ sets s₀ 0 (sets_of t (of_kind 0x50 (lines_in t)))
fills_done t s s₀ at k so_far h = rw (done t at h) at so_far.whole

pub fills_full : (t s s₀ : List ℕ) (at k : ℕ) → Fills t s s₀ at k → length s ≤ k
    → s ≡ sets s₀ 0 (sets_of t (of_kind 0x50 (lines_in t)))
fills_full t s s₀ at k so_far full = sym (out s (sets_of t (of_kind 0x50 (lines_in (drop at t)))) k full) ∙ so_far.whole
  where
    out : (s l : List ℕ) (k : ℕ) → length s ≤ k → sets s k l ≡ s
    out s [] k h = refl
    out s (x ∷ xs) k h = rw (set_out s k x h) (out s xs (suc k) (omega arith))

module _ (t s s₀ : List ℕ) (at k : ℕ) (so_far : Fills t s s₀ at k) (h : at < length t) (r : ℕ) (i : r ≤ length t) (f : Follows t at r) where
  pub fills_pass : (get_or t at 0 ≡ 0x50 → ⊥) → Fills t s s₀ r k
  fills_pass other = record {
    inside = i;
    whole = rw (f.says, begins_by 0x50 t at h, ne_eqb _ _ other) at so_far.whole;
    long = so_far.long;
  }

  pub fills_more : (l g : List ℕ) (d : ℕ) → get_or t at 0 ≡ 0x50 → l ≡ line_at t at → g ≡ field 6 (fields l) → d ≡ set_of t g
      → Fills t (set s k d) s₀ r (k + 1)
  fills_more l g d is at-l at_g at-d =
      let z : k + 1 ≡ suc k = omega arith in
      let w : d ≡ set_of t (field 6 (fields (line_at t at))) = rw (← at-l, ← at_g) at-d in
      record {
        inside = i;
        whole = rw (z, w) (rw (f.says, begins_by 0x50 t at h, eq-eqb _ _ is) at so_far.whole);
        long = rw length-set so_far.long;
      }

pub fills_long : (t s s₀ : List ℕ) (at k : ℕ) → Fills t s s₀ at k → length s ≡ length s₀
fills_long t s s₀ at k so_far = so_far.long

pub ruleset fills_laws = (fills_start, fills_long, fills_done, fills_full, fills_pass, fills_more)
