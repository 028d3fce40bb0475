-- The table of rates is what the four lists say: one test over its 512 entries, which is computed. Assumes nothing.
use mathlib.Core.Path.{◌≡◌, refl}
use mathlib.Core.Bool.{Bool, true, false, cond, ◌&&◌, and-false}
use mathlib.Core.List.{List, [], ◌∷◌, ◌++◌}
use mathlib.Core.Logic.{◌⊎◌, inl, inr}
use Prim.Native.Nat.{ℕ, ◌+◌, ◌*◌, ◌/◌, ◌%◌, ◌≤◌, ◌<◌}
use native.Mathlib.Omega.{arith}
use lib.Dec.{eqb, ltb}
use lib.ListN.{get_or, replicate}
use borrow.Author.Tests.{eqb-true, ltb-true, ne_eqb}
use Rattle.laws.proofs.Bools.{and_left, and_right}
use Rattle.laws.proofs.Tables.{entry}
use Rattle.radio.specs.Speed.{contains, baud9600, baud40k, baud100k, baud_lr, rate_of, RateTable}

-- the entry at k is the rate of channel k / 32 in region k % 32
right : ℕ → ℕ → Bool
right k x = eqb x (rate_of (k / 32) (k % 32))

-- the table as the code has it: thirty-two regions for each channel, and nothing past channel 3
unfoldable pub rates : List ℕ
rates =
    (0 ∷ 2 ∷ 2 ∷ 2 ∷ 2 ∷ 2 ∷ 2 ∷ 2 ∷ 2 ∷ 2 ∷ 2 ∷ 2 ∷ 2 ∷ 2 ∷ 3 ∷ 2 ∷ 2 ∷ 3 ∷ 0 ∷ 0 ∷ 0 ∷ 0 ∷ 0 ∷ 0 ∷ 0 ∷ 0
    ∷ 0 ∷ 0 ∷ 0 ∷ 0 ∷ 0 ∷ 0 ∷ [])
    ++ (0 ∷ 1 ∷ 1 ∷ 1 ∷ 1 ∷ 1 ∷ 1 ∷ 2 ∷ 1 ∷ 1 ∷ 2 ∷ 1 ∷ 1 ∷ 1 ∷ 3 ∷ 1 ∷ 1 ∷ 3 ∷ 0 ∷ 0 ∷ 0 ∷ 0 ∷ 0 ∷ 0 ∷ 0
    ∷ 0 ∷ 0 ∷ 0 ∷ 0 ∷ 0 ∷ 0 ∷ 0 ∷ [])
    ++ (0 ∷ 0 ∷ 0 ∷ 0 ∷ 0 ∷ 0 ∷ 0 ∷ 2 ∷ 0 ∷ 0 ∷ 2 ∷ 0 ∷ 0 ∷ 0 ∷ 0 ∷ 0 ∷ 0 ∷ 0 ∷ 0 ∷ 0 ∷ 0 ∷ 0 ∷ 0 ∷ 0 ∷ 0
    ∷ 0 ∷ 0 ∷ 0 ∷ 0 ∷ 0 ∷ 0 ∷ 0 ∷ [])
    ++ (0 ∷ 0 ∷ 0 ∷ 0 ∷ 0 ∷ 0 ∷ 0 ∷ 0 ∷ 0 ∷ 0 ∷ 0 ∷ 0 ∷ 3 ∷ 3 ∷ 0 ∷ 3 ∷ 3 ∷ 0 ∷ 0 ∷ 0 ∷ 0 ∷ 0 ∷ 0 ∷ 0 ∷ 0
    ∷ 0 ∷ 0 ∷ 0 ∷ 0 ∷ 0 ∷ 0 ∷ 0 ∷ [])
    ++ replicate 384 0

at_pair : (channel region : ℕ) → channel < 16 → region < 32 → get_or rates (channel * 32 + region) 0 ≡ rate_of channel region
unfolding right rates rate_of
at_pair channel region hc hr =
    let k = channel * 32 + region in
    let c : (channel * 32 + region) / 32 ≡ channel = omega arith in
    let r : (channel * 32 + region) % 32 ≡ region = omega arith in
    rw (c, r) at (eqb-true (get_or rates k 0) (rate_of (k / 32) (k % 32)) (entry right rates refl k (omega arith)))

pub rates_right : RateTable rates
rates_right = record { entry = at_pair }

pub in_table : (t : List ℕ) (channel region : ℕ) → RateTable t → channel < 16 → region < 32
    → get_or t (channel * 32 + region) 0 ≡ rate_of channel region
in_table t channel region table hc hr = table.entry channel region hc hr

-- ---- past the table: each pair of a list has a channel below a and a region below b, so a pair that has not is in no list
within : ℕ → ℕ → List (ℕ × ℕ) → Bool
within a b [] = true
within a b (x ∷ xs) = (ltb x.0 a && ltb x.1 b) && within a b xs

module _ (a b channel region : ℕ) (past : (a ≤ channel) ⊎ (b ≤ region)) where
  other : (x : ℕ × ℕ) → x.0 < a → x.1 < b → (a ≤ channel) ⊎ (b ≤ region) → eqb channel x.0 && eqb region x.1 ≡ false
  other x l r (inl h) = rw (ne_eqb channel x.0 (λ e. omega arith))
  other x l r (inr h) = rw (ne_eqb region x.1 (λ e. omega arith), and-false)

  outside : (l : List (ℕ × ℕ)) → within a b l ≡ true → contains l channel region ≡ false
  unfolding within
  outside [] t = refl
  outside (x ∷ xs) t =
      let here = and_left (ltb x.0 a && ltb x.1 b) (within a b xs) t in
      let low = ltb-true x.0 a (and_left (ltb x.0 a) (ltb x.1 b) here) in
      let low2 = ltb-true x.1 b (and_right (ltb x.0 a) (ltb x.1 b) here) in
      rw (other x low low2 past) (outside xs (and_right (ltb x.0 a && ltb x.1 b) (within a b xs) t))

none : (channel region : ℕ) → (16 ≤ channel) ⊎ (32 ≤ region) → 0 ≡ rate_of channel region
unfolding rate_of within
none channel region past =
    simp (
      outside 16 32 channel region past baud9600 refl,
      outside 16 32 channel region past baud40k refl,
      outside 16 32 channel region past baud100k refl,
      outside 16 32 channel region past baud_lr refl,
    )

pub past_channels : (channel region : ℕ) → 16 ≤ channel → 0 ≡ rate_of channel region
past_channels channel region h = none channel region (inl h)

pub past_regions : (channel region : ℕ) → 32 ≤ region → 0 ≡ rate_of channel region
past_regions channel region h = none channel region (inr h)

-- no rate is above 3
pub rate_low : (channel region : ℕ) → rate_of channel region ≤ 3
unfolding rate_of
rate_low channel region = go (contains baud9600 channel region) (contains baud40k channel region) (contains baud100k channel region)
    (contains baud_lr channel region)
  where
    go : (a b c d : Bool) → cond a 0 (cond b 1 (cond c 2 (cond d 3 0))) ≤ 3
    go true b c d = omega arith
    go false true c d = omega arith
    go false false true d = omega arith
    go false false false true = omega arith
    go false false false false = omega arith

pub ruleset speed_laws = (in_table, past_channels, past_regions)
