-- The nodes of a mask: some bits, then others; how many there are; what settles the list. Assumes nothing.
use mathlib.Core.Path.{◌≡◌, refl, sym, ◌∙◌}
use mathlib.Core.Bool.{true, false}
use mathlib.Core.List.{List, [], ◌∷◌, ◌++◌}
use Prim.Native.Nat.{ℕ, zero, suc, ◌+◌, ◌*◌, ◌/◌, ◌%◌, ◌^◌, ◌≤◌, ◌<◌}
use native.Mathlib.Nat.{zero-div}
use native.Mathlib.Decide.{dec_le}
use native.Mathlib.Omega.{arith}
use lib.Dec.{eqb}
use lib.ListN.{length, get_or-eq_default}
use borrow.Author.Tests.{eq-eqb, ne_eqb}
use Rattle.node_mask.specs.Nodes.{bit_at, put, nodes_from, nodes_of, Above, has, addressed, Addresses}

pub nodes_append : (m : List ℕ) (i a b : ℕ) → nodes_from m i (a + b) ≡ nodes_from m i a ++ nodes_from m (i + a) b
unfolding nodes_from
nodes_append m i zero b = let e : i + 0 ≡ i = omega arith in let z : 0 + b ≡ b = omega arith in rw (e, z)
nodes_append m i (suc a) b =
    let e : i + 1 + a ≡ i + suc a = omega arith in
    let z : suc a + b ≡ suc (a + b) = omega arith in
    rw (z, nodes_append m (i + 1) a b, e) (go (bit_at m i))
  where
    go : (d : ℕ) → put d (i + 1) (nodes_from m (i + 1) a ++ nodes_from m (i + suc a) b) ≡ put d (i + 1) (nodes_from m (i + 1) a) ++ nodes_from m (i + suc a) b
    go zero = refl
    go (suc d) = refl

pub nodes_most : (m : List ℕ) (i k : ℕ) → length (nodes_from m i k) ≤ k
unfolding nodes_from
nodes_most m i zero = omega arith
nodes_most m i (suc k) = go (bit_at m i) (nodes_most m (i + 1) k)
  where
    go : (d : ℕ) → length (nodes_from m (i + 1) k) ≤ k → length (put d (i + 1) (nodes_from m (i + 1) k)) ≤ suc k
    go zero h = omega arith
    go (suc d) h = omega arith

-- ---- rising
lower : (a b : ℕ) (l : List ℕ) → a ≤ b → Above b l → Above a l
lower a b [] h r = tt
lower a b (x ∷ l) h r = let s : b < x = r.0 in (omega arith, r.1)

nodes_rising : (m : List ℕ) (i k : ℕ) → Above i (nodes_from m i k)
unfolding nodes_from
nodes_rising m i zero = tt
nodes_rising m i (suc k) = go (bit_at m i) (nodes_rising m (i + 1) k)
  where
    go : (d : ℕ) → Above (i + 1) (nodes_from m (i + 1) k) → Above i (put d (i + 1) (nodes_from m (i + 1) k))
    go zero r = lower i (i + 1) (nodes_from m (i + 1) k) (omega arith) r
    go (suc d) r = (omega arith, r)

-- ---- exactly the nodes whose bit is set
low-none : (k b : ℕ) (l : List ℕ) → k ≤ b → Above b l → has k l ≡ false
low-none k b [] h r = refl
low-none k b (x ∷ l) h r = let s : b < x = r.0 in rw (ne_eqb k x (omega arith)) (low-none k x l (omega arith) r.1)

high_none : (m : List ℕ) (k i n : ℕ) → i + n < k → has k (nodes_from m i n) ≡ false
unfolding nodes_from
high_none m k i zero h = refl
high_none m k i (suc n) h = go (bit_at m i) (high_none m k (i + 1) n (omega arith))
  where
    go : (d : ℕ) → has k (nodes_from m (i + 1) n) ≡ false → has k (put d (i + 1) (nodes_from m (i + 1) n)) ≡ false
    go zero e = e
    go (suc d) e = rw (ne_eqb k (i + 1) (omega arith)) e

inside : (m : List ℕ) (j i n : ℕ) → i ≤ j → j < i + n → has (suc j) (nodes_from m i n) ≡ eqb (bit_at m j) 1
unfolding nodes_from
inside m j i zero l h = absurd (omega arith)
inside m j i (suc n) l h = go (dec_le (suc i) j) (λ s. inside m j (i + 1) n (omega arith) (omega arith))
  where
    past : (d : ℕ) → i < j → has (suc j) (nodes_from m (i + 1) n) ≡ eqb (bit_at m j) 1
        → has (suc j) (put d (i + 1) (nodes_from m (i + 1) n)) ≡ eqb (bit_at m j) 1
    past zero s e = e
    past (suc d) s e = rw (ne_eqb (suc j) (i + 1) (omega arith)) e

    here : (d : ℕ) → d < 2 → i ≡ j → has (suc j) (put d (i + 1) (nodes_from m (i + 1) n)) ≡ eqb d 1
    here zero s e = low-none (suc j) (i + 1) (nodes_from m (i + 1) n) (omega arith) (nodes_rising m (i + 1) n)
    here (suc d) s e = let z : d ≡ 0 = omega arith in rw (eq-eqb (suc j) (i + 1) (omega arith), z)

    go : Dec (i < j) → (i < j → has (suc j) (nodes_from m (i + 1) n) ≡ eqb (bit_at m j) 1)
        → has (suc j) (put (bit_at m i) (i + 1) (nodes_from m (i + 1) n)) ≡ eqb (bit_at m j) 1
    go (yes s) ih = past (bit_at m i) s (ih s)
    go (no s) ih = let e : i ≡ j = omega arith in here (bit_at m i) (omega arith) e ∙ rw e

outside : (m : List ℕ) (j : ℕ) → 8 * length m ≤ j → eqb (bit_at m j) 1 ≡ false
outside m j h = rw (get_or-eq_default m 0 {n = j / 8} (omega arith), zero-div (2 ^ (j % 8)))

pub nodes_address : (m : List ℕ) → Addresses m (nodes_of m)
unfolding nodes_of
nodes_address m = record { rising = nodes_rising m 0 (8 * length m); exactly = exactly }
  where
    exactly : (k : ℕ) → has k (nodes_from m 0 (8 * length m)) ≡ addressed m k
    exactly zero = low-none 0 0 (nodes_from m 0 (8 * length m)) (omega arith) (nodes_rising m 0 (8 * length m))
    exactly (suc j) = go (dec_le (8 * length m) j)
      where
        go : Dec (8 * length m ≤ j) → has (suc j) (nodes_from m 0 (8 * length m)) ≡ eqb (bit_at m j) 1
        go (yes h) = high_none m (suc j) 0 (8 * length m) (omega arith) ∙ sym (outside m j h)
        go (no h) = inside m j 0 (8 * length m) (omega arith) (omega arith)

-- ---- and there is no other such list
clash : true ≡ false → ⊥
clash e = let z : ◌≡◌ {A = ℕ} 0 1 = cc in absurd (omega arith)

first_in : (x : ℕ) (l : List ℕ) → has x (x ∷ l) ≡ true
first_in x l = rw (eq-eqb x x refl)

rising_one : (b : ℕ) (l r : List ℕ) → Above b l → Above b r → ((k : ℕ) → has k l ≡ has k r) → l ≡ r
rising_one b [] [] p q h = refl
rising_one b [] (y ∷ r) p q h = absurd (clash (sym (first_in y r) ∙ sym (h y)))
rising_one b (x ∷ l) [] p q h = absurd (clash (sym (first_in x l) ∙ h x))
rising_one b (x ∷ l) (y ∷ r) p q h = go (dec_le x y) (dec_le y x) (rising_one x l r)
  where
    rest : x ≡ y → (k : ℕ) → Dec (k ≤ x) → has k l ≡ has k r
    rest e k (yes s) = low-none k x l s p.1 ∙ sym (low-none k y r (omega arith) q.1)
    rest e k (no s) = rw (ne_eqb k x (omega arith), ne_eqb k y (omega arith)) at (h k)

    go : Dec (x ≤ y) → Dec (y ≤ x) → (Above x l → Above x r → ((k : ℕ) → has k l ≡ has k r) → l ≡ r) → x ∷ l ≡ y ∷ r
    go (yes s) (yes t) ih =
        let e : x ≡ y = omega arith in
        rw (e, ih p.1 (rw e q.1) (λ k. rest e k (dec_le k x)))
    go (yes s) (no t) ih = absurd (clash (sym (first_in x l) ∙ h x ∙ low-none x x (y ∷ r) (omega arith) (omega arith, q.1)))
    go (no s) t ih = absurd (clash (sym (first_in y r) ∙ sym (h y) ∙ low-none y y (x ∷ l) (omega arith) (omega arith, p.1)))

pub addresses_one : (m l r : List ℕ) → Addresses m l → Addresses m r → l ≡ r
addresses_one m l r a b = rising_one 0 l r a.rising b.rising (λ k. a.exactly k ∙ sym (b.exactly k))
