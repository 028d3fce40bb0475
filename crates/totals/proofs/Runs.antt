-- Laws of a run of payloads (TO7): its totals are the sum over the payloads that are not refused; joined captures add up, and the order does not matter,
-- where 10 does not come. Assumes nothing.
use mathlib.Core.Path.{◌≡◌, refl, sym, ap, ◌∙◌}
use mathlib.Core.Bool.{Bool, true, false, cond, not, ◌&&◌}
use mathlib.Core.Logic.{◌⊎◌, inl, inr}
use mathlib.Core.List.{List, [], ◌∷◌, ◌++◌, Permᴰ}
use Prim.Native.Nat.{ℕ, suc, ◌+◌, ◌≤◌, ◌<◌}
use native.Mathlib.Omega.{arith}
use lib.Dec.{eqb, leb}
use lib.ListN.{length, get_or, replicate, length-replicate, get_or-replicate}
use borrow.Author.Tests.{le-leb, leb-true}
use Rattle.laws.proofs.Bools.{and_left, and_right}
use Rattle.refusal.specs.declared.Refusal.{Refusal}
use Rattle.refusal.specs.declared.Refusal.TheVariants.{TooLong, PastLimit, Firmware}
use Rattle.frame_text.specs.Rules.{verdict}
use Rattle.frame.specs.declared.Reading.{Reading}
use Rattle.frame.specs.Frame.{region_bits, rules_of}
use Rattle.totals.specs.Totals.{size, growth, raised, most, within, added_of, totals_after}
use Rattle.totals.specs.Steps.{zeros}
use Rattle.totals.specs.Runs.{after, after_run, onto, taken, growth_of, NoTen}
use Rattle.totals.proofs.Sums.{length-raised, raised_at}
use Rattle.std.specs.Prelude.{Result, Ok, Err}

-- ---- totals below others, place by place
abbrev pub Under : List ℕ → List ℕ → Type 0
Under [] [] = Unit {0}
Under [] (y ∷ ys) = ⊥
Under (x ∷ xs) [] = ⊥
Under (x ∷ xs) (y ∷ ys) = (x ≤ y) × Under xs ys

within-under : (a b : List ℕ) → Under a b → within b ≡ true → within a ≡ true
within-under [] [] u h = refl
within-under [] (y ∷ ys) u h = absurd u
within-under (x ∷ xs) [] u h = absurd u
within-under (x ∷ xs) (y ∷ ys) u h =
    let low = leb-true y most (and_left (leb y most) (within ys) h) in
    rw (le-leb x most (omega (arith, u.0)), within-under xs ys u.1 (and_right (leb y most) (within ys) h)) refl

raised-under : (g : ℕ → ℕ) (i : ℕ) (a b : List ℕ) → Under a b → Under (raised g i a) (raised g i b)
raised-under g i [] [] u = tt
raised-under g i [] (y ∷ ys) u = u
raised-under g i (x ∷ xs) [] u = u
raised-under g i (x ∷ xs) (y ∷ ys) u = (omega (arith, u.0), raised-under g (suc i) xs ys u.1)

under-raised : (g : ℕ → ℕ) (i : ℕ) (a : List ℕ) → Under a (raised g i a)
under-raised g i [] = tt
under-raised g i (x ∷ xs) = (omega arith, under-raised g (suc i) xs)

under-zeros : (a : List ℕ) → Under (replicate (length a) 0) a
under-zeros [] = tt
under-zeros (x ∷ xs) = (omega arith, under-zeros xs)

raised_swap : (g h : ℕ → ℕ) (i : ℕ) (a : List ℕ) → raised g i (raised h i a) ≡ raised h i (raised g i a)
raised_swap g h i [] = refl
raised_swap g h i (x ∷ xs) =
    let e : x + h i + g i ≡ x + g i + h i = omega arith in
    rw (e, raised_swap g h (suc i) xs) refl

raised-none : (i : ℕ) (a : List ℕ) → raised (λ (j : ℕ). 0) i a ≡ a
raised-none i [] = refl
raised-none i (x ∷ xs) = let e : x + 0 ≡ x = omega arith in rw (e, raised-none (suc i) xs) refl

module _ (firmware : ℕ) (reading : Reading) (t : List ℕ) (region : ℕ) where
  abbrev answer : List ℕ → List ℕ → Result (Unit {0}) Refusal
  answer s totals = added_of firmware reading t region s totals

  abbrev next : List ℕ → List ℕ → List ℕ
  next s totals = after firmware reading t region s totals

  abbrev run : List (List ℕ) → List ℕ → List ℕ
  run ss totals = after_run firmware reading t region ss totals

  abbrev grows : List ℕ → ℕ → ℕ
  grows s = growth (rules_of firmware reading) t region s

  pub length_run : (ss : List (List ℕ)) (totals : List ℕ) → length (run ss totals) ≡ length totals
  length_run [] totals = refl
  length_run (s ∷ ss) totals = length_run ss (next s totals) ∙ kept (answer s totals)
    where
      kept : (r : Result (Unit {0}) Refusal) → length (totals_after (rules_of firmware reading) t region s totals r) ≡ length totals
      kept (Ok tt) = length-raised (grows s) 0 totals
      kept (Err x) = refl

  -- TO7: the totals of a run are the sum over its payloads that are not refused
  pub run-sum : (ss : List (List ℕ)) (totals : List ℕ) (i : ℕ) → i < length totals
      → get_or (run ss totals) i 0 ≡ get_or totals i 0 + growth_of firmware reading t region (taken firmware reading t region ss totals) i
  run-sum [] totals i h = omega arith
  run-sum (s ∷ ss) totals i h = go (answer s totals) (run-sum ss)
    where
      go : (r : Result (Unit {0}) Refusal)
          → ((l : List ℕ) (j : ℕ) → j < length l
          → get_or (run ss l) j 0 ≡ get_or l j 0 + growth_of firmware reading t region (taken firmware reading t region ss l) j)
          → get_or (run ss (totals_after (rules_of firmware reading) t region s totals r)) i 0
          ≡ get_or totals i 0 + growth_of firmware reading t region
          (onto firmware reading t region r s (taken firmware reading t region ss (totals_after (rules_of firmware reading) t region s totals r))) i
      go (Ok tt) ih =
          let z : 0 + i ≡ i = omega arith in
          let a = ih (raised (grows s) 0 totals) i (rw (length-raised (grows s) 0 totals) h) in
          let b : get_or (raised (grows s) 0 totals) i 0 ≡ get_or totals i 0 + grows s i = rw z at (raised_at (grows s) 0 totals i h) in
          omega (arith, a, b)
      go (Err x) ih = ih totals i h

  -- ---- a payload is refused whatever the totals are, or by 10 alone: what it adds where 10 does not come
  abbrev Kind : List ℕ → (ℕ → ℕ) → Type 0
  Kind s gain =
      ((x : Refusal) × ((totals : List ℕ) → answer s totals ≡ Err x) × (gain ≡ (λ (j : ℕ). 0)))
      ⊎ (((totals : List ℕ) → answer s totals ≡ cond (within (raised (grows s) 0 totals)) (Ok tt) (Err PastLimit)) × (gain ≡ grows s))

  abbrev accepts : Result (Unit {0}) Refusal → Bool
  accepts (Ok tt) = true
  accepts (Err x) = false

  gain : List ℕ → ℕ → ℕ
  gain s = cond (not (eqb (region_bits firmware) 0) && (accepts (verdict t) && leb (length s) 65535)) (grows s) (λ (j : ℕ). 0)

  kind : (s : List ℕ) → Kind s (gain s)
  unfolding gain
  kind s = go (eqb (region_bits firmware) 0) refl (verdict t) refl (leb (length s) 65535) refl
    where
      go : (unknown : Bool) → eqb (region_bits firmware) 0 ≡ unknown → (v : Result (Unit {0}) Refusal) → verdict t ≡ v → (short : Bool)
          → leb (length s) 65535 ≡ short → Kind s (cond (not unknown && (accepts v && short)) (grows s) (λ (j : ℕ). 0))
      go true a v b short c = inl (Firmware firmware, λ totals. rw a refl, refl)
      go false a (Err x) b short c = inl (x, λ totals. rw (a, b) refl, refl)
      go false a (Ok tt) b false c = inl (TooLong (length s), λ totals. rw (a, b, c) refl, refl)
      go false a (Ok tt) b true c = inr (λ totals. rw (a, b, c) refl, refl)

  abbrev Passes : List ℕ → List ℕ → Type 0
  Passes s totals = answer s totals ≡ Err PastLimit → ⊥

  -- what is known of one that is refused by 10 alone, and is not
  counts : (s totals : List ℕ) → answer s totals ≡ cond (within (raised (grows s) 0 totals)) (Ok tt) (Err PastLimit) → Passes s totals
      → (within (raised (grows s) 0 totals) ≡ true) × (answer s totals ≡ Ok tt)
  counts s totals e ok = go (within (raised (grows s) 0 totals)) refl
    where
      go : (b : Bool) → within (raised (grows s) 0 totals) ≡ b → (b ≡ true) × (answer s totals ≡ Ok tt)
      go true q = (refl, e ∙ rw q refl)
      go false q = absurd (ok (e ∙ rw q refl))

  ok_next : (s totals : List ℕ) → Passes s totals → next s totals ≡ raised (gain s) 0 totals
  ok_next s totals ok = go (kind s)
    where
      go : Kind s (gain s) → next s totals ≡ raised (gain s) 0 totals
      go (inl w) =
          ap (totals_after (rules_of firmware reading) t region s totals) (w.1 totals)
          ∙ sym (ap (λ (f : ℕ → ℕ). raised f 0 totals) w.2 ∙ raised-none 0 totals)
      go (inr w) =
          ap (totals_after (rules_of firmware reading) t region s totals) (counts s totals (w.0 totals) ok).1
          ∙ sym (ap (λ (f : ℕ → ℕ). raised f 0 totals) w.1)

  counted_ok : (s totals : List ℕ) → answer s totals ≡ cond (within (raised (grows s) 0 totals)) (Ok tt) (Err PastLimit)
      → within (raised (grows s) 0 totals) ≡ true → Passes s totals
  counted_ok s totals e q z =
      let c : answer s totals ≡ (Ok tt) = e ∙ rw q refl in
      let y : ◌≡◌ {A = ℕ} 0 1 = cc in
      omega arith

  fixed_ok : (s a b : List ℕ) (x : Refusal) → ((totals : List ℕ) → answer s totals ≡ Err x) → Passes s b → Passes s a
  fixed_ok s a b x e ok z = ok (e b ∙ sym (e a) ∙ z)

  -- lower totals take what higher ones do
  ok_under : (s a b : List ℕ) → Under a b → Passes s b → Passes s a
  ok_under s a b u ok = go (kind s)
    where
      go : Kind s (gain s) → Passes s a
      go (inl w) = fixed_ok s a b w.0 w.1 ok
      go (inr w) =
          counted_ok s a (w.0 a)
          (within-under (raised (grows s) 0 a) (raised (grows s) 0 b) (raised-under (grows s) 0 a b u) (counts s b (w.0 b) ok).0)

  no-ten-under : (ss : List (List ℕ)) (a b : List ℕ) → Under a b → NoTen firmware reading t region ss b → NoTen firmware reading t region ss a
  no-ten-under [] a b u none = tt
  no-ten-under (s ∷ ss) a b u none =
      let ok : Passes s a = ok_under s a b u none.0 in
      let x : next s a ≡ raised (gain s) 0 a = ok_next s a ok in
      let y : next s b ≡ raised (gain s) 0 b = ok_next s b none.0 in
      (ok, no-ten-under ss (next s a) (next s b) (rw (x, y) (raised-under (gain s) 0 a b u)) none.1)

  -- ---- the sum where 10 does not come
  gains : List (List ℕ) → ℕ → ℕ
  gains [] i = 0
  gains (s ∷ ss) i = gain s i + gains ss i

  gains_both : (ss rs : List (List ℕ)) (i : ℕ) → gains (ss ++ rs) i ≡ gains ss i + gains rs i
  unfolding gains
  gains_both [] rs i = omega arith
  gains_both (s ∷ ss) rs i = omega (arith, gains_both ss rs i)

  free_sum : (ss : List (List ℕ)) (totals : List ℕ) (i : ℕ) → NoTen firmware reading t region ss totals → i < length totals
      → get_or (run ss totals) i 0 ≡ get_or totals i 0 + gains ss i
  unfolding gains
  free_sum [] totals i none h = omega arith
  free_sum (s ∷ ss) totals i none h =
      let x : next s totals ≡ raised (gain s) 0 totals = ok_next s totals none.0 in
      let n : length (next s totals) ≡ length totals = ap length x ∙ length-raised (gain s) 0 totals in
      let a = free_sum ss (next s totals) i none.1 (omega arith) in
      let z : 0 + i ≡ i = omega arith in
      let b : get_or (raised (gain s) 0 totals) i 0 ≡ get_or totals i 0 + gain s i = rw z at (raised_at (gain s) 0 totals i h) in
      let c : get_or (next s totals) i 0 ≡ get_or (raised (gain s) 0 totals) i 0 = ap (λ (l : List ℕ). get_or l i 0) x in
      omega (arith, a, b, c)

  no-ten_front : (ss rs : List (List ℕ)) (totals : List ℕ) → NoTen firmware reading t region (ss ++ rs) totals
      → NoTen firmware reading t region ss totals × NoTen firmware reading t region rs (run ss totals)
  no-ten_front [] rs totals none = (tt, none)
  no-ten_front (s ∷ ss) rs totals none =
      let both = no-ten_front ss rs (next s totals) none.1 in
      ((none.0, both.0), both.1)

  -- TO7: of one capture behind another the totals are the sums of both, where no payload is refused by 10
  pub joined : (ss rs : List (List ℕ)) (i : ℕ) → NoTen firmware reading t region (ss ++ rs) zeros → i < size
      → get_or (run (ss ++ rs) zeros) i 0 ≡ get_or (run ss zeros) i 0 + get_or (run rs zeros) i 0
  joined ss rs i none h =
      let n : length zeros ≡ size = length-replicate {A = ℕ} size 0 in
      let both = no-ten_front ss rs zeros none in
      let m : length (run ss zeros) ≡ size = length_run ss zeros ∙ n in
      let u : Under zeros (run ss zeros) = rw m at (under-zeros (run ss zeros)) in
      let z : get_or zeros i 0 ≡ 0 = get_or-replicate {A = ℕ} size i 0 0 h in
      let a = free_sum (ss ++ rs) zeros i none (rw n h) in
      let b = free_sum ss zeros i both.0 (rw n h) in
      let c = free_sum rs zeros i (no-ten-under rs zeros (run ss zeros) u both.1) (rw n h) in
      omega (arith, a, b, c, gains_both ss rs i)

  -- ---- the order
  swapped : (s r totals : List ℕ) → Passes s totals → Passes r (next s totals)
      → Passes r totals × Passes s (next r totals) × (next s (next r totals) ≡ next r (next s totals))
  swapped s r totals ok-s ok-r =
      let x : next s totals ≡ raised (gain s) 0 totals = ok_next s totals ok-s in
      let u : Under totals (next s totals) = rw x (under-raised (gain s) 0 totals) in
      let first : Passes r totals = ok_under r totals (next s totals) u ok-r in
      let y : next r totals ≡ raised (gain r) 0 totals = ok_next r totals first in
      let second : Passes s (next r totals) = go (kind s) (kind r) in
      let a : next s (next r totals) ≡ raised (gain s) 0 (raised (gain r) 0 totals) = ok_next s (next r totals) second ∙ ap (raised (gain s) 0) y in
      let b : next r (next s totals) ≡ raised (gain r) 0 (raised (gain s) 0 totals) = ok_next r (next s totals) ok-r ∙ ap (raised (gain r) 0) x in
      (first, second, a ∙ raised_swap (gain s) (gain r) 0 totals ∙ sym b)
    where
      go : Kind s (gain s) → Kind r (gain r) → Passes s (next r totals)
      go (inl w) k = fixed_ok s (next r totals) totals w.0 w.1 ok-s
      go (inr w) (inl k) =
          let same : next r totals ≡ totals = ap (totals_after (rules_of firmware reading) t region r totals) (k.1 totals) in
          rw same ok-s
      go (inr w) (inr k) =
          let at-s = counts s totals (w.0 totals) ok-s in
          let here : next s totals ≡ raised (grows s) 0 totals = ap (totals_after (rules_of firmware reading) t region s totals) at-s.1 in
          let fits : within (raised (grows r) 0 (next s totals)) ≡ true = (counts r (next s totals) (k.0 (next s totals)) ok-r).0 in
          let both : within (raised (grows s) 0 (raised (grows r) 0 totals)) ≡ true =
          rw (raised_swap (grows s) (grows r) 0 totals) (rw here at fits) in
          let low : within (raised (grows r) 0 totals) ≡ true =
          within-under (raised (grows r) 0 totals) (raised (grows s) 0 (raised (grows r) 0 totals))
          (under-raised (grows s) 0 (raised (grows r) 0 totals)) both in
          let at-r : answer r totals ≡ (Ok tt) = k.0 totals ∙ rw low refl in
          let there : next r totals ≡ raised (grows r) 0 totals = ap (totals_after (rules_of firmware reading) t region r totals) at-r in
          counted_ok s (next r totals) (w.0 (next r totals)) (rw there both)

  -- TO7: the order of the payloads does not matter where 10 does not come; nor does 10 come then in another order
  pub any_order : (ss rs : List (List ℕ)) → Permᴰ ss rs → (totals : List ℕ) → NoTen firmware reading t region ss totals
      → NoTen firmware reading t region rs totals × (run rs totals ≡ run ss totals)
  any_order _ _ Permᴰ.nil totals none = (tt, refl)
  any_order (s ∷ ss) (r ∷ rs) (Permᴰ.cons e p) totals none =
      let ih = any_order ss rs p (next s totals) none.1 in
      rw (← e) ((none.0, ih.0), ih.1)
  any_order (s ∷ r ∷ ss) _ (Permᴰ.swap e f) totals none =
      let w = swapped s r totals none.0 none.1.0 in
      rw (← e, ← f) ((w.0, (w.1, rw w.2 none.1.1)), ap (run ss) w.2)
  any_order ss rs (Permᴰ.trans {l₂ = ls} p q) totals none =
      let a = any_order ss ls p totals none in
      let b = any_order ls rs q totals a.0 in
      (b.0, b.1 ∙ a.1)
