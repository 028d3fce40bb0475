-- Laws on plain form: lines that are in it are arranged as they are. Assumes nothing.
use mathlib.Core.Path.{◌≡◌, refl, ap, ◌∙◌}
use mathlib.Core.List.{List, [], ◌∷◌, ◌++◌, append_assoc}
use Prim.Native.Nat.{ℕ, zero, suc, ◌≤◌}
use native.Mathlib.Omega.{arith}
use Rattle.xml_document.specs.Document.{letter, picked, owned, blocks}

-- the blocks that may still come, once the lines have come so far
abbrev pub tail_of : ℕ → List (List ℕ) → List (List ℕ)
tail_of zero g = blocks 0x46 g ++ (blocks 0x42 g ++ (blocks 0x48 g ++ blocks 0x44 g))
tail_of (suc zero) g = blocks 0x42 g ++ (blocks 0x48 g ++ blocks 0x44 g)
tail_of (suc (suc zero)) g = blocks 0x48 g ++ blocks 0x44 g
tail_of (suc (suc (suc zero))) g = blocks 0x48 g ++ blocks 0x44 g
tail_of (suc (suc (suc (suc far)))) g = blocks 0x44 g

-- lines that are arranged as they are, and of which no earlier ones come
pub record Ordered (far : ℕ) (g : List (List ℕ)) : Type 0 where
  pub whole : owned g ++ tail_of far g ≡ g
  pub none_f : 1 ≤ far → blocks 0x46 g ≡ []
  pub none-b : 2 ≤ far → blocks 0x42 g ≡ []
  pub none_h : 4 ≤ far → blocks 0x48 g ≡ []
  pub none_p : 3 ≤ far → picked 0x50 g ≡ []
  pub none_v : 4 ≤ far → picked 0x56 g ≡ []

pub ordered-none : (far : ℕ) → Ordered far []
ordered-none zero = record { whole = refl; none_f = λ h. refl; none-b = λ h. refl; none_h = λ h. refl; none_p = λ h. refl; none_v = λ h. refl }
ordered-none (suc zero) = record { whole = refl; none_f = λ h. refl; none-b = λ h. refl; none_h = λ h. refl; none_p = λ h. refl; none_v = λ h. refl }
ordered-none (suc (suc zero)) = record { whole = refl; none_f = λ h. refl; none-b = λ h. refl; none_h = λ h. refl; none_p = λ h. refl; none_v = λ h. refl }
ordered-none (suc (suc (suc zero))) =
    record { whole = refl; none_f = λ h. refl; none-b = λ h. refl; none_h = λ h. refl; none_p = λ h. refl; none_v = λ h. refl }
ordered-none (suc (suc (suc (suc far)))) =
    record { whole = refl; none_f = λ h. refl; none-b = λ h. refl; none_h = λ h. refl; none_p = λ h. refl; none_v = λ h. refl }

module _ (l : List ℕ) (g : List (List ℕ)) where
  pub ordered_f : letter l ≡ 0x46 → Ordered 0 g → Ordered 0 (l ∷ g)
  ordered_f e o = record {
    whole = rw e (ap (λ (m : List (List ℕ)). l ∷ m) (append_assoc (owned g) (blocks 0x46 g) (blocks 0x42 g ++ (blocks 0x48 g ++ blocks 0x44 g))
        ∙ o.whole));
    none_f = λ h. absurd (omega arith);
    none-b = λ h. absurd (omega arith);
    none_h = λ h. absurd (omega arith);
    none_p = λ h. absurd (omega arith);
    none_v = λ h. absurd (omega arith);
  }

  b-whole : Ordered 1 g → l ∷ ((owned g ++ blocks 0x42 g) ++ (blocks 0x48 g ++ blocks 0x44 g)) ≡ l ∷ g
  b-whole o = ap (λ (m : List (List ℕ)). l ∷ m) (append_assoc (owned g) (blocks 0x42 g) (blocks 0x48 g ++ blocks 0x44 g) ∙ o.whole)

  pub ordered-b : letter l ≡ 0x42 → (far : ℕ) → far ≤ 1 → Ordered 1 g → Ordered far (l ∷ g)
  ordered-b e zero h o = record {
    whole = rw (e, o.none_f (omega arith)) (b-whole o);
    none_f = λ h. absurd (omega arith);
    none-b = λ h. absurd (omega arith);
    none_h = λ h. absurd (omega arith);
    none_p = λ h. absurd (omega arith);
    none_v = λ h. absurd (omega arith);
  }
  ordered-b e (suc zero) h o = record {
    whole = rw e (b-whole o);
    none_f = λ h. rw e (o.none_f (omega arith));
    none-b = λ h. absurd (omega arith);
    none_h = λ h. absurd (omega arith);
    none_p = λ h. absurd (omega arith);
    none_v = λ h. absurd (omega arith);
  }
  ordered-b e (suc (suc far)) h o = absurd (omega arith)

  h_whole : Ordered 2 g → l ∷ ((owned g ++ blocks 0x48 g) ++ blocks 0x44 g) ≡ l ∷ g
  h_whole o = ap (λ (m : List (List ℕ)). l ∷ m) (append_assoc (owned g) (blocks 0x48 g) (blocks 0x44 g) ∙ o.whole)

  pub ordered_h : letter l ≡ 0x48 → (far : ℕ) → far ≤ 3 → Ordered 2 g → Ordered far (l ∷ g)
  ordered_h e zero h o = record {
    whole = rw (e, o.none_f (omega arith), o.none-b (omega arith)) (h_whole o);
    none_f = λ h. absurd (omega arith);
    none-b = λ h. absurd (omega arith);
    none_h = λ h. absurd (omega arith);
    none_p = λ h. absurd (omega arith);
    none_v = λ h. absurd (omega arith);
  }
  ordered_h e (suc zero) h o = record {
    whole = rw (e, o.none-b (omega arith)) (h_whole o);
    none_f = λ h. rw e (o.none_f (omega arith));
    none-b = λ h. absurd (omega arith);
    none_h = λ h. absurd (omega arith);
    none_p = λ h. absurd (omega arith);
    none_v = λ h. absurd (omega arith);
  }
  ordered_h e (suc (suc zero)) h o = record {
    whole = rw e (h_whole o);
    none_f = λ h. rw e (o.none_f (omega arith));
    none-b = λ h. rw e (o.none-b (omega arith));
    none_h = λ h. absurd (omega arith);
    none_p = λ h. absurd (omega arith);
    none_v = λ h. absurd (omega arith);
  }
  ordered_h e (suc (suc (suc zero))) h o = record {
    whole = rw e (h_whole o);
    none_f = λ h. rw e (o.none_f (omega arith));
    none-b = λ h. rw e (o.none-b (omega arith));
    none_h = λ h. absurd (omega arith);
    none_p = λ h. rw e;
    none_v = λ h. absurd (omega arith);
  }
  ordered_h e (suc (suc (suc (suc far)))) h o = absurd (omega arith)

  d_whole : Ordered 4 g → l ∷ (owned g ++ blocks 0x44 g) ≡ l ∷ g
  d_whole o = ap (λ (m : List (List ℕ)). l ∷ m) o.whole

  pub ordered_d : letter l ≡ 0x44 → (far : ℕ) → Ordered 4 g → Ordered far (l ∷ g)
  ordered_d e zero o = record {
    whole = rw (e, o.none_f (omega arith), o.none-b (omega arith), o.none_h (omega arith)) (d_whole o);
    none_f = λ h. absurd (omega arith);
    none-b = λ h. absurd (omega arith);
    none_h = λ h. absurd (omega arith);
    none_p = λ h. absurd (omega arith);
    none_v = λ h. absurd (omega arith);
  }
  ordered_d e (suc zero) o = record {
    whole = rw (e, o.none-b (omega arith), o.none_h (omega arith)) (d_whole o);
    none_f = λ h. rw e (o.none_f (omega arith));
    none-b = λ h. absurd (omega arith);
    none_h = λ h. absurd (omega arith);
    none_p = λ h. absurd (omega arith);
    none_v = λ h. absurd (omega arith);
  }
  ordered_d e (suc (suc zero)) o = record {
    whole = rw (e, o.none_h (omega arith)) (d_whole o);
    none_f = λ h. rw e (o.none_f (omega arith));
    none-b = λ h. rw e (o.none-b (omega arith));
    none_h = λ h. absurd (omega arith);
    none_p = λ h. absurd (omega arith);
    none_v = λ h. absurd (omega arith);
  }
  ordered_d e (suc (suc (suc zero))) o = record {
    whole = rw (e, o.none_h (omega arith)) (d_whole o);
    none_f = λ h. rw e (o.none_f (omega arith));
    none-b = λ h. rw e (o.none-b (omega arith));
    none_h = λ h. absurd (omega arith);
    none_p = λ h. rw e;
    none_v = λ h. absurd (omega arith);
  }
  ordered_d e (suc (suc (suc (suc far)))) o = record {
    whole = rw e (d_whole o);
    none_f = λ h. rw e (o.none_f (omega arith));
    none-b = λ h. rw e (o.none-b (omega arith));
    none_h = λ h. rw e (o.none_h (omega arith));
    none_p = λ h. rw e;
    none_v = λ h. rw e;
  }

  p_whole : (t : List (List ℕ)) → owned g ++ t ≡ g → l ∷ (owned g ++ t) ≡ l ∷ g
  p_whole t o = ap (λ (m : List (List ℕ)). l ∷ m) o

  pub ordered_p : letter l ≡ 0x50 → (far : ℕ) → 1 ≤ far → far ≤ 2 → Ordered far g → Ordered far (l ∷ g)
  ordered_p e zero a b o = absurd (omega arith)
  ordered_p e (suc zero) a b o = record {
    whole = rw e (p_whole (tail_of 1 g) o.whole);
    none_f = λ h. rw e (o.none_f (omega arith));
    none-b = λ h. absurd (omega arith);
    none_h = λ h. absurd (omega arith);
    none_p = λ h. absurd (omega arith);
    none_v = λ h. absurd (omega arith);
  }
  ordered_p e (suc (suc zero)) a b o = record {
    whole = rw e (p_whole (tail_of 2 g) o.whole);
    none_f = λ h. rw e (o.none_f (omega arith));
    none-b = λ h. rw e (o.none-b (omega arith));
    none_h = λ h. absurd (omega arith);
    none_p = λ h. absurd (omega arith);
    none_v = λ h. absurd (omega arith);
  }
  ordered_p e (suc (suc (suc far))) a b o = absurd (omega arith)

  v_whole : Ordered 3 g → (picked 0x50 g ++ ((l ∷ picked 0x56 g) ++ picked 0x45 g)) ++ (blocks 0x48 g ++ blocks 0x44 g) ≡ l ∷ g
  v_whole o =
      let p : picked 0x50 g ≡ [] = o.none_p (omega arith) in
      let w : (picked 0x56 g ++ picked 0x45 g) ++ (blocks 0x48 g ++ blocks 0x44 g) ≡ g = rw p at o.whole in
      rw p (ap (λ (m : List (List ℕ)). l ∷ m) w)

  pub ordered_v : letter l ≡ 0x56 → (far : ℕ) → 2 ≤ far → far ≤ 3 → Ordered 3 g → Ordered far (l ∷ g)
  ordered_v e zero a b o = absurd (omega arith)
  ordered_v e (suc zero) a b o = absurd (omega arith)
  ordered_v e (suc (suc zero)) a b o = record {
    whole = rw e (v_whole o);
    none_f = λ h. rw e (o.none_f (omega arith));
    none-b = λ h. rw e (o.none-b (omega arith));
    none_h = λ h. absurd (omega arith);
    none_p = λ h. absurd (omega arith);
    none_v = λ h. absurd (omega arith);
  }
  ordered_v e (suc (suc (suc zero))) a b o = record {
    whole = rw e (v_whole o);
    none_f = λ h. rw e (o.none_f (omega arith));
    none-b = λ h. rw e (o.none-b (omega arith));
    none_h = λ h. absurd (omega arith);
    none_p = λ h. rw e (o.none_p (omega arith));
    none_v = λ h. absurd (omega arith);
  }
  ordered_v e (suc (suc (suc (suc far)))) a b o = absurd (omega arith)

  e_whole : Ordered 4 g → (picked 0x50 g ++ (picked 0x56 g ++ (l ∷ picked 0x45 g))) ++ blocks 0x44 g ≡ l ∷ g
  e_whole o =
      let p : picked 0x50 g ≡ [] = o.none_p (omega arith) in
      let v : picked 0x56 g ≡ [] = o.none_v (omega arith) in
      let w : picked 0x45 g ++ blocks 0x44 g ≡ g = rw (p, v) at o.whole in
      rw (p, v) (ap (λ (m : List (List ℕ)). l ∷ m) w)

  pub ordered_e : letter l ≡ 0x45 → Ordered 4 g → Ordered 4 (l ∷ g)
  ordered_e e o = record {
    whole = rw e (e_whole o);
    none_f = λ h. rw e (o.none_f (omega arith));
    none-b = λ h. rw e (o.none-b (omega arith));
    none_h = λ h. rw e (o.none_h (omega arith));
    none_p = λ h. rw e (o.none_p (omega arith));
    none_v = λ h. rw e (o.none_v (omega arith));
  }
