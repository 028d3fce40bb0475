-- What a copy of the bytes that have room makes of the slice. Assumes nothing.
use Rattle.std.proofs.Common.{◌≡◌, ℕ, suc, ◌+◌, ◌-◌, ◌≤◌, zero, List, [], ◌∷◌, ◌++◌, length, take, drop, set, sym, refl, ap, ◌∙◌, arith, Bool, true, false, ◌<◌, leb, leb-true, leb-false, length-set, length-take-le}
use Prim.Native.Nat.{min}
use lib.Seq.{set_out}
use borrow.Rule.Slice.PartMut.{put_mid}
use mathlib.Core.List.{append_assoc}
use Rattle.std.proofs.lemmas.List.{take_all}
use Rattle.std.proofs.lemmas.List.Edits.{sets, sets-eq, paste_all}
use Rattle.std.proofs.Math.Seq.{length-sets}
use Rattle.std.proofs.lemmas.Slice.{put_mid-paste}
use Rattle.files.specs.Append.{Appends}

-- ---- the bytes that have room are copied
-- nothing is put past the end
sets_out : (s l : List ℕ) (at : ℕ) → length s ≤ at → sets s at l ≡ s
sets_out s [] at h = refl
sets_out s (x ∷ xs) at h = rw (set_out s at x h) (sets_out s xs (suc at) (omega arith))

sets_cut : (l s : List ℕ) (at n : ℕ) → length s ≤ at + n → sets s at l ≡ sets s at (take n l)
sets_cut [] s at zero h = refl
sets_cut [] s at (suc n) h = refl
sets_cut (x ∷ l) s at zero h = sets_out s (x ∷ l) at (omega arith)
sets_cut (x ∷ l) s at (suc n) h = let same : length (set s at x) ≡ length s = length-set s at x in sets_cut l (set s at x) (suc at) n (omega arith)

module _ (s l y : List ℕ) (at n k : ℕ) (here : at ≤ length s) (copied : y ≡ take n l) (long : n ≤ length l) (room : at + n ≤ length s) (is : k ≡ n) where
  front : n ≡ length (take n l)
  front = sym (length-take-le n l long)

  put_sets : put_mid at k s y ≡ sets s at (take n l)
  put_sets =
      put_mid-paste at k s y (take n l) n copied (sym is) front
      ∙ paste_all s at (take n l) n front
      ∙ ap (λ m. take at s ++ (take n l ++ drop (at + m) s)) front
      ∙ sym (append_assoc (take at s) (take n l) (drop (at + length (take n l)) s))
      ∙ sym (sets-eq (take n l) s at (omega (arith, front)))

-- n bytes of l were copied, as many as there are and have room
pub appended : (s l y : List ℕ) (at n k : ℕ) → at ≤ length s → y ≡ take n l → n ≡ min (length l) (length s - at) → k ≡ n
    → (at + n ≤ length (put_mid at k s y)) × Appends l s at (at + n) (put_mid at k s y)
appended s l y at n k here copied few is = (rw put (rw length-sets (omega arith)), go (leb (at + length l) (length s)) refl)
  where
    put : put_mid at k s y ≡ sets s at (take n l)
    put = put_sets s l y at n k here copied (omega arith) (omega arith) is

    go : (b : Bool) → leb (at + length l) (length s) ≡ b → Appends l s at (at + n) (put_mid at k s y)
    go true e =
        let fits = leb-true (at + length l) (length s) e in
        record { next = rw e (omega arith); fill = put ∙ ap (sets s at) (take_all n l (omega arith)) }
    go false e =
        let over : length s < at + length l = leb-false (at + length l) (length s) e in
        record { next = rw e (omega arith); fill = put ∙ sym (sets_cut l s at n (omega arith)) }
