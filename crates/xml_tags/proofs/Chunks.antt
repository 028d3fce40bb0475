-- Laws on the tags of a document, by where the first ends. Assumes nothing.
use mathlib.Core.Path.{◌≡◌, refl}
use mathlib.Core.Bool.{Bool, true, false, cond}
use mathlib.Core.List.{List, [], ◌∷◌}
use Prim.Native.Nat.{ℕ, suc, ◌+◌, ◌≤◌, ◌<◌}
use native.Mathlib.Omega.{arith}
use borrow.Author.Tests.{eqb-true}
use lib.ListN.{length, take, drop}
use native.Mathlib.Numerals.{add-one}
use Rattle.xml_tags.specs.Tags.{stops, turn, placed, chunks, tag_end}

-- ---- tags, by where the first ends
-- no `>`: one piece
pub chunks-last : (q : Bool) (l : List ℕ) → tag_end q l ≡ length l → chunks q l ≡ l ∷ []
chunks-last q [] e = refl
chunks-last q (x ∷ xs) e = go (stops q x) e (chunks-last (turn q x) xs)
  where
    go : (a : Bool) → cond a 0 (suc (tag_end (turn q x) xs)) ≡ suc (length xs)
        → (tag_end (turn q x) xs ≡ length xs → chunks (turn q x) xs ≡ xs ∷ [])
        → placed a x (chunks (turn q x) xs) ≡ (x ∷ xs) ∷ []
    go true e f = absurd (omega arith)
    go false e f = rw (f (omega arith))

-- after a `>` we are outside quotes
stops_out : (q : Bool) (x : ℕ) → stops q x ≡ true → turn q x ≡ false
stops_out true x e = absurd (let z : ◌≡◌ {A = ℕ} 0 1 = cc in omega arith)
stops_out false x e = rw (eqb-true x 0x3e e)

-- a `>`: the bytes before it, and the tags of what stands after it
pub chunks-more : (q : Bool) (l : List ℕ) → tag_end q l < length l → chunks q l ≡ take (tag_end q l) l ∷ chunks false (drop (tag_end q l + 1) l)
chunks-more q l h = rw add-one (by_suc q l h)
  where
    by_suc : (q : Bool) (l : List ℕ) → tag_end q l < length l → chunks q l ≡ take (tag_end q l) l ∷ chunks false (drop (suc (tag_end q l)) l)
    by_suc q [] h = absurd (omega arith)
    by_suc q (x ∷ xs) h = go (stops q x) refl h (by_suc (turn q x) xs)
      where
        go : (a : Bool) → stops q x ≡ a → cond a 0 (suc (tag_end (turn q x) xs)) < suc (length xs)
            → (tag_end (turn q x) xs < length xs
            → chunks (turn q x) xs ≡ take (tag_end (turn q x) xs) xs ∷ chunks false (drop (suc (tag_end (turn q x) xs)) xs))
            → placed a x (chunks (turn q x) xs)
            ≡ take (cond a 0 (suc (tag_end (turn q x) xs))) (x ∷ xs) ∷ chunks false (drop (suc (cond a 0 (suc (tag_end (turn q x) xs)))) (x ∷ xs))
        go true e h f = rw (stops_out q x e)
        go false e h f = rw (f (omega arith))

pub chunks_some : (q : Bool) (l : List ℕ) → 1 ≤ length (chunks q l)
chunks_some q [] = omega arith
chunks_some q (x ∷ xs) = go (stops q x) (chunks (turn q x) xs)
  where
    go : (a : Bool) (f : List (List ℕ)) → 1 ≤ length (placed a x f)
    go true f = omega arith
    go false [] = omega arith
    go false (p ∷ ps) = omega arith
