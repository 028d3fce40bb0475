-- Laws of bytes put into a buffer. Assumes nothing.
use mathlib.Core.Path.{◌≡◌, refl, sym, ap, ◌∙◌}
use mathlib.Core.Bool.{Bool, true, false, cond}
use mathlib.Core.List.{List, [], ◌∷◌, ◌++◌, append_assoc}
use Prim.Native.Nat.{ℕ, suc, ◌+◌, ◌-◌, ◌≤◌, ◌<◌}
use native.Mathlib.Omega.{arith}
use lib.Dec.{leb}
use lib.ListN.{length, set, take, drop, length-append}
use lib.Seq.{sets, sets-eq, take_at}
use borrow.Author.Tests.{le-leb, lt-leb}
use borrow.Rule.Slice.PartMut.{put_mid}
use Rattle.std.proofs.lemmas.Slice.{put_mid-paste}
use Rattle.std.proofs.lemmas.List.Edits.{paste_all}
use Rattle.refusal.specs.declared.Refusal.TheVariants.{MoreBytes}
use Rattle.buffer.specs.Buffer.{answer_in, answer_by, buffer_after, Writes}
use Rattle.std.specs.Prelude.{Result, Ok, Err}
use Rattle.refusal.specs.declared.Refusal.{Refusal}

-- one text put behind another
pub sets-append : (to : List ℕ) (n : ℕ) (a b : List ℕ) → sets to n (a ++ b) ≡ sets (sets to n a) (n + length a) b
sets-append to n [] b = let z : n + 0 ≡ n = omega arith in rw z
sets-append to n (x ∷ a) b = let z : n + suc (length a) ≡ suc n + length a = omega arith in rw z (sets-append (set to n x) (suc n) a b)

-- bytes put as a part of a buffer, which has room for them
pub put_part : (to bytes p : List ℕ) (at : ℕ) → p ≡ bytes → at + length bytes ≤ length to → put_mid at (at + length bytes - at) to p ≡ sets to at bytes
put_part to bytes p at e room =
    let k : length bytes ≡ at + length bytes - at = omega arith in
    put_mid-paste at (at + length bytes - at) to p bytes (length bytes) e k refl ∙ paste_all to at bytes (length bytes) refl
    ∙ sym (sets-eq bytes to at room ∙ append_assoc (take at to) bytes (drop (at + length bytes) to))

-- ---- the answer
module _ (l b : List ℕ) (n : ℕ) (is : n ≡ length l) where
  pub writes_short : length b < n → Writes l b (Err (MoreBytes n)) b
  writes_short h = record { answer = rw (is, lt-leb (length l) (length b) (omega arith)); buffer = refl }

  pub writes_room : (b' : List ℕ) → b' ≡ sets b 0 l → n ≤ length b → Writes l b (Ok n) b'
  writes_room b' e h =
      let z : 0 + length l ≡ length l = omega arith in
      record { answer = rw (is, le-leb (length l) (length b) (omega arith)); buffer = e ∙ sets-eq l b 0 (omega arith) ∙ rw z }

-- ---- for callers: the length that is answered for a text, after a check by which that length is the text's
module _ (v : Result (Unit {0}) Refusal) (l b : List ℕ) (size : ℕ) (r : Result ℕ Refusal) (b' : List ℕ) (n : ℕ) (long : v ≡ Ok tt → size ≡ length l)
    (answer : r ≡ answer_by v (answer_in size (length b))) (buffer : b' ≡ buffer_after l b r) (e : r ≡ Ok n) where
  is_length : n ≡ length l
  is_length = go v long (leb size (length b)) (sym e ∙ answer)
    where
      go : (w : Result (Unit {0}) Refusal) → (w ≡ Ok tt → size ≡ length l) → (fits : Bool)
          → Ok n ≡ answer_by w (cond fits (Ok size) (Err (MoreBytes size)))
          → n ≡ length l
      go (Ok tt) is true h = let z : n ≡ size = cc in z ∙ is refl
      go (Ok tt) is false h = absurd (let z : ◌≡◌ {A = ℕ} 0 1 = cc in omega arith)
      go (Err x) is fits h = absurd (let z : ◌≡◌ {A = ℕ} 0 1 = cc in omega arith)

  left : b' ≡ l ++ drop (length l) b
  left = rw e at buffer

  -- so many bytes stand in the buffer
  pub length_by : n ≤ length b'
  length_by =
      let c : length b' ≡ length l + length (drop (length l) b) = ap length left ∙ length-append l (drop (length l) b) in
      omega (arith, is_length, c)

  -- and they are the text
  pub front_by : take n b' ≡ l
  front_by = ap (take n) left ∙ take_at l (drop (length l) b) n (sym is_length)

-- the same of a text that no check comes before
module _ (l b : List ℕ) (r : Result ℕ Refusal) (b' : List ℕ) (n : ℕ) (so : Writes l b r b') (e : r ≡ Ok n) where
  pub length-written : n ≤ length b'
  length-written = length_by (Ok tt) l b (length l) r b' n (λ z. refl) so.answer so.buffer e

  pub front_written : take n b' ≡ l
  front_written = front_by (Ok tt) l b (length l) r b' n (λ z. refl) so.answer so.buffer e

pub ruleset laws = (put_part, writes_short, writes_room)
