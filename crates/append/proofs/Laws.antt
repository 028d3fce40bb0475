-- Laws of text appended to a buffer. Assumes nothing.
use mathlib.Core.Path.{◌≡◌, refl, sym, ◌∙◌}
use mathlib.Core.List.{List, [], ◌∷◌, ◌++◌}
use Prim.Native.Nat.{ℕ, suc, ◌+◌, ◌≤◌, ◌<◌}
use native.Mathlib.Omega.{arith}
use lib.ListN.{length, get_or, set, drop, length-append}
use lib.Seq.{sets, length-sets, set_out}
use Rattle.laws.proofs.Lists.{next, done}
use Rattle.refusal.specs.declared.Refusal.TheVariants.{MoreBytes}
use Rattle.buffer.specs.Buffer.{Writes}
use Rattle.buffer.proofs.Laws.{sets-append, writes_short, writes_room}
use Rattle.append.specs.Append.{Room, Laid}
use Rattle.std.specs.Prelude.{Ok, Err}

-- ---- a byte
pub byte_inside : (b : List ℕ) (at x : ℕ) → at < length b → Laid (x ∷ []) b at (at + 1) (set b at x)
byte_inside b at x h = record { next = refl; fill = refl }

pub byte_past : (b : List ℕ) (at x : ℕ) → length b ≤ at → Laid (x ∷ []) b at (at + 1) b
byte_past b at x h = record { next = refl; fill = sym (set_out b at x h) }

-- ---- byte by byte: with what is left of them put, the buffer is the one that is asked for
pub record Going (b b₀ bytes : List ℕ) (at i : ℕ) : Type 0 where
  pub inside : i ≤ length bytes
  pub whole : sets b (at + i) (drop i bytes) ≡ sets b₀ at bytes
  pub same : length b ≡ length b₀

pub going_start : (b bytes : List ℕ) (at : ℕ) → Going b b bytes at 0
going_start b bytes at = let z : at + 0 ≡ at = omega arith in record { inside = omega arith; whole = rw z; same = refl }

module _ (b b₀ bytes : List ℕ) (at i : ℕ) (inv : Going b b₀ bytes at i) where
  pub going_more : (b' : List ℕ) (r : ℕ) → i < length bytes → Laid (get_or bytes i 0 ∷ []) b (at + i) r b' → Going b' b₀ bytes at (i + 1)
  going_more b' r h l =
      let z : at + (i + 1) ≡ suc (at + i) = omega arith in
      let w : sets b (at + i) (get_or bytes i 0 ∷ drop (i + 1) bytes) ≡ sets b₀ at bytes = rw (next bytes i h) at inv.whole in
      record {
        inside = omega arith;
        whole = rw (z, l.fill) w;
        same = rw l.fill (length-sets b (at + i) (get_or bytes i 0 ∷ []) ∙ inv.same);
      }

  pub going_done : length bytes ≤ i → Laid bytes b₀ at (at + length bytes) b
  going_done h = record { next = refl; fill = rw (done bytes i h) at inv.whole }

-- ---- texts
pub laid_none : (b : List ℕ) (at : ℕ) → Laid [] b at at b
laid_none b at = record { next = omega arith; fill = refl }

-- one behind the other
pub laid_both : (l m b b₁ b₂ : List ℕ) (at r q : ℕ) → Laid l b at r b₁ → Laid m b₁ r q b₂ → Laid (l ++ m) b at q b₂
laid_both l m b b₁ b₂ at r q x y =
    let n : length (l ++ m) ≡ length l + length m = length-append l m in
    record {
      next = omega (arith, x.next, y.next);
      fill = y.fill ∙ rw (x.fill, x.next) (sym (sets-append b at l m));
    }

pub laid-long : (l b b' : List ℕ) (at r : ℕ) → Laid l b at r b' → length b' ≡ length b
laid-long l b b' at r x = rw x.fill (length-sets b at l)

-- ---- where there is room for two texts, one behind the other
pub room-first : (at : ℕ) (l m : List ℕ) → Room at (l ++ m) → Room at l
room-first at l m h = omega (arith, length-append l m)

pub room-second : (at r : ℕ) (l m b b' : List ℕ) → Laid l b at r b' → Room at (l ++ m) → Room r m
room-second at r l m b b' x h = omega (arith, x.next, length-append l m)

-- ---- piece by piece: with what is left of a text put, the buffer is the one that is asked for
pub record Leaves (left all b b₀ : List ℕ) (at at₀ : ℕ) : Type 0 where
  pub whole : sets b at left ≡ sets b₀ at₀ all
  pub count : at + length left ≡ at₀ + length all
  pub same : length b ≡ length b₀

pub leaves_start : (all b : List ℕ) (at : ℕ) → Leaves all all b b at at
leaves_start all b at = record { whole = refl; count = refl; same = refl }

module _ (l left all b b₀ : List ℕ) (at at₀ : ℕ) (inv : Leaves (l ++ left) all b b₀ at at₀) where
  pub leaves_room : Room at₀ all → Room at l
  leaves_room h = omega (arith, inv.count, length-append l left)

  pub leaves_more : (b' : List ℕ) (r : ℕ) → Laid l b at r b' → Leaves left all b' b₀ r at₀
  leaves_more b' r x =
      let n : length (l ++ left) ≡ length l + length left = length-append l left in
      record {
        whole = rw (x.fill, x.next) (sym (sets-append b at l left) ∙ inv.whole);
        count = omega (arith, x.next, inv.count);
        same = laid-long l b b' at r x ∙ inv.same;
      }

pub leaves_done : (all b b₀ : List ℕ) (at at₀ : ℕ) → Leaves [] all b b₀ at at₀ → Laid all b₀ at₀ at b
leaves_done all b b₀ at at₀ inv = record { next = omega (arith, inv.count); fill = inv.whole }

-- ---- a text that is counted first, and then written if there is room
module _ (l c c' : List ℕ) (n : ℕ) (counted : Laid l c 0 n c') where
  pub counted-short : (b : List ℕ) → length b < n → Writes l b (Err (MoreBytes n)) b
  counted-short b h = writes_short l b n (omega (arith, counted.next)) h

  pub counted-room : (b b' : List ℕ) (m : ℕ) → Laid l b 0 m b' → n ≤ length b → Writes l b (Ok n) b'
  counted-room b b' m x h = writes_room l b n (omega (arith, counted.next)) b' x.fill h

pub ruleset laws = (byte_inside, byte_past, going_start, going_more, going_done)
