-- Laws of values as they are written. Assumes nothing.
use mathlib.Core.Path.{◌≡◌, ap, ◌∙◌}
use mathlib.Core.List.{List, [], ◌∷◌, ◌++◌}
use Prim.Native.Nat.{ℕ, ◌+◌, ◌-◌, ◌≤◌, ◌<◌}
use native.Mathlib.Omega.{arith}
use lib.ListN.{length, get_or, take, drop}
use borrow.Author.Tests.{eq-eqb, ne_eqb}
use Rattle.laws.proofs.Lists.{next, done}
use Rattle.text.specs.Text.{value}
use Rattle.numerals.specs.Numerals.{room, capital, spelled, Spells}
use Rattle.numerals.proofs.Laws.{digits_are}
use Rattle.numerals.proofs.Laws.{hex-fits}
use Rattle.append.specs.Append.{Room, Laid}
use Rattle.append.proofs.Laws.{Leaves, leaves_start, leaves_more, leaves_room, leaves_done, laid_both, room-first, room-second}
use Rattle.xml_spelling.specs.Spelling.{escape_of, escaped, hexed, flagged}

-- ---- a byte, by its name
module _ (x : ℕ) where
  amp_is : x ≡ 0x26 → escape_of x ≡ 0x26 ∷ 0x61 ∷ 0x6d ∷ 0x70 ∷ 0x3b ∷ []
  amp_is e = rw e

  lt_is : x ≡ 0x3c → escape_of x ≡ 0x26 ∷ 0x6c ∷ 0x74 ∷ 0x3b ∷ []
  lt_is e = rw e

  gt_is : x ≡ 0x3e → escape_of x ≡ 0x26 ∷ 0x67 ∷ 0x74 ∷ 0x3b ∷ []
  gt_is e = rw e

  quot_is : x ≡ 0x22 → escape_of x ≡ 0x26 ∷ 0x71 ∷ 0x75 ∷ 0x6f ∷ 0x74 ∷ 0x3b ∷ []
  quot_is e = rw e

  apos_is : x ≡ 0x27 → escape_of x ≡ 0x26 ∷ 0x61 ∷ 0x70 ∷ 0x6f ∷ 0x73 ∷ 0x3b ∷ []
  apos_is e = rw e

  pub plain_is : (x ≡ 0x26 → ⊥) → (x ≡ 0x3c → ⊥) → (x ≡ 0x3e → ⊥) → (x ≡ 0x22 → ⊥) → (x ≡ 0x27 → ⊥)
      → escape_of x ≡ x ∷ []
  plain_is a l g q p = rw (ne_eqb x 0x26 a, ne_eqb x 0x3c l, ne_eqb x 0x3e g, ne_eqb x 0x22 q, ne_eqb x 0x27 p)

  module _ (at : ℕ) (room : Room at (escape_of x)) where
    pub room_amp : x ≡ 0x26 → Room at (0x26 ∷ 0x61 ∷ 0x6d ∷ 0x70 ∷ 0x3b ∷ [])
    room_amp e = rw (amp_is e) at room

    pub room-lt : x ≡ 0x3c → Room at (0x26 ∷ 0x6c ∷ 0x74 ∷ 0x3b ∷ [])
    room-lt e = rw (lt_is e) at room

    pub room_gt : x ≡ 0x3e → Room at (0x26 ∷ 0x67 ∷ 0x74 ∷ 0x3b ∷ [])
    room_gt e = rw (gt_is e) at room

    pub room_quot : x ≡ 0x22 → Room at (0x26 ∷ 0x71 ∷ 0x75 ∷ 0x6f ∷ 0x74 ∷ 0x3b ∷ [])
    room_quot e = rw (quot_is e) at room

    pub room_apos : x ≡ 0x27 → Room at (0x26 ∷ 0x61 ∷ 0x70 ∷ 0x6f ∷ 0x73 ∷ 0x3b ∷ [])
    room_apos e = rw (apos_is e) at room

    pub room-plain : (x ≡ 0x26 → ⊥) → (x ≡ 0x3c → ⊥) → (x ≡ 0x3e → ⊥) → (x ≡ 0x22 → ⊥) → (x ≡ 0x27 → ⊥)
        → Room at (x ∷ [])
    room-plain a l g q p = rw (plain_is a l g q p) at room

  module _ (b b' : List ℕ) (at r : ℕ) where
    pub laid_amp : x ≡ 0x26 → Laid (0x26 ∷ 0x61 ∷ 0x6d ∷ 0x70 ∷ 0x3b ∷ []) b at r b' → Laid (escape_of x) b at r b'
    laid_amp e l = rw (amp_is e) l

    pub laid-lt : x ≡ 0x3c → Laid (0x26 ∷ 0x6c ∷ 0x74 ∷ 0x3b ∷ []) b at r b' → Laid (escape_of x) b at r b'
    laid-lt e l = rw (lt_is e) l

    pub laid_gt : x ≡ 0x3e → Laid (0x26 ∷ 0x67 ∷ 0x74 ∷ 0x3b ∷ []) b at r b' → Laid (escape_of x) b at r b'
    laid_gt e l = rw (gt_is e) l

    pub laid_quot : x ≡ 0x22 → Laid (0x26 ∷ 0x71 ∷ 0x75 ∷ 0x6f ∷ 0x74 ∷ 0x3b ∷ []) b at r b' → Laid (escape_of x) b at r b'
    laid_quot e l = rw (quot_is e) l

    pub laid_apos : x ≡ 0x27 → Laid (0x26 ∷ 0x61 ∷ 0x70 ∷ 0x6f ∷ 0x73 ∷ 0x3b ∷ []) b at r b' → Laid (escape_of x) b at r b'
    laid_apos e l = rw (apos_is e) l

    pub laid-plain : (x ≡ 0x26 → ⊥) → (x ≡ 0x3c → ⊥) → (x ≡ 0x3e → ⊥) → (x ≡ 0x22 → ⊥) → (x ≡ 0x27 → ⊥)
        → Laid (x ∷ []) b at r b'
        → Laid (escape_of x) b at r b'
    laid-plain a l g q p y = rw (plain_is a l g q p) y

-- ---- words, byte by byte
pub record Escaping (s b b₀ : List ℕ) (at at₀ i : ℕ) : Type 0 where
  pub inside : i ≤ length s
  pub leaves : Leaves (escaped (drop i s)) (escaped s) b b₀ at at₀

pub escaping_start : (s b : List ℕ) (at : ℕ) → Escaping s b b at at 0
escaping_start s b at = record { inside = omega arith; leaves = leaves_start (escaped s) b at }

module _ (s b b₀ : List ℕ) (at at₀ i : ℕ) (inv : Escaping s b b₀ at at₀ i) where
  one_more : i < length s → Leaves (escape_of (get_or s i 0) ++ escaped (drop (i + 1) s)) (escaped s) b b₀ at at₀
  unfolding escaped
  one_more h = rw (next s i h) at inv.leaves

  pub escaping_room : i < length s → Room at₀ (escaped s) → Room at (escape_of (get_or s i 0))
  escaping_room h room = leaves_room (escape_of (get_or s i 0)) (escaped (drop (i + 1) s)) (escaped s) b b₀ at at₀ (one_more h) room

  pub escaping_more : (b' : List ℕ) (r : ℕ) → i < length s → Laid (escape_of (get_or s i 0)) b at r b' → Escaping s b' b₀ r at₀ (i + 1)
  escaping_more b' r h l = record {
    inside = omega arith;
    leaves = leaves_more (escape_of (get_or s i 0)) (escaped (drop (i + 1) s)) (escaped s) b b₀ at at₀ (one_more h) b' r l;
  }

  pub escaping_done : length s ≤ i → Laid (escaped s) b₀ at₀ at b
  unfolding escaped
  escaping_done h = leaves_done (escaped s) b b₀ at at₀ (rw (done s i h) at inv.leaves)

-- ---- hexadecimal
module _ (f : List ℕ) (n : ℕ) (is : n ≡ value 65535 f) (start : ℕ) (out : List ℕ) (spells : Spells 2 (spelled 16 capital 20 1 n) start out) where
  digits : take (room - start) (drop start out) ≡ spelled 16 capital 20 1 (value 65535 f)
  digits = digits_are 2 (spelled 16 capital 20 1 n) start out spells ∙ ap (spelled 16 capital 20 1) is

  pub hex-room : (at r : ℕ) (b b' : List ℕ) → Laid (0x30 ∷ 0x78 ∷ []) b at r b' → Room at (hexed f)
      → Room r (take (room - start) (drop start out))
  hex-room at r b b' l h = rw digits (room-second at r (0x30 ∷ 0x78 ∷ []) (spelled 16 capital 20 1 (value 65535 f)) b b' l h)

  pub hex-laid : (at r q : ℕ) (b b' b'' : List ℕ) → Laid (0x30 ∷ 0x78 ∷ []) b at r b'
      → Laid (take (room - start) (drop start out)) b' r q b'' → Laid (hexed f) b at q b''
  hex-laid at r q b b' b'' l m = laid_both (0x30 ∷ 0x78 ∷ []) (spelled 16 capital 20 1 (value 65535 f)) b b' b'' at r q l (rw digits at m)

pub hex-mark : (f : List ℕ) (at : ℕ) → Room at (hexed f) → Room at (0x30 ∷ 0x78 ∷ [])
hex-mark f at room = room-first at (0x30 ∷ 0x78 ∷ []) (spelled 16 capital 20 1 (value 65535 f)) room

-- ---- a flag
module _ (x : ℕ) where
  pub true_room : (at : ℕ) → Room at (flagged x) → x ≡ 0x31 → Room at (0x74 ∷ 0x72 ∷ 0x75 ∷ 0x65 ∷ [])
  true_room at room e = rw (eq-eqb x 0x31 e) at room

  pub false_room : (at : ℕ) → Room at (flagged x) → (x ≡ 0x31 → ⊥) → Room at (0x66 ∷ 0x61 ∷ 0x6c ∷ 0x73 ∷ 0x65 ∷ [])
  false_room at room e = rw (ne_eqb x 0x31 e) at room

  pub true_laid : (b b' : List ℕ) (at r : ℕ) → Laid (0x74 ∷ 0x72 ∷ 0x75 ∷ 0x65 ∷ []) b at r b' → x ≡ 0x31 → Laid (flagged x) b at r b'
  true_laid b b' at r l e = rw (eq-eqb x 0x31 e) l

  pub false_laid : (b b' : List ℕ) (at r : ℕ) → Laid (0x66 ∷ 0x61 ∷ 0x6c ∷ 0x73 ∷ 0x65 ∷ []) b at r b' → (x ≡ 0x31 → ⊥)
      → Laid (flagged x) b at r b'
  false_laid b b' at r l e = rw (ne_eqb x 0x31 e) l

pub ruleset laws = (
  room_amp,
  room-lt,
  room_gt,
  room_quot,
  room_apos,
  room-plain,
  laid_amp,
  laid-lt,
  laid_gt,
  laid_quot,
  laid_apos,
  laid-plain,
  escaping_start,
  escaping_room,
  escaping_more,
  escaping_done,
  hex-mark,
  hex-room,
  hex-laid,
  hex-fits,
  true_room,
  false_room,
  true_laid,
  false_laid,
)
