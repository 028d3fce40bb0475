-- Laws of numbers and bytes as text. Assumes nothing.
use mathlib.Core.Path.{◌≡◌, refl, sym, ◌∙◌}
use mathlib.Core.Bool.{Bool, true, false, ◌&&◌}
use mathlib.Core.List.{List, [], ◌∷◌, ◌++◌, append_assoc, append-nil}
use Prim.Native.Nat.{ℕ, zero, suc, ◌+◌, ◌-◌, ◌*◌, ◌/◌, ◌%◌, ◌^◌, ◌≤◌, ◌<◌}
use native.Mathlib.Nat.{pow-zero, pow-suc, mod-lt, div-lt_iff_lt-mul}
use native.Mathlib.Omega.{arith}
use mir.Syntax.{w8}
use mir.Val.{Fits}
use lib.Dec.{eqb}
use lib.ListN.{length, get_or, set, take, drop, length-set, length-append}
use lib.Seq.{sets, length-sets, set_split, drop_at, length-take-le}
use borrow.Author.Tests.{eq-eqb, ne_eqb, lt-ltb, le-ltb}
use Rattle.laws.proofs.Lists.{next, done, tail}
use Rattle.refusal.specs.declared.Refusal.TheVariants.{MoreBytes}
use Rattle.buffer.specs.Buffer.{Writes}
use Rattle.buffer.proofs.Laws.{sets-append, writes_room, writes_short}
use Rattle.numerals.specs.Numerals.{room, capital, glyph, spelled, decimal, signed, hex, pairs, Spells}
use Rattle.std.specs.Prelude.{Ok, Err}

-- ---- a digit
pub glyph-low : (ten d : ℕ) → d < 10 → 48 + d ≡ glyph ten d
glyph-low ten d h = rw (lt-ltb d 10 h)

pub glyph_high : (ten d : ℕ) → 10 ≤ d → ten + (d - 10) ≡ glyph ten d
glyph_high ten d h = rw (le-ltb d 10 h)

module _ (rest base : ℕ) (low : 2 ≤ base) (high : base ≤ 16) where
  pub digit-below : rest % base < 16
  digit-below = omega (arith, mod-lt rest {m = base} (omega arith))

  pub digit-fits : Fits w8 (rest % base)
  digit-fits = omega (arith, digit-below)

-- ---- are all digits there?
pub spelled-more : (rest left : ℕ) → (rest ≡ 0 → ⊥) → false ≡ eqb rest 0 && eqb left 0
spelled-more rest left h = rw (ne_eqb rest 0 h)

pub spelled-all : (rest left : ℕ) → rest ≡ 0 → eqb left 0 ≡ eqb rest 0 && eqb left 0
spelled-all rest left h = rw (eq-eqb rest 0 h)

-- ---- digit by digit, from the last on: what is left is spelled before those that are there
pub record Spelling (base ten least n : ℕ) (out : List ℕ) (at rest left : ℕ) : Type 0 where
  pub low : 2 ≤ at
  pub all : length out ≡ room
  pub within : at ≤ room
  pub small : rest < base ^ (at - 2)
  pub few : left ≤ at - 2
  pub text : spelled base ten (at - 2) left rest ++ drop at out ≡ spelled base ten 20 least n

pub spell_start : (base ten least n : ℕ) (out : List ℕ) → length out ≡ room → n < base ^ 20 → least ≤ 20
    → Spelling base ten least n out room n least
spell_start base ten least n out l s f =
    record { low = omega arith; all = l; within = omega arith; small = s; few = f; text = rw (done out room (omega arith)) (append-nil _) }

-- what is written at a place stands before what was behind it
put-before : (out : List ℕ) (i v : ℕ) → i < length out → drop i (set out i v) ≡ v ∷ drop (suc i) out
put-before out i v h = rw (set_split out i v h) (drop_at (take i out) (v ∷ drop (suc i) out) i (length-take-le i out (omega arith)))

module _ (base ten least n : ℕ) (out : List ℕ) (at rest left : ℕ) (p : Spelling base ten least n out at rest left) where
  pub spell_done : (e : Bool) → e ≡ eqb rest 0 && eqb left 0 → e ≡ true → Spells 2 (spelled base ten 20 least n) at out
  unfolding spelled
  spell_done e is h =
      let q : eqb rest 0 && eqb left 0 ≡ true = sym is ∙ h in
      record { text = rw (ended (at - 2) q) at p.text; before = p.low; within = omega (arith, p.within, p.all); all = p.all }
    where
      ended : (m : ℕ) → eqb rest 0 && eqb left 0 ≡ true → spelled base ten m left rest ≡ []
      ended zero q = refl
      ended (suc m) q = rw q

  pub spell_room : (e : Bool) → e ≡ eqb rest 0 && eqb left 0 → e ≡ false → 2 < at
  spell_room e is h = go (at - 2) refl p.small p.few
    where
      go : (m : ℕ) → m ≡ at - 2 → rest < base ^ m → left ≤ m → 2 < at
      go zero q s f =
          let a : rest ≡ 0 = omega (arith, rw (pow-zero base) at s) in
          let b : left ≡ 0 = omega arith in
          let z : true ≡ false = rw (a, b) at (sym is ∙ h) in
          absurd (let z : ◌≡◌ {A = ℕ} 0 1 = cc in omega arith)
      go (suc m) q s f = omega (arith, p.low)

  module _ (e : Bool) (is : e ≡ eqb rest 0 && eqb left 0) (h : e ≡ false) (some-base : 2 ≤ base) where
    pub spell_more : (g left' : ℕ) → g ≡ glyph ten (rest % base) → left' ≡ left - 1
        → Spelling base ten least n (set out (at - 1) g) (at - 1) (rest / base) left'
    unfolding spelled
    spell_more g left' a b =
        let r : 2 < at = spell_room e is h in
        let m : at - 2 ≡ suc (at - 1 - 2) = omega arith in
        let s : rest < base ^ (at - 1 - 2) * base = rw (m, pow-suc) at p.small in
        let d : drop (at - 1) (set out (at - 1) g) ≡ g ∷ drop (suc (at - 1)) out = put-before out (at - 1) g (omega (arith, p.all, p.within)) in
        let k : suc (at - 1) ≡ at = omega arith in
        let q : eqb rest 0 && eqb left 0 ≡ false = sym is ∙ h in
        let t : (spelled base ten (at - 1 - 2) (left - 1) (rest / base) ++ (glyph ten (rest % base) ∷ [])) ++ drop at out ≡ spelled base ten 20 least n =
        rw (m, q) at p.text in
        record {
          low = omega arith;
          all = rw length-set p.all;
          within = omega (arith, p.within);
          small = (div-lt_iff_lt-mul {k = base} {x = rest} {y = base ^ (at - 1 - 2)} (omega arith)).1 s;
          few = omega (arith, p.few);
          text = rw (d, k, a, b) (rw append_assoc at t);
        }

pub ruleset spell_laws = (glyph-low, glyph_high, digit-below, digit-fits, spelled-more, spelled-all, spell_start, spell_done, spell_room, spell_more)

-- ---- 64 bits have at most 20 digits
pub decimal-fits : (n : ℕ) → n < 2 ^ 64 → n < 10 ^ 20
decimal-fits n h = omega arith

pub hex-fits : (n : ℕ) → n < 2 ^ 64 → n < 16 ^ 20
hex-fits n h = omega arith

-- ---- a mark before a number
mark-before : (room : ℕ) (l : List ℕ) (at : ℕ) (out : List ℕ) (v : ℕ) → Spells (room + 1) l at out
    → Spells room (v ∷ l) (at - 1) (set out (at - 1) v)
mark-before room l at out v s =
    let k : suc (at - 1) ≡ at = omega (arith, s.before) in
    let d : drop (at - 1) (set out (at - 1) v) ≡ v ∷ drop (suc (at - 1)) out = put-before out (at - 1) v (omega (arith, s.before, s.within)) in
    record {
      text = d ∙ rw (k, s.text);
      before = omega (arith, s.before);
      within = rw length-set (omega (arith, s.within));
      all = rw length-set s.all;
    }

-- the bytes from there on are the text
pub digits_are : (free : ℕ) (l : List ℕ) (at : ℕ) (out : List ℕ) → Spells free l at out → take (room - at) (drop at out) ≡ l
digits_are free l at out s = rw (← s.all) (tail out at) ∙ s.text

pub mark-inside : (l : List ℕ) (at : ℕ) (out : List ℕ) (v : ℕ) → Spells 2 l at out → at - 2 < length (set out (at - 1) v)
mark-inside l at out v s = rw length-set (omega (arith, s.before, s.within))

pub signed_low : (low at : ℕ) (out : List ℕ) → Spells 2 (decimal low) at out → low < 128 → Spells 1 (signed low) at out
signed_low low at out s h =
    record { text = rw (lt-ltb low 128 h) s.text; before = omega (arith, s.before); within = s.within; all = s.all }

pub signed_high : (low at : ℕ) (out : List ℕ) → Spells 2 (decimal (255 - low + 1)) at out → 128 ≤ low → low < 256
    → Spells 1 (signed low) (at - 1) (set out (at - 1) 0x2d)
signed_high low at out s h b =
    let z : 255 - low + 1 ≡ 256 - low = omega arith in
    let m : Spells 1 (0x2d ∷ decimal (256 - low)) (at - 1) (set out (at - 1) 0x2d) = mark-before 1 (decimal (256 - low)) at out 0x2d (rw z at s) in
    rw (le-ltb low 128 h) m

pub hex_marked : (n at : ℕ) (out : List ℕ) → Spells 2 (spelled 16 capital 20 2 n) at out
    → Spells 0 (hex n) (at - 2) (set (set out (at - 1) 0x78) (at - 2) 0x30)
hex_marked n at out s =
    let z : at - 1 - 1 ≡ at - 2 = omega arith in
    rw z at (mark-before 0 (0x78 ∷ spelled 16 capital 20 2 n) (at - 1) (set out (at - 1) 0x78) 0x30 (mark-before 1 (spelled 16 capital 20 2 n) at out 0x78 s))

pub ruleset mark_laws = (mark-inside, signed_low, signed_high, hex_marked)

-- ---- a byte
pub pair_put : (to : List ℕ) (at b g h : ℕ) → g ≡ glyph capital (b / 16) → h ≡ glyph capital (b % 16)
    → set (set to at g) (at + 1) h ≡ sets to at (pairs (b ∷ []))
pair_put to at b g h e f = let s : at + 1 ≡ suc at = omega arith in rw (e, f, s)

pub pair_inside : (to : List ℕ) (at g : ℕ) → at + 2 ≤ length to → at + 1 < length (set to at g)
pair_inside to at g h = rw length-set (omega arith)

-- ---- byte by byte: with what is left of them put, the buffer is the one that is asked for
pub record Pairing (to to₀ bytes : List ℕ) (at i : ℕ) : Type 0 where
  pub same : length to ≡ length to₀
  pub fill : sets to (at + 2 * i) (pairs (drop i bytes)) ≡ sets to₀ at (pairs bytes)

pub pairs_start : (to bytes : List ℕ) (at : ℕ) → Pairing to to bytes at 0
pairs_start to bytes at = let e : at + 2 * 0 ≡ at = omega arith in record { same = refl; fill = rw e refl }

module _ (to to₀ bytes : List ℕ) (at i : ℕ) (p : Pairing to to₀ bytes at i) where
  pub pairs-more : (to' : List ℕ) → to' ≡ sets to (at + 2 * i) (pairs (get_or bytes i 0 ∷ [])) → i < length bytes
      → Pairing to' to₀ bytes at (i + 1)
  pairs-more to' e l =
      let s : at + 2 * (i + 1) ≡ suc (suc (at + 2 * i)) = omega arith in
      record {
        same = rw (e, length-set, length-set) p.same;
        fill = rw (e, s) (rw (next bytes i l) at p.fill);
      }

  pub pairs_done : length bytes ≤ i → to ≡ sets to₀ at (pairs bytes)
  pairs_done h = rw (done bytes i h) at p.fill

length_pairs : (l : List ℕ) → length (pairs l) ≡ 2 * length l
length_pairs [] = refl
length_pairs (x ∷ xs) = omega (arith, length_pairs xs)

-- ---- a mark and bytes
module _ (mark bytes b : List ℕ) where
  counted : length mark + 2 * length bytes ≡ length (mark ++ pairs bytes)
  counted = rw length-append (omega (arith, length_pairs bytes))

  pub pairs-longer : length b < length mark + 2 * length bytes
      → Writes (mark ++ pairs bytes) b (Err (MoreBytes (length mark + 2 * length bytes))) b
  pairs-longer h = writes_short (mark ++ pairs bytes) b (length mark + 2 * length bytes) counted h

  pub pairs-room : (b₁ : List ℕ) → b₁ ≡ sets b 0 mark → length mark + 2 * length bytes ≤ length b
      → length mark + 2 * length bytes ≤ length b₁
  pairs-room b₁ e h = rw (e, length-sets) h

  pub pairs-written : (b₁ b₂ : List ℕ) → b₁ ≡ sets b 0 mark → b₂ ≡ sets b₁ (length mark) (pairs bytes)
      → length mark + 2 * length bytes ≤ length b
      → Writes (mark ++ pairs bytes) b (Ok (length mark + 2 * length bytes)) b₂
  pairs-written b₁ b₂ e f h =
      let z : 0 + length mark ≡ length mark = omega arith in
      let w : sets b 0 (mark ++ pairs bytes) ≡ sets (sets b 0 mark) (length mark) (pairs bytes) = rw z at (sets-append b 0 mark (pairs bytes)) in
      writes_room (mark ++ pairs bytes) b (length mark + 2 * length bytes) counted b₂ (f ∙ rw e (sym w)) h

pub ruleset pairs_laws = (pair_put, pair_inside, pairs_start, pairs-more, pairs_done, pairs-longer, pairs-room, pairs-written)

pub ruleset laws = (spell_laws, decimal-fits, hex-fits, mark_laws, pairs_laws)
