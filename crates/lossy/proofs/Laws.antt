-- Laws that the proofs of the functions go by, a law a way through the code. Assumes nothing.
use mathlib.Core.Path.{◌≡◌, refl, sym, ap, ◌∙◌}
use mathlib.Core.Bool.{true, false, cond}
use mathlib.Core.List.{List, [], ◌∷◌, ◌++◌}
use Prim.Native.Nat.{ℕ, suc, ◌+◌, ◌-◌, ◌*◌, ◌^◌, ◌≤◌, ◌<◌}
use native.Mathlib.Omega.{arith}
use lib.ListN.{length, get_or, set, take, drop, length-drop, length-append, length-set}
use lib.Seq.{take-suc, take-length, length-take-le, drop-drop, sets, length-sets}
use borrow.Author.Tests.{ne_eqb}
use mir.Val.{Fits}
use mir.Syntax.{w64}
use Rattle.laws.proofs.Lists.{done, tail}
use Rattle.refusal.specs.declared.Refusal.TheVariants.{MoreBytes}
use Rattle.buffer.specs.Buffer.{Writes}
use Rattle.buffer.proofs.Laws.{sets-append, writes_room, writes_short}
use Rattle.utf8.specs.declared.Piece.{Piece}
use Rattle.utf8.specs.Table.{cut}
use Rattle.lossy.specs.Lossy.{mark, first, replaced, trim, shown}
use Rattle.lossy.proofs.Text.{piece, first-length, three_times, trim-zeros, trim-behind, trim-first}
use Rattle.std.specs.Prelude.{Ok, Err}

-- as long as it says: the part of a slice up to e
pub front : (s : List ℕ) (e : ℕ) → e ≤ length s → e ≡ length (take e s)
front s e h = sym (length-take-le e s h)

-- ---- the zero bytes at the end
pub end_start : (s : List ℕ) → trim (take (length s) s) ≡ trim s
end_start s = rw (take-length s)

module _ (s : List ℕ) (e : ℕ) (inv : trim (take e s) ≡ trim s) where
  last : 0 < e → e ≤ length s → take e s ≡ take (e - 1) s ++ (get_or s (e - 1) 0 ∷ [])
  last p h =
      let z : e ≡ suc (e - 1) = omega arith in
      ap (λ (n : ℕ). take n s) z ∙ take-suc s (e - 1) 0 (omega arith)

  pub end_hit : 0 < e → e ≤ length s → (get_or s (e - 1) 0 ≡ 0 → ⊥) → take e s ≡ trim s
  end_hit p h f =
      let t : trim (take e s) ≡ take e s =
      rw (last p h) (trim-behind (take (e - 1) s) (get_or s (e - 1) 0 ∷ []) (rw (ne_eqb (get_or s (e - 1) 0) 0 f)) (λ q. let z : ◌≡◌ {A = ℕ} 0 1 =
      cc in omega arith)) in
      sym t ∙ inv

  pub end_more : 0 < e → e ≤ length s → get_or s (e - 1) 0 ≡ 0 → trim (take (e - 1) s) ≡ trim s
  end_more p h f =
      let t : take e s ≡ take (e - 1) s ++ (0 ∷ []) = last p h ∙ ap (λ (x : ℕ). take (e - 1) s ++ (x ∷ [])) f in
      sym (trim-zeros (take (e - 1) s) 1) ∙ ap trim (sym t) ∙ inv

  pub end_none : e ≤ 0 → take e s ≡ trim s
  end_none h = let z : e ≡ 0 = omega arith in rw z (rw z at inv)

pub ruleset end_laws = (end_start, end_hit, end_more, end_none)

-- ---- how many bytes stand for the pieces
piece_of : (l : List ℕ) → 0 < length l → replaced l ≡ first l ++ replaced (drop (cut l).size l)
piece_of [] h = absurd (omega arith)
piece_of (x ∷ xs) h = piece x xs

width_of : (l : List ℕ) → 0 < length l → length (first l) ≡ cond (cut l).well (cut l).size 3
width_of [] h = absurd (omega arith)
width_of (x ∷ xs) h = first-length x xs

pub size_in : (s : List ℕ) (i k : ℕ) → k ≤ length (take (length s - i) (drop i s)) → i < length s → i + k ≤ length s
size_in s i k b h = let e : length (take (length s - i) (drop i s)) ≡ length s - i = rw (tail s i, length-drop) in omega arith

module _ (s : List ℕ) (i : ℕ) (p : Piece) (told : p ≡ cut (take (length s - i) (drop i s))) (h : i < length s) where
  is_cut : p ≡ cut (drop i s)
  is_cut = rw (tail s i) at told

  left : 0 < length (drop i s)
  left = rw length-drop (omega arith)

  here : replaced (drop i s) ≡ first (drop i s) ++ replaced (drop (i + p.size) s)
  here = rw (is_cut, ← drop-drop (cut (drop i s)).size i s) (piece_of (drop i s) left)

  wide : (w : ℕ) → w ≡ cond p.well p.size 3 → w ≡ length (first (drop i s))
  wide w e = e ∙ (rw is_cut (sym (width_of (drop i s) left)))

  both : (w : ℕ) → w ≡ cond p.well p.size 3 → length (replaced (drop i s)) ≡ w + length (replaced (drop (i + p.size) s))
  both w e = rw (here, length-append, wide w e)

  module _ (w n : ℕ) (e : w ≡ cond p.well p.size 3) (inv : n + length (replaced (drop i s)) ≡ length (replaced s)) where
    pub count-more : n + w + length (replaced (drop (i + p.size) s)) ≡ length (replaced s)
    count-more = omega (arith, both w e)

    pub count_fits : 3 * length s < 2 ^ 64 → Fits w64 (n + w)
    count_fits f = omega (arith, count-more, three_times s)

pub count_done : (s : List ℕ) (n i : ℕ) → n + length (replaced (drop i s)) ≡ length (replaced s) → length s ≤ i → n ≡ length (replaced s)
count_done s n i inv h = let z : length (replaced (drop i s)) ≡ 0 = rw (done s i h) in omega arith

pub ruleset count_laws = (size_in, count-more, count_fits, count_done)

-- ---- the first piece put into a buffer
module _ (s : List ℕ) (p : Piece) (told : p ≡ cut s) where
  pub first-well : p.well ≡ true → take p.size s ≡ first s
  first-well w = let v : (cut s).well ≡ true = rw told at w in rw (v, told)

  pub first_ill : p.well ≡ false → mark ≡ first s
  first_ill w = let v : (cut s).well ≡ false = rw told at w in rw v

  module _ (to : List ℕ) (at : ℕ) where
    pub well-room : p.size ≤ length s → at + length (first s) ≤ length to → p.well ≡ true → at + length (take p.size s) ≤ length to
    well-room b r w = rw (first-well w) r

    pub well-put : (after : List ℕ) → after ≡ sets to at (take p.size s) → p.well ≡ true → after ≡ sets to at (first s)
    well-put after e w = e ∙ ap (sets to at) (first-well w)

    room : at + length (first s) ≤ length to → p.well ≡ false → at + 3 ≤ length to
    room r w = rw (← first_ill w) at r

    pub ill_room : at + length (first s) ≤ length to → p.well ≡ false → at < length to
    ill_room r w = omega (arith, room r w)

    pub ill_room_1 : at + length (first s) ≤ length to → p.well ≡ false → at + 1 < length (set to at 0xef)
    ill_room_1 r w = rw length-set (omega (arith, room r w))

    pub ill_room_2 : at + length (first s) ≤ length to → p.well ≡ false → at + 2 < length (set (set to at 0xef) (at + 1) 0xbf)
    ill_room_2 r w = rw (length-set, length-set) (omega (arith, room r w))

    pub ill_put : p.well ≡ false → set (set (set to at 0xef) (at + 1) 0xbf) (at + 2) 0xbd ≡ sets to at (first s)
    ill_put w =
        let a : at + 1 ≡ suc at = omega arith in
        let b : at + 2 ≡ suc (suc at) = omega arith in
        rw (a, b) (ap (sets to at) (first_ill w))

pub ruleset first_laws = (well-room, well-put, ill_room, ill_room_1, ill_room_2, ill_put)

-- ---- all pieces put into a buffer
pub record Putting (to to₀ s : List ℕ) (n i : ℕ) : Type 0 where
  pub in_s : i ≤ length s
  pub same : length to ≡ length to₀
  pub fill : sets to n (replaced (drop i s)) ≡ sets to₀ 0 (replaced s)
  pub size : n + length (replaced (drop i s)) ≡ length (replaced s)

pub all_start : (to s : List ℕ) → Putting to to s 0 0
all_start to s = record { in_s = omega arith; same = refl; fill = refl; size = omega arith }

module _ (to to₀ s : List ℕ) (n i : ℕ) (inv : Putting to to₀ s n i) where
  pub all_done : length s ≤ i → to ≡ sets to₀ 0 (replaced s)
  all_done h = rw (done s i h) at inv.fill

  module _ (p : Piece) (told : p ≡ cut (take (length s - i) (drop i s))) (h : i < length s) where
    pub all_room : length (replaced s) ≤ length to₀ → n + length (first (take (length s - i) (drop i s))) ≤ length to
    all_room r =
        let a : length (replaced (drop i s)) ≡ length (first (drop i s)) + length (replaced (drop (i + p.size) s)) = rw (here s i p told h, length-append) in
        rw (tail s i) (omega (arith, inv.size, inv.same))

    module _ (w : ℕ) (e : w ≡ cond p.well p.size 3) where
      pub all-fits : length (replaced s) ≤ length to₀ → length to₀ < 2 ^ 64 → Fits w64 (n + w)
      all-fits r f = omega (arith, both s i p told h w e, inv.size)

      pub all_more : (to' : List ℕ) → to' ≡ sets to n (first (take (length s - i) (drop i s))) → p.size ≤ length (take (length s - i) (drop i s))
          → Putting to' to₀ s (n + w) (i + p.size)
      all_more to' q b =
          let t : to' ≡ sets to n (first (drop i s)) = rw (tail s i) at q in
          record {
            in_s = size_in s i p.size b h;
            same = rw (t, length-sets) inv.same;
            fill = rw (t, wide s i p told h w e, ← sets-append to n (first (drop i s)) (replaced (drop (i + p.size) s)), ← here s i p told h) inv.fill;
            size = omega (arith, both s i p told h w e, inv.size);
          }

pub ruleset all_laws = (all_start, all_done, all_room, all-fits, all_more)

-- ---- the whole
pub trimmed_in : (s : List ℕ) (e : ℕ) → e ≤ length s → 3 * length s < 2 ^ 64 → 3 * length (take e s) < 2 ^ 64
trimmed_in s e h f = rw (length-take-le e s h) (omega arith)

module _ (s : List ℕ) (e : ℕ) (ends : take e s ≡ trim s) where
  is_shown : replaced (take e s) ≡ shown s
  is_shown = ap replaced ends ∙ sym (trim-first s)

  counted : (n : ℕ) → n ≡ length (replaced (take e s)) → n ≡ length (shown s)
  counted n q = q ∙ ap length is_shown

  pub whole_room : (n : ℕ) (to : List ℕ) → n ≡ length (replaced (take e s)) → n ≤ length to → length (replaced (take e s)) ≤ length to
  whole_room n to q h = omega arith

  pub whole-written : (n : ℕ) (to to' : List ℕ) → n ≡ length (replaced (take e s)) → n ≤ length to → to' ≡ sets to 0 (replaced (take e s))
      → Writes (shown s) to (Ok n) to'
  whole-written n to to' q h f = writes_room (shown s) to n (counted n q) to' (f ∙ ap (sets to 0) is_shown) h

  pub whole-longer : (n : ℕ) (to : List ℕ) → n ≡ length (replaced (take e s)) → length to < n → Writes (shown s) to (Err (MoreBytes n)) to
  whole-longer n to q h = writes_short (shown s) to n (counted n q) h

pub ruleset whole_laws = (trimmed_in, whole_room, whole-written, whole-longer)

pub ruleset laws = (front, end_laws, count_laws, first_laws, all_laws, whole_laws)
