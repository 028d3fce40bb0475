-- Laws of plain form. Assumes nothing.
use mathlib.Core.Path.{◌≡◌, refl, sym, ap, ◌∙◌}
use mathlib.Core.Bool.{Bool, true, false, cond, not}
use mathlib.Core.List.{List, [], ◌∷◌}
use Prim.Native.Nat.{ℕ, suc, ◌+◌, ◌-◌, ◌≤◌, ◌<◌}
use native.Mathlib.Omega.{arith}
use native.Mathlib.Numerals.{add-one}
use lib.Dec.{eqb, leb}
use lib.ListN.{length, take, drop, length-drop}
use lib.Seq.{drop-drop}
use borrow.Author.Tests.{ne_eqb}
use Rattle.laws.proofs.Lists.{tail}
use Rattle.text.specs.Text.{lines, fields}
use Rattle.text.specs.Scan.{cut}
use Rattle.text.specs.Place.{kind_of}
use Rattle.text.proofs.Laws.{split-last, split-more, front_count}
use Rattle.text.proofs.Judging.{split_some}
use Rattle.plain_form.specs.PlainForm.{stands, farther, misplaced, out_of_order}

-- ---- by the letter
module _ (far letter : ℕ) where
  pub stands_f : letter ≡ 0x46 → (b : Bool) → b ≡ eqb far 0 → b ≡ stands far letter
  stands_f e b q = rw (e, q)

  pub stands_b : letter ≡ 0x42 → (b : Bool) → b ≡ leb far 1 → b ≡ stands far letter
  stands_b e b q = rw (e, q)

  pub stands_h : letter ≡ 0x48 → (b : Bool) → b ≡ leb far 3 → b ≡ stands far letter
  stands_h e b q = rw (e, q)

  pub stands_p : letter ≡ 0x50 → (b : Bool) → b ≡ not (eqb far 3) → b ≡ stands far letter
  stands_p e b q = rw (e, q)

  pub stands_else : (letter ≡ 0x46 → ⊥) → (letter ≡ 0x42 → ⊥) → (letter ≡ 0x48 → ⊥) → (letter ≡ 0x50 → ⊥)
      → true ≡ stands far letter
  stands_else f b h p = rw (ne_eqb letter 0x46 f, ne_eqb letter 0x42 b, ne_eqb letter 0x48 h, ne_eqb letter 0x50 p)

  pub farther_f : letter ≡ 0x46 → 0 ≡ farther far letter
  farther_f e = rw e

  pub farther-b : letter ≡ 0x42 → 1 ≡ farther far letter
  farther-b e = rw e

  pub farther_h : letter ≡ 0x48 → 2 ≡ farther far letter
  farther_h e = rw e

  pub farther_v : letter ≡ 0x56 → 3 ≡ farther far letter
  farther_v e = rw e

  pub farther_d : letter ≡ 0x44 → 4 ≡ farther far letter
  farther_d e = rw e

  pub farther_else : (letter ≡ 0x46 → ⊥) → (letter ≡ 0x42 → ⊥) → (letter ≡ 0x48 → ⊥) → (letter ≡ 0x56 → ⊥) → (letter ≡ 0x44
      → ⊥) → far ≡ farther far letter
  farther_else f b h v d = rw (ne_eqb letter 0x46 f, ne_eqb letter 0x42 b, ne_eqb letter 0x48 h, ne_eqb letter 0x56 v, ne_eqb letter 0x44 d)

-- ---- line by line
pub record Sofar (t : List ℕ) (at line far : ℕ) : Type 0 where
  pub inside : at ≤ length t
  pub low : line ≤ at + 1
  pub some : 0 < line
  pub same : misplaced far line (lines (drop at t)) ≡ out_of_order t

pub sofar_start : (t : List ℕ) → Sofar t 0 1 0
sofar_start t = record { inside = omega arith; low = omega arith; some = omega arith; same = refl }

misplaced_line : (far n : ℕ) (l : List ℕ) (ms : List (List ℕ)) → (ms ≡ [] → ⊥)
    → misplaced far n (l ∷ ms) ≡ cond (stands far (kind_of (fields l))) (misplaced (farther far (kind_of (fields l))) (suc n) ms) n
misplaced_line far n l [] h = absurd (h refl)
misplaced_line far n l (m ∷ ms) h = refl

module _ (t : List ℕ) (at line far e : ℕ) (inv : Sofar t at line far) (is : e ≡ cut 10 (take (length t - at) (drop at t))) where
  e_is : e ≡ cut 10 (drop at t)
  e_is = is ∙ ap (cut 10) (tail t at)

  pub order_end : e ≡ length (take (length t - at) (drop at t)) → out_of_order t ≡ 0
  order_end h =
      let l : cut 10 (drop at t) ≡ length (drop at t) = sym e_is ∙ h ∙ ap length (tail t at) in
      let w : misplaced far line (drop at t ∷ []) ≡ out_of_order t = rw (split-last 10 (drop at t) l) at inv.same in
      sym w

  module _ (in_e : e ≤ length (take (length t - at) (drop at t))) (more : e ≡ length (take (length t - at) (drop at t)) → ⊥) (letter : ℕ)
      (is-letter : letter ≡ kind_of (fields (take e (take (length t - at) (drop at t))))) where
    inside : e < length (drop at t)
    inside = omega (arith, ap length (tail t at), in_e, more)

    line_is : lines (drop at t) ≡ take e (drop at t) ∷ lines (drop (e + 1) (drop at t))
    line_is = rw e_is (split-more 10 (drop at t) (rw (← e_is) inside))

    letter_is : letter ≡ kind_of (fields (take e (drop at t)))
    letter_is = rw tail at is-letter

    by_letter : cond (stands far letter) (misplaced (farther far letter) (suc line) (lines (drop (e + 1) (drop at t)))) line ≡ out_of_order t
    by_letter =
        rw letter_is
        (sym (misplaced_line far line (take e (drop at t)) (lines (drop (e + 1) (drop at t))) (split_some 10 (drop (e + 1) (drop at t))))
        ∙ ap (misplaced far line) (sym line_is) ∙ inv.same)

    pub order-not : (b : Bool) → b ≡ stands far letter → b ≡ false → (out_of_order t ≡ line) × (0 < line)
    order-not b q n = (let w : line ≡ out_of_order t = rw (sym q ∙ n) at by_letter in sym w, inv.some)

    pub order-more : (b : Bool) (next : ℕ) → b ≡ stands far letter → b ≡ true → next ≡ farther far letter → Sofar t (at + e + 1) (line + 1) next
    order-more b next q y f =
        let w : misplaced (farther far letter) (suc line) (lines (drop (e + 1) (drop at t))) ≡ out_of_order t = rw (sym q ∙ y) at by_letter in
        let z : at + (e + 1) ≡ at + e + 1 = omega arith in
        record {
          inside = omega (arith, inside, length-drop at t);
          low = omega (arith, inv.low);
          some = omega arith;
          same = rw (f, add-one line, ← z, ← drop-drop (e + 1) at t) w;
        }

pub ruleset laws = (
  stands_f,
  stands_b,
  stands_h,
  stands_p,
  stands_else,
  farther_f,
  farther-b,
  farther_h,
  farther_v,
  farther_d,
  farther_else,
  sofar_start,
  order_end,
  order-not,
  order-more,
  front_count,
)
