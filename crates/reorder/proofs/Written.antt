-- Any order of the H blocks of an accepted text is that of an accepted text. Assumes nothing.
use mathlib.Core.Path.{◌≡◌, refl, ap, ◌∙◌}
use mathlib.Core.Bool.{Bool, true, false, cond, not, ◌&&◌}
use mathlib.Core.List.{List, [], ◌∷◌, ◌++◌, map}
use Prim.Native.Nat.{ℕ, ◌≤◌}
use native.Mathlib.Omega.{arith}
use lib.Dec.{eqb}
use lib.ListN.{length}
use Rattle.text.specs.Text.{split, lines, without}
use Rattle.text.specs.Text as text
use Rattle.text.specs.Print.{Every}
use Rattle.text.proofs.Printing.{split-joined}
use Rattle.frame_text.specs.Rules.{verdict}
use Rattle.reorder.specs.Moved.{Moved}
use Rattle.reorder.specs.Blocks.{Section, gap, blocks, lines_of, ended, Line, Has, written, says_of, sections_of}
use Rattle.reorder.specs.Reorder.{Reordered}
use Rattle.reorder.proofs.Moved.{every_both}
use Rattle.reorder.proofs.Places.{lines-moved}
use Rattle.reorder.proofs.Accepted.{same_length, accepted-after}
use Rattle.std.specs.Prelude.{Ok}

-- ---- no line end stands in a line
abbrev Clear : Line → Type 0
Clear l = without 0x0a l ≡ true

onto_clear : (x : ℕ) (ps : List Line) → eqb x 0x0a ≡ false → Every Clear ps → Every Clear (text.onto x ps)
onto_clear x [] e a = (ap (λ (b : Bool). not b && true) e, tt)
onto_clear x (p ∷ ps) e a = (ap (λ (b : Bool). not b && without 0x0a p) e ∙ a.0, a.1)

split_clear : (l : List ℕ) → Every Clear (split 0x0a l)
split_clear [] = (refl, tt)
split_clear (x ∷ xs) = go (eqb x 0x0a) refl (split_clear xs)
  where
    go : (b : Bool) → eqb x 0x0a ≡ b → Every Clear (split 0x0a xs) → Every Clear (cond b ([] ∷ split 0x0a xs) (text.onto x (split 0x0a xs)))
    go true e ih = (refl, ih)
    go false e ih = onto_clear x (split 0x0a xs) e ih

ended_clear : (ls : List Line) → Every Clear ls → Every Clear (ended ls)
ended_clear [] a = tt
ended_clear (l ∷ []) a = tt
ended_clear (l ∷ m ∷ ms) a = (a.0, ended_clear (m ∷ ms) a.1)

-- ---- the text of lines
some_line : (ls : List Line) → 1 ≤ length (ls ++ ([] ∷ []))
some_line [] = omega arith
some_line (l ∷ ls) = omega arith

written_has : (ls : List Line) → Every Clear ls → Has (written ls) ls
written_has ls a = split-joined 0x0a (ls ++ ([] ∷ [])) (some_line ls) (every_both Clear ls ([] ∷ []) a (refl, tt))

-- ---- a text for any order
pub record Text (t : List ℕ) (order : List (Section Line)) (t' : List ℕ) : Type 0 where
  pub reordered : Reordered t t'
  pub by_order : reordered.order ≡ order
  pub accepted : verdict t' ≡ Ok tt
  pub long : length t' ≡ length t

module _ (t : List ℕ) (v : verdict t ≡ Ok tt) (order : List (Section Line)) (others : map (gap says_of) (sections_of t) ≡ map (gap says_of) order)
    (moved : Moved (blocks says_of (sections_of t)) (blocks says_of order)) where
  is_reordered : Reordered t (written (lines_of says_of order))
  is_reordered =
      record {
        order = order;
        others = others;
        moved = moved;
        has =
            written_has (lines_of says_of order)
            (lines-moved says_of Clear (ended (lines t)) 0 0 order others moved (ended_clear (lines t) (split_clear t)));
      }

  pub any_order : Text t order (written (lines_of says_of order))
  unfolding is_reordered
  any_order =
      record {
        reordered = is_reordered;
        by_order = refl;
        accepted = accepted-after t (written (lines_of says_of order)) is_reordered v;
        long = same_length t (written (lines_of says_of order)) is_reordered v;
      }
