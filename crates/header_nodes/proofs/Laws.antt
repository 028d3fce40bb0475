-- Laws of listing the nodes of a header's row. Assumes nothing.
use mathlib.Core.Path.{◌≡◌, refl, sym, ◌∙◌}
use mathlib.Core.Bool.{Bool, true, false}
use mathlib.Core.List.{List}
use Prim.Native.Nat.{ℕ, ◌+◌, ◌*◌, ◌/◌, ◌%◌, ◌≤◌, ◌<◌}
use native.Mathlib.Omega.{arith}
use lib.ListN.{length, take, drop, replicate, length-replicate}
use borrow.Author.Tests.{eq-eqb, ne_eqb, le-leb, lt-leb}
use Rattle.refusal.specs.declared.Refusal.{Refusal}
use Rattle.refusal.specs.declared.Refusal.TheVariants.{NoSuchField}
use Rattle.frame_text.specs.Rules.{verdict}
use Rattle.header_rules.specs.Table.{row_width, cell, number_column, start_column, bits_column}
use Rattle.header.specs.declared.DecodedHeader.{DecodedHeader}
use Rattle.header.specs.Decode.{Within, number_in, Decodes}
use Rattle.header.proofs.Room.{header-stands}
use Rattle.node_mask.specs.Nodes.{Lists, nodes_after}
use Rattle.node_mask.proofs.NodeLaws.{nodes_address}
use Rattle.header_nodes.specs.Fields.{param_type, is_typed, is_mask, mask_at}
use Rattle.header_nodes.specs.Answer.{RowNodes, LentNodes, answer_of, rows_of, of_decoded, HeaderNodes}
use Rattle.std.specs.Prelude.{Option, Result, Ok, Err}
use Rattle.frame_text.specs.declared.ParamType.{ParamType}

-- ---- is_mask
module _ (t : List ℕ) (number start bits : ℕ) where
  pub mask_start : (start % 8 ≡ 0 → ⊥) → false ≡ is_mask t number start bits
  unfolding is_mask
  mask_start h = rw (ne_eqb (start % 8) 0 h)

  pub mask_bits : start % 8 ≡ 0 → (bits % 8 ≡ 0 → ⊥) → false ≡ is_mask t number start bits
  unfolding is_mask
  mask_bits s h = rw (eq-eqb (start % 8) 0 s, ne_eqb (bits % 8) 0 h)

  pub mask-typed : (x : Option ParamType) (b : Bool) → x ≡ param_type t number → b ≡ is_typed x → start % 8 ≡ 0 → bits % 8 ≡ 0
      → b ≡ is_mask t number start bits
  unfolding is_mask
  mask-typed x b e is s h = rw (eq-eqb (start % 8) 0 s, eq-eqb (bits % 8) 0 h, ← e) is

-- ---- nodes_of_row
module _ (t d rows : List ℕ) (k : ℕ) (table : List ℕ) (b : Bool)
    (is : b ≡ is_mask t (cell rows k number_column) (cell rows k start_column) (cell rows k bits_column)) where
  pub row-not : b ≡ false → RowNodes t d rows k table (Err (NoSuchField k)) table
  row-not e = record { answer = rw (← is, e) refl; leaves = refl }

  pub row_lists : (m : List ℕ) (r : Result ℕ Refusal) (table' : List ℕ) → m ≡ take (cell rows k bits_column / 8) (drop (cell rows k start_column / 8) d)
      → Lists m table r table' → b ≡ true
      → RowNodes t d rows k table r table'
  row_lists m r table' part l e = record { answer = rw (← is, e, ← part) l.answer; leaves = rw (← part) l.leaves }

-- ---- row_nodes
module _ (t d rows : List ℕ) (k : ℕ) (table : List ℕ) (v : Result (Unit {0}) Refusal) (is : v ≡ verdict t) where
  pub lent-not : (y : Refusal) → v ≡ Err y → LentNodes t d rows k table (Err y) table
  lent-not y e = let w : verdict t ≡ Err y = sym is ∙ e in record { answer = rw w refl; leaves = refl }

  module _ (e : v ≡ Ok tt) where
    accepted : verdict t ≡ Ok tt
    accepted = sym is ∙ e

    pub lent-past : length rows / row_width ≤ k → LentNodes t d rows k table (Err (NoSuchField k)) table
    lent-past h = record { answer = rw (accepted, le-leb (length rows / row_width) k h) refl; leaves = refl }

    pub lent_row : (r : Result ℕ Refusal) (table' : List ℕ) → RowNodes t d rows k table r table' → k < length rows / row_width
        → LentNodes t d rows k table r table'
    lent_row r table' l h = record { answer = rw (accepted, lt-leb (length rows / row_width) k h) l.answer; leaves = l.leaves }

pub lent-inside : (rows : List ℕ) (k : ℕ) → k < length rows / row_width → k * row_width + row_width ≤ length rows
lent-inside rows k h = omega arith

-- ---- nodes_accepted: behind `decode_header`'s answer x and its rows
module _ (t d : List ℕ) (region speed : ℕ) (x : Result DecodedHeader Refusal) (rows : List ℕ) (dec : Decodes t d region speed (replicate {A = ℕ} 896 0) x rows) where
  answer_is : x ≡ answer_of t d region speed
  unfolding answer_of
  answer_is = dec.answer

  rows_are : rows ≡ rows_of t d region speed
  unfolding rows_of
  rows_are = rw dec.answer at dec.rows

  eight : Within t d → number_in (answer_of t d region speed) ≡ 8 → ⊥
  eight w e = (dec.by_readings w).enough (rw (length-replicate {A = ℕ} 896 0) (omega arith)) (rw (answer_is) e)

  module _ (k : ℕ) (table : List ℕ) where
    told : (r : Result ℕ Refusal) (table' : List ℕ) → r ≡ of_decoded t d rows k (length table) x → table' ≡ nodes_after (mask_at d rows k) table r
        → HeaderNodes t d region speed k table r table'
    told r table' e l =
        record {
          answer = rw (← rows_are, ← answer_is) e;
          leaves = rw (← rows_are) l;
          lists = nodes_address (mask_at d (rows_of t d region speed) k);
          enough = eight;
        }

    pub told-refused : (y : Refusal) → x ≡ Err y → HeaderNodes t d region speed k table (Err y) table
    told-refused y is = told _ _ (rw is refl) refl

    module _ (h : DecodedHeader) (is : x ≡ Ok h) where
      pub told-past : h.rows ≤ k → HeaderNodes t d region speed k table (Err (NoSuchField k)) table
      told-past past = told _ _ (rw (is, le-leb h.rows k past) refl) refl

      pub told-row : (r : Result ℕ Refusal) (table' : List ℕ) → RowNodes t d rows k table r table' → k < h.rows
          → HeaderNodes t d region speed k table r table'
      told-row r table' l inside = told r table' (rw (is, lt-leb h.rows k inside) l.answer) l.leaves

      pub row_inside : k < h.rows → length rows ≡ 896 → k * row_width + row_width ≤ length rows
      row_inside inside long =
          let s : h.rows * row_width ≤ 896 = rw (is, length-replicate {A = ℕ} 896 0) at
          (header-stands t d region speed (replicate {A = ℕ} 896 0) x rows dec) in
          omega arith

-- ---- header_nodes
pub told-not : (t d : List ℕ) (region speed k : ℕ) (table : List ℕ) (v : Result (Unit {0}) Refusal) (y : Refusal) → v ≡ verdict t → v ≡ Err y
    → HeaderNodes t d region speed k table (Err y) table
unfolding answer_of
told-not t d region speed k table v y is e =
    let w : verdict t ≡ Err y = sym is ∙ e in
    record {
      answer = rw w refl;
      leaves = refl;
      lists = nodes_address (mask_at d (rows_of t d region speed) k);
      enough = λ i. absurd (let z : ◌≡◌ {A = ℕ} 0 1 = (let u : Err y ≡ (Ok tt) = sym w ∙ i.accepted in cc) in omega arith);
    }

pub told-judged : (t : List ℕ) (v : Result (Unit {0}) Refusal) → v ≡ verdict t → v ≡ Ok tt → verdict t ≡ Ok tt
told-judged t v is e = sym is ∙ e

pub ruleset laws = (
  mask_start,
  mask_bits,
  mask-typed,
  row-not,
  row_lists,
  lent-not,
  lent-past,
  lent_row,
  lent-inside,
  told-refused,
  told-past,
  told-row,
  row_inside,
  told-not,
  told-judged,
)
