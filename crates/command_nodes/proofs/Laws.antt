-- Laws of listing the nodes of a command's row. Assumes nothing.
use mathlib.Core.Path.{◌≡◌, refl, sym, ap, ◌∙◌}
use mathlib.Core.Bool.{Bool, true, false}
use mathlib.Core.List.{List, []}
use Prim.Native.Nat.{ℕ, ◌+◌, ◌-◌, ◌*◌, ◌/◌, ◌≤◌, ◌<◌}
use native.Mathlib.Omega.{arith}
use lib.ListN.{length}
use borrow.Author.Tests.{eq-eqb, ne_eqb, le-leb, lt-leb}
use Rattle.refusal.specs.declared.Refusal.{Refusal}
use Rattle.refusal.specs.declared.Refusal.TheVariants.{NoSuchField}
use Rattle.text.specs.Records.{Readable}
use Rattle.text.specs.declared.Place.{Place}
use Rattle.text.proofs.Reading.{readable-start, rest_end}
use Rattle.command_text.specs.Form.{Record, param, group, item, Detail, variant, array, bit_flag, bit_field, const, bitmask}
use Rattle.command_text.specs.Rules.{rules, verdict}
use Rattle.command_class.specs.Definition.{letter, letter_of, numbered, definition}
use Rattle.command_class.specs.Find.{from, IsRead, Says}
use Rattle.command_class.specs.declared.Read.{Read}
use Rattle.command_class.specs.declared.Row.{Row as Line}
use Rattle.command_rules.specs.Rows.{row_width}
use Rattle.command_rules.specs.declared.Offsets.{Offsets}
use Rattle.command_rules.specs.declared.Row.{Row}
use Rattle.command_rows.specs.Rows.{row_in}
use Rattle.command_row.specs.Answer.{row_by, row_of}
use Rattle.node_mask.specs.Nodes.{Lists}
use Rattle.node_mask.proofs.NodeLaws.{nodes_address}
use Rattle.command_nodes.specs.Fields.{type_said, type_read, type_among, param_type, is_typed, is_mask, mask_of}
use Rattle.command_nodes.specs.Answer.{RowNodes, LentNodes, of_found, left_by, CommandNodes}
use Rattle.std.specs.Prelude.{Option, Some, None, Result, Ok, Err}
use Rattle.command_text.specs.declared.ParamType.{ParamType}

-- ---- type_read
pub read_q : (r : Line) → r.kind ≡ 81 → Some r.typed ≡ type_read r
read_q r h = rw (eq-eqb r.kind 81 h)

pub read_other : (r : Line) → (r.kind ≡ 81 → ⊥) → None ≡ type_read r
read_other r h = rw (ne_eqb r.kind 81 h)

item_kind : (d : Detail) → letter_of d ≡ 81 → ⊥
item_kind (variant s) e = omega arith
item_kind (array length ascii) e = omega arith
item_kind (bit_flag mask name) e = omega arith
item_kind (bit_field b) e = omega arith
item_kind (const value name) e = omega arith
item_kind (bitmask length) e = omega arith

-- the numbers of a line tell its type
told_type : (x : Record) (r : Line) → r.kind ≡ letter x → Says x r → type_read r ≡ type_said x
told_type (param q) r k s = rw (eq-eqb r.kind 81 k, s.1)
told_type (group g) r k s = rw (ne_eqb r.kind 81 (λ e. omega arith))
told_type (item d) r k s = rw (ne_eqb r.kind 81 (λ e. item_kind d (sym k ∙ e)))

-- ---- param_type
pub record Typing (t : List ℕ) (k : ℕ) (p : Place) : Type 0 where
  pub readable : Readable rules t p
  pub so : type_among k (from t p) ≡ param_type t k

pub type_start : (t : List ℕ) (k : ℕ) (p : Place) → verdict t ≡ Ok tt → p ≡ record { at = 0; line = 1 } → Typing t k p
unfolding param_type
type_start t k p a e = rw e (record { readable = readable-start rules t _ a refl; so = refl })

pub type_end : (t : List ℕ) (k : ℕ) (p : Place) → Typing t k p → length t ≤ p.at → None ≡ param_type t k
type_end t k p g e = let q : from t p ≡ [] = ap (numbered p.line) (rest_end rules t p e) in sym (sym g.so ∙ rw q)

module _ (t : List ℕ) (k : ℕ) (p : Place) (r : Read) (g : Typing t k p) (is : IsRead t p r) where
  pub type_next : (p.line ≡ k → ⊥) → Typing t k r.next
  type_next h = record { readable = is.next; so = rw (is.lines, ne_eqb p.line k h) at g.so }

  pub type_hit : (x : Option ParamType) → x ≡ type_read r.row → p.line ≡ k → x ≡ param_type t k
  type_hit x e h =
      let here : type_among k (from t p) ≡ type_said is.said = rw (is.lines, eq-eqb p.line k h) refl in
      e ∙ told_type is.said r.row is.kind is.says ∙ sym here ∙ g.so

  pub type_less : p.at < length t → length t - r.next.at < length t - p.at
  type_less h = omega (arith, is.on)

-- ---- is_mask
module _ (t : List ℕ) (kind line : ℕ) where
  pub mask_kind : (kind ≡ 0 → ⊥) → false ≡ is_mask t kind line
  unfolding is_mask
  mask_kind h = rw (ne_eqb kind 0 h)

  pub mask-typed : (x : Option ParamType) (b : Bool) → x ≡ param_type t line → b ≡ is_typed x → kind ≡ 0 → b ≡ is_mask t kind line
  unfolding is_mask
  mask-typed x b e is h = rw (eq-eqb kind 0 h, ← e) is

-- ---- nodes_of_row
module _ (t payload : List ℕ) (row : Row) (k : ℕ) (table : List ℕ) (b : Bool) (is : b ≡ is_mask t row.kind row.line) where
  pub row-not : b ≡ false → RowNodes t payload row k table (Err (NoSuchField k)) table
  row-not e = record { answer = rw (← is, e) refl; leaves = refl }

  pub row_lists : (m : List ℕ) (r : Result ℕ Refusal) (table' : List ℕ) → m ≡ mask_of payload row → Lists m table r table' → b ≡ true
      → RowNodes t payload row k table r table'
  row_lists m r table' part l e = record { answer = rw (← is, e, ← part) l.answer; leaves = rw (← part) l.leaves }

-- ---- row_nodes
module _ (t payload rows : List ℕ) (k : ℕ) (table : List ℕ) (v : Result (Unit {0}) Refusal) (is : v ≡ verdict t) where
  pub lent-not : (y : Refusal) → v ≡ Err y → LentNodes t payload rows k table (Err y) table
  lent-not y e = let w : verdict t ≡ Err y = sym is ∙ e in record { answer = rw w refl; leaves = refl }

  module _ (e : v ≡ Ok tt) where
    accepted : verdict t ≡ Ok tt
    accepted = sym is ∙ e

    pub lent-past : length rows / row_width ≤ k → LentNodes t payload rows k table (Err (NoSuchField k)) table
    lent-past h = record { answer = rw (accepted, le-leb (length rows / row_width) k h) refl; leaves = refl }

    pub lent_row : (row : Row) (r : Result ℕ Refusal) (table' : List ℕ) → RowNodes t payload row k table r table' → row ≡ row_in rows k
        → k < length rows / row_width
        → LentNodes t payload rows k table r table'
    lent_row row r table' l is_row h =
        record { answer = rw (accepted, lt-leb (length rows / row_width) k h) (rw is_row at l.answer); leaves = rw is_row at l.leaves }

pub lent-inside : (rows : List ℕ) (k : ℕ) → k < length rows / row_width → k * row_width + row_width ≤ length rows
lent-inside rows k h = omega arith

-- ---- nodes_accepted: behind the row x that `row_accepted` answers
module _ (offsets : Offsets) (t payload : List ℕ) (k : ℕ) (table : List ℕ) (x : Result Row Refusal) (is : x ≡ row_by offsets (definition t) payload k)
    (a : verdict t ≡ Ok tt) where
  found_is : x ≡ row_of offsets t payload k
  unfolding row_of
  found_is = rw a is

  told : (r : Result ℕ Refusal) (table' : List ℕ) → r ≡ of_found t payload k (length table) x → table' ≡ left_by payload table r x
      → CommandNodes offsets t payload k table r table'
  told r table' e l =
      record { answer = rw (← found_is) e; leaves = rw (← found_is) l; lists = λ row h. nodes_address (mask_of payload row) }

  pub told-refused : (y : Refusal) → x ≡ Err y → CommandNodes offsets t payload k table (Err y) table
  told-refused y e = told _ _ (rw e refl) (rw e refl)

  pub told-row : (row : Row) (r : Result ℕ Refusal) (table' : List ℕ) → RowNodes t payload row k table r table' → x ≡ Ok row
      → CommandNodes offsets t payload k table r table'
  told-row row r table' l e = told r table' (rw e l.answer) (rw e l.leaves)

-- ---- command_nodes
pub told-not : (offsets : Offsets) (t payload : List ℕ) (k : ℕ) (table : List ℕ) (v : Result (Unit {0}) Refusal) (y : Refusal) → v ≡ verdict t → v ≡ Err y
    → CommandNodes offsets t payload k table (Err y) table
unfolding row_of
told-not offsets t payload k table v y is e =
    let w : verdict t ≡ Err y = sym is ∙ e in
    record { answer = rw w refl; leaves = rw w refl; lists = λ row h. nodes_address (mask_of payload row) }

pub told-judged : (t : List ℕ) (v : Result (Unit {0}) Refusal) → v ≡ verdict t → v ≡ Ok tt → verdict t ≡ Ok tt
told-judged t v is e = sym is ∙ e

pub ruleset laws = (
  read_q,
  read_other,
  type_start,
  type_end,
  type_next,
  type_hit,
  type_less,
  mask_kind,
  mask-typed,
  row-not,
  row_lists,
  lent-not,
  lent-past,
  lent_row,
  lent-inside,
  told-refused,
  told-row,
  told-not,
  told-judged,
)
