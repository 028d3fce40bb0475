-- Laws of a Q's bit children. Assumes nothing.
use mathlib.Core.Path.{◌≡◌, refl, sym, ap, ◌∙◌}
use mathlib.Core.Bool.{Bool, true, false}
use mathlib.Core.List.{List, [], ◌∷◌}
use Prim.Native.Nat.{ℕ, suc, ◌+◌, ◌-◌, ◌≤◌, ◌<◌}
use native.Mathlib.Nat.{zero-add}
use native.Mathlib.Decide.{dec_lt}
use native.Mathlib.Omega.{arith}
use lib.Bits.{bit_and}
use lib.ListN.{length}
use borrow.Author.Tests.{eq-eqb, ne_eqb}
use Rattle.text.specs.Records.{Readable}
use Rattle.text.specs.declared.Place.{Place}
use Rattle.text.proofs.Reading.{rest_end}
use Rattle.command_text.specs.Form.{Record, param, group, item, variant, array, bit_flag, bit_field, const, bitmask}
use Rattle.command_text.specs.Rules.{begins, rules}
use Rattle.command_class.specs.Definition.{Item, numbered, under, letter, of_item}
use Rattle.command_class.specs.Find.{from, among, Says, IsRead}
use Rattle.command_class.specs.declared.Row.{Row as Line}
use Rattle.command_class.specs.declared.Read.{Read}
use Rattle.command_class.proofs.Finding.{among_laws}
use Rattle.command_rules.specs.Lengths.{masked}
use Rattle.command_schema.specs.Loaded.{after, Stands}
use Rattle.command_schema.specs.declared.Loaded.{Loaded}
use Rattle.command_rows.specs.Rows.{written, Writes}
use Rattle.command_rules.specs.declared.Row.{Row}
use Rattle.command_rows.proofs.Laws.{written_none, length-written, written-more}
use Rattle.command_rules.proofs.Children.{bits_count}
use Rattle.command_rules.specs.Param.{bit_value, bit_row, bit_rows}
use Rattle.command_param.specs.Steps.{bit_number}
use Rattle.std.specs.Prelude.{Some, None}

-- ---- a line
module _ (b : ℕ) (l : Line) where
  pub bit-other : (r : ℕ) → r ≡ masked b l.mask (record { 0 = l.shift }) → (l.kind ≡ 84 → ⊥) → r ≡ bit_number b l
  bit-other r e h = rw (ne_eqb l.kind 84 h) e

  pub bit_clear : l.kind ≡ 84 → bit_and b l.mask ≡ 0 → 0 ≡ bit_number b l
  bit_clear h e = rw (eq-eqb l.kind 84 h, eq-eqb (bit_and b l.mask) 0 e)

  pub bit-set : l.kind ≡ 84 → (bit_and b l.mask ≡ 0 → ⊥) → 1 ≡ bit_number b l
  bit-set h e = rw (eq-eqb l.kind 84 h, ne_eqb (bit_and b l.mask) 0 e)

pub bit-row_is : (b number parent start v : ℕ) (l : Line) → v ≡ bit_number b l
    → ◌≡◌ {A = Row} (record {
      kind = 1;
      line = number;
      parent = parent;
      start = start;
      end = start + 1;
      valued = 1;
      value = v;
      named = 0;
      number = 0;
      lacking = 0;
    })
    (bit_row number parent start (bit_number b l))
bit-row_is b number parent start v l e = rw e refl

pub ruleset line_laws = (bit-other, bit_clear, bit-set, bit-row_is, among_laws)

-- what a line says, by its numbers
bit-said : (b : ℕ) (x : Record) (l : Line) → l.kind ≡ letter x → Says x l → among 84 83 83 l.kind ≡ true
    → of_item (bit_value b) x ≡ Some (bit_number b l)
bit-said b (param q) l k s h = absurd (let z : ◌≡◌ {A = Bool} false true = rw k at h in let w : ◌≡◌ {A = ℕ} 0 1 = cc in omega arith)
bit-said b (group g) l k s h = absurd (let z : ◌≡◌ {A = Bool} false true = rw k at h in let w : ◌≡◌ {A = ℕ} 0 1 = cc in omega arith)
bit-said b (item (variant v)) l k s h = absurd (let z : ◌≡◌ {A = Bool} false true = rw k at h in let w : ◌≡◌ {A = ℕ} 0 1 = cc in omega arith)
bit-said b (item (array n a)) l k s h = absurd (let z : ◌≡◌ {A = Bool} false true = rw k at h in let w : ◌≡◌ {A = ℕ} 0 1 = cc in omega arith)
bit-said b (item (bit_flag m n)) l k s h = rw (k, s) refl
bit-said b (item (bit_field f)) l k s h = rw (k, s.0, s.1) refl
bit-said b (item (const v n)) l k s h = absurd (let z : ◌≡◌ {A = Bool} false true = rw k at h in let w : ◌≡◌ {A = ℕ} 0 1 = cc in omega arith)
bit-said b (item (bitmask n)) l k s h = absurd (let z : ◌≡◌ {A = Bool} false true = rw k at h in let w : ◌≡◌ {A = ℕ} 0 1 = cc in omega arith)

no-bit-said : (b : ℕ) (x : Record) (l : Line) → l.kind ≡ letter x → among 84 83 83 l.kind ≡ false → of_item (bit_value b) x ≡ None
no-bit-said b (param q) l k h = refl
no-bit-said b (group g) l k h = refl
no-bit-said b (item (variant v)) l k h = refl
no-bit-said b (item (array n a)) l k h = refl
no-bit-said b (item (bit_flag m n)) l k h = absurd (let z : ◌≡◌ {A = Bool} true false = rw k at h in let w : ◌≡◌ {A = ℕ} 0 1 = cc in omega arith)
no-bit-said b (item (bit_field f)) l k h = absurd (let z : ◌≡◌ {A = Bool} true false = rw k at h in let w : ◌≡◌ {A = ℕ} 0 1 = cc in omega arith)
no-bit-said b (item (const v n)) l k h = refl
no-bit-said b (item (bitmask n)) l k h = refl

pub none_of : (rs : List Row) → length rs ≡ 0 → rs ≡ []
none_of [] h = refl
none_of (r ∷ rs) h = absurd (omega arith)

-- ---- decode_bits: the rows still to come, from the place p on
pub record Children (t : List ℕ) (p₀ : Place) (b parent start total s : ℕ) (d₀ d : List ℕ) (p : Place) (k : ℕ) : Type 0 where
  pub readable : Readable rules t p
  pub rows : written s d k (bit_rows b parent start (under (from t p))) ≡ written s d₀ 0 (bit_rows b parent start (under (from t p₀)))
  pub count : k + length (bit_rows b parent start (under (from t p))) ≡ total
  pub all : total ≡ length (bit_rows b parent start (under (from t p₀)))
  pub few : total < 65536
  pub same : length d ≡ length d₀

module _ (t : List ℕ) (q : Loaded) (b parent start s : ℕ) (stands : Stands t q) where
  pub total_is : q.bits ≡ length (bit_rows b parent start (under (from t (after q))))
  total_is = stands.bits ∙ sym (bits_count b parent start (under (from t (after q))))

  pub children_start : (d : List ℕ) (p : Place) → p ≡ after q → q.bits < 65536 → Children t p b parent start q.bits s d d p 0
  children_start d p e h =
      rw e
      (record {
        readable = stands.readable;
        rows = refl;
        count = rw zero-add (sym total_is);
        all = total_is;
        few = h;
        same = refl;
      })

module _ (t : List ℕ) (p₀ : Place) (b parent start total s : ℕ) (d₀ d : List ℕ) (p : Place) (k : ℕ)
    (g : Children t p₀ b parent start total s d₀ d p k) where
  pub children_done : (q : Loaded) → p₀ ≡ after q → total ≤ k → Writes s d₀ 0 (bit_rows b parent start (under (from t (after q)))) d total
  children_done q e h =
      let c = g.count in
      let none_left : bit_rows b parent start (under (from t p)) ≡ [] = none_of (bit_rows b parent start (under (from t p))) (omega arith) in
      let is : from t p₀ ≡ from t (after q) = ap (from t) e in
      rw (← is) (record { rows = sym (written_none s d k) ∙ (rw none_left at g.rows); count = g.all })

  module _ (more : k < total) where
    some_left : under (from t p) ≡ [] → ⊥
    unfolding bit_rows
    some_left e = let c = g.count in let z : length (bit_rows b parent start (under (from t p))) ≡ 0 = rw e refl in omega arith

    pub children_inside : p.at < length t
    children_inside = go (dec_lt p.at (length t))
      where
        go : Dec (p.at < length t) → p.at < length t
        go (yes h) = h
        go (no h) = absurd (some_left (ap (λ (is : List Item). under is) (ap (numbered p.line) (rest_end rules t p (omega arith)))))

    module _ (read : Read) (is_read : IsRead t p read) where
      not-ended : begins is_read.said ≡ false
      not-ended = go (begins is_read.said) refl
        where
          go : (x : Bool) → begins is_read.said ≡ x → x ≡ false
          go true e = absurd (some_left (rw (is_read.lines, e) refl))
          go false e = refl

      under_is : under (from t p) ≡ record { line = p.line; says = is_read.said } ∷ under (from t read.next)
      under_is = rw (is_read.lines, not-ended) refl

      pub children_less : length t - read.next.at < length t - p.at
      children_less = let a = is_read.on in let c = is_read.next.inn.at_in in omega arith

      module _ (x : Bool) (is_x : x ≡ among 84 83 83 read.row.kind) where
        -- another line
        pub children_pass : x ≡ false → Children t p₀ b parent start total s d₀ d read.next k
        unfolding bit_rows
        children_pass f =
            let same_rows : bit_rows b parent start (under (from t p)) ≡ bit_rows b parent start (under (from t read.next)) =
            rw (under_is, no-bit-said b is_read.said read.row is_read.kind (sym is_x ∙ f)) refl in
            record {
              readable = is_read.next;
              rows = rw same_rows at g.rows;
              count = rw same_rows at g.count;
              all = g.all;
              few = g.few;
              same =
                  g.same;
            }

        -- a T or S
        module _ (row : Row) (d' : List ℕ) (is_row : row ≡ bit_row p.line parent start (bit_number b read.row))
            (wrote : d' ≡ written s d k (row ∷ [])) where
          pub children_more : x ≡ true → Children t p₀ b parent start total s d₀ d' read.next (k + 1)
          unfolding bit_rows
          children_more f =
              let one_more : bit_rows b parent start (under (from t p)) ≡ row ∷ bit_rows b parent start (under (from t read.next)) =
              rw (under_is, bit-said b is_read.said read.row is_read.kind is_read.says (sym is_x ∙ f), is_row) refl in
              let c : k + suc (length (bit_rows b parent start (under (from t read.next)))) ≡ total = rw one_more at g.count in
              let r : written s d k (row ∷ bit_rows b parent start (under (from t read.next)))
              ≡ written s d₀ 0 (bit_rows b parent start (under (from t p₀))) = rw one_more at g.rows in
              record {
                readable = is_read.next;
                rows = rw wrote (written-more s d k (row ∷ []) (bit_rows b parent start (under (from t read.next))) (k + 1) refl ∙ r);
                count = omega arith;
                all = g.all;
                few = g.few;
                same = rw (wrote, length-written) g.same;
              }

pub ruleset children_laws = (children_start, children_done, children_inside, children_less, children_pass, children_more)
