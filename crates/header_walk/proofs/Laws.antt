-- Laws by which the field reader, the inner-list reader and the outer list meet their contracts. Assumes nothing.
use mathlib.Core.Path.{◌≡◌, refl, sym, ap, ◌∙◌}
use mathlib.Core.Bool.{Bool, true, false, cond}
use mathlib.Core.List.{List, [], ◌∷◌, ◌++◌}
use Prim.Native.Nat.{ℕ, zero, suc, ◌+◌, ◌-◌, ◌*◌, ◌≤◌, ◌<◌}
use native.Mathlib.Numerals.{sub-one}
use native.Mathlib.Omega.{arith}
use lib.ListN.{length, take, length-append}
use lib.Seq.{take-append_seam}
use mir.Syntax.{w64}
use mir.Val.{Fits}
use borrow.Author.Tests.{le-leb, lt-leb}
use Rattle.frame_text.specs.Form.{Param}
use Rattle.frame_definition.specs.Definition.{Numbered}
use Rattle.header_fields.specs.Fields.{level_in, param_at, fields_in}
use Rattle.header_rules.specs.Rows.{Row}
use Rattle.header_rules.specs.Flat.{row_at, flat_width, flat_exists, flat_field, flat_packed, flat_listed}
use Rattle.header_rules.specs.Flat as flat
use Rattle.header_rules.specs.Loaded.{line_of, name_of, inside_of, inner_of, outer_from, walked_from}
use Rattle.header_rules.specs.Span.{extent_at, extents_at}
use Rattle.header_rules.proofs.Span.{Grows, grow_length, inside_extents, outer_extents, field_grows, walked_grows}
use Rattle.header_paths.specs.Scratch.{scratch_width, rows_in}
use Rattle.header_paths.specs.declared.order.Next.{Next}
use Rattle.header_paths.specs.Order.{list_from, IsNext}
use Rattle.header_paths.proofs.Fields.{said_in, fields-length}
use Rattle.header_paths.proofs.Scratch.{length-rows_in, rows_in-take}
use Rattle.header_paths.proofs.Choice.{rest, from_zero, Chosen, chosen, none_left}
use Rattle.header_walk.specs.declared.Walked.{Walked}
use Rattle.header_walk.specs.Walk.{Holds, Walks}
use Rattle.header_walk.specs.Steps.{Laid, Absent, Lays, field_done, field_read, inner_done, Reads, Fills}
use Rattle.header_walk.proofs.Exists.{exists-within}
use Rattle.std.specs.Prelude.{Option, Some, None}

-- ---- the flat walk of loaded lines, shortly

abbrev packed : List Numbered → List ℕ → (ℕ → ℕ → List Row → List Row) → List ℕ → ℕ → ℕ → List Row → List Row
packed ps d after js end room done = flat_packed (line_of ps) (inside_of ps) (name_of ps) d after js end room done

abbrev there : List Numbered → List ℕ → ℕ → ℕ → ℕ → List Row → Bool
there ps d i s p done = flat_exists (line_of ps) (inside_of ps) (name_of ps) d i s p done

abbrev wide : List Numbered → List ℕ → ℕ → ℕ → List Row → ℕ
wide ps d i p done = flat_width (line_of ps) (inside_of ps) (name_of ps) d i p done

abbrev with_row : List Numbered → List ℕ → ℕ → ℕ → ℕ → List Row → List Row
with_row ps d i s p done = done ++ (row_at d i p s (wide ps d i p done) ∷ [])

abbrev listed : List Numbered → List ℕ → List ℕ → ℕ → List Row → flat.Walked
listed ps d js s done = flat_listed (line_of ps) (inside_of ps) (name_of ps) d 7 js s done

-- ---- one field

module _ (ps : List Numbered) (d : List ℕ) (left i s p : ℕ) (done : List Row) where
  done_none : there ps d i s p done ≡ false → field_done ps d left i s p done ≡ done
  unfolding flat_field
  done_none e = go left
    where
      go : (l : ℕ) → field_done ps d l i s p done ≡ done
      go zero = rw e refl
      go (suc l) = rw e refl

module _ (ps : List Numbered) (d u u' : List ℕ) (left i s p n : ℕ) (r : Option ℕ) (er : Lays ps d u u' i s p n r) where
  pub field-missing : r ≡ None → Reads u' (field_read ps d left i s p (rows_in u n)) (field_done ps d left i s p (rows_in u n)) None
  unfolding field_read
  field-missing e =
      let a : Absent ps d u u' i s p n = rw e at er in
      record { answer = rw a.exists refl; rows = rw (done_none ps d left i s p (rows_in u n) a.exists, length-rows_in) a.rows }

  module _ (w : ℕ) (e : r ≡ Some w) where
    own : Laid ps d u u' i s p n w
    own = rw e at er

    pub bits_within : s + w ≤ length d * 8
    bits_within = own.within

    pub bits_fit : length d ≤ 2048 → Fits w64 (s + w)
    bits_fit l = let q = own.within in record { fits = omega arith }

    answer_is : field_read ps d left i s p (rows_in u n) ≡ Some ((length (field_done ps d left i s p (rows_in u n))), w)
    unfolding field_read
    answer_is = rw (own.exists, own.width_is) refl

    more : rows_in u' (n + 1) ≡ with_row ps d i s p (rows_in u n)
    more = rw own.width_is own.rows

    leaf_done : left ≡ 0 → field_done ps d left i s p (rows_in u n) ≡ with_row ps d i s p (rows_in u n)
    unfolding flat_field
    leaf_done z = rw (z, own.exists) refl

    pub field_leaf : left ≡ 0 → Reads u' (field_read ps d left i s p (rows_in u n)) (field_done ps d left i s p (rows_in u n)) (Some (n + 1, w))
    field_leaf z =
        let q : field_done ps d left i s p (rows_in u n) ≡ rows_in u' (n + 1) = leaf_done z ∙ sym more in
        record { answer = rw (answer_is, q, length-rows_in) refl; rows = rw (q, length-rows_in) refl }

    tree_done : (left ≡ 0 → ⊥) → field_done ps d left i s p (rows_in u n) ≡ inner_done ps d (left - 1) i (s + w) w (with_row ps d i s p (rows_in u n))
    unfolding flat_field inner_done inner_of
    tree_done z = go left z
      where
        one : length (with_row ps d i s p (rows_in u n)) ≡ length (rows_in u n) + 1
        one = length-append (rows_in u n) (row_at d i p s (wide ps d i p (rows_in u n)) ∷ [])

        go : (k : ℕ) → (k ≡ 0 → ⊥) → field_done ps d k i s p (rows_in u n) ≡ inner_done ps d (k - 1) i (s + w) w (with_row ps d i s p (rows_in u n))
        go zero g = absurd (g refl)
        go (suc k) g = rw (own.exists, sub-one, one, ← own.width_is) refl

    pub field_tree : (m : ℕ) (u'' : List ℕ) → Fills u'' (inner_done ps d (left - 1) i (s + w) w (rows_in u' (n + 1))) m → (left ≡ 0 → ⊥)
        → Reads u'' (field_read ps d left i s p (rows_in u n)) (field_done ps d left i s p (rows_in u n)) (Some (m, w))
    field_tree m u'' f z =
        let q : field_done ps d left i s p (rows_in u n) ≡ inner_done ps d (left - 1) i (s + w) w (rows_in u' (n + 1)) = tree_done z ∙ rw more refl in
        record { answer = rw (answer_is, q, f.count) refl; rows = rw q f.rows }

-- a table with room for a field has room for its row, and for those inside it behind that
pub row_room : (ps : List Numbered) (i n l : ℕ) → (n + extent_at ps i) * scratch_width ≤ l → (n + 1) * scratch_width ≤ l
row_room ps i n l h = let e = inside_extents ps i in omega arith

-- ---- the answer of a field

module _ (ps : List Numbered) (d u u' : List ℕ) (left i s p n : ℕ) (f : Option (ℕ × ℕ))
    (a : Reads u' (field_read ps d left i s p (rows_in u n)) (field_done ps d left i s p (rows_in u n)) f) where
  -- one that was read
  pub record WasRead (m w : ℕ) : Type 0 where
    pub exists : there ps d i s p (rows_in u n) ≡ true
    pub width_is : w ≡ wide ps d i p (rows_in u n)
    pub rows : rows_in u' m ≡ field_done ps d left i s p (rows_in u n)

  read : (m w : ℕ) → f ≡ Some (m, w) → WasRead m w
  unfolding field_read
  read m w e = go (there ps d i s p (rows_in u n)) refl (sym e ∙ a.answer)
    where
      go : (b : Bool) → there ps d i s p (rows_in u n) ≡ b
          → Some (m, w) ≡ cond {A = Option (ℕ × ℕ)} b (Some (length (field_done ps d left i s p (rows_in u n)), wide ps d i p (rows_in u n))) None
          → WasRead m w
      go true x q =
          let both : ◌≡◌ {A = ℕ × ℕ} (m, w) (length (field_done ps d left i s p (rows_in u n)), wide ps d i p (rows_in u n)) = cc in
          let k : m ≡ length (field_done ps d left i s p (rows_in u n)) = ap (λ x. x.0) both in
          record { exists = x; width_is = ap (λ x. x.1) both; rows = rw k a.rows }
      go false x q = let z : ◌≡◌ {A = ℕ} 0 1 = cc in absurd (omega arith)

  -- one that is missing
  missing-not : f ≡ None → there ps d i s p (rows_in u n) ≡ false
  unfolding field_read
  missing-not e = go (there ps d i s p (rows_in u n)) (sym e ∙ a.answer)
    where
      go : (b : Bool)
          → None ≡ cond {A = Option (ℕ × ℕ)} b (Some (length (field_done ps d left i s p (rows_in u n)), wide ps d i p (rows_in u n))) None
          → b ≡ false
      go true q = let z : ◌≡◌ {A = ℕ} 0 1 = cc in absurd (omega arith)
      go false q = refl

  missing-rows : f ≡ None → rows_in u' n ≡ field_done ps d left i s p (rows_in u n)
  missing-rows e =
      let z = done_none ps d left i s p (rows_in u n) (missing-not e) in
      rw z (rw (z, length-rows_in) at a.rows)

-- ---- the next field of a list

module _ (t : List ℕ) (count level i order place : ℕ) (r : Option Next) (er : IsNext t count level i order place r) (inner : Next) (e : r ≡ Some inner)
    (few : count ≤ 128) (i≤n : i ≤ count) where
  pub next_in : inner.place < count
  next_in = (chosen [] t count level i order place r er inner e few i≤n).within

  pub next_level : (left : ℕ) → level + left ≡ 7 → level_in t inner.place + left ≡ 7
  next_level left h = let q = (chosen [] t count level i order place r er inner e few i≤n).level_is in omega arith

  pub next_fits : Fits w64 (inner.place + 1)
  next_fits = let h = next_in in record { fits = omega arith }

-- ---- the fields inside a field

-- what is left, read after what has been read, gives the rows that are asked for; and there is room for it
pub record Going (x t d : List ℕ) (count left i end width n : ℕ) (u₀ u : List ℕ) (level order place room bit next : ℕ) : Type 0 where
  pub rows : packed (fields_in x t count) d (λ j s rs. field_done (fields_in x t count) d left j s n rs) (rest x t count level (i + 1) order place) bit room
      (rows_in u next)
      ≡ inner_done (fields_in x t count) d left i end width (rows_in u₀ n)
  pub fits : (next + extents_at (fields_in x t count) (rest x t count level (i + 1) order place)) * scratch_width ≤ length u
  pub level_is : level + left ≡ 7
  pub room-left : room ≤ bit
  pub bit_in : bit ≤ length d * 8
  pub place_in : place ≤ 128
  pub behind : n ≤ next
  pub same : length u ≡ length u₀

inner_is : (x t : List ℕ) (count i : ℕ) → i < count → inner_of (fields_in x t count) i ≡ list_from (fields_in x t count) (level_in t i + 1) (i + 1)
unfolding inner_of inside_of list_from param_at
inner_is x t count i h = ap (λ (q : Param). list_from (fields_in x t count) (q.level + 1) (i + 1)) (said_in x t count i h)

module _ (x t d : List ℕ) (count left i end width n : ℕ) (u₀ : List ℕ) where
  pub going_starts : (n + extent_at (fields_in x t count) i) * scratch_width ≤ length u₀ + scratch_width → i < count → level_in t i + left + 1 ≡ 7
      → width ≤ end → end ≤ length d * 8
      → Going x t d count left i end width n u₀ u₀ (7 - left) 0 0 width end n
  unfolding inner_done inner_of
  going_starts h h2 l h3 h4 =
      let a = inside_extents (fields_in x t count) i in
      let k : 7 - left ≡ level_in t i + 1 = omega arith in
      let b : rest x t count (7 - left) (i + 1) 0 0 ≡ inner_of (fields_in x t count) i =
      from_zero (fields_in x t count) (list_from (fields_in x t count) (7 - left) (i + 1)) ∙ rw k (sym (inner_is x t count i h2)) in
      record {
        rows = rw (b, length-rows_in) refl;
        fits = rw b (omega arith);
        level_is = omega arith;
        room-left = h3;
        bit_in = h4;
        place_in = omega arith;
        behind = omega arith;
        same = refl;
      }

  module _ (u : List ℕ) (level order place room bit next : ℕ) (g : Going x t d count left i end width n u₀ u level order place room bit next) (r : Option Next)
      (er : IsNext t count level (i + 1) order place r) where
    ended : rows_in u next ≡ inner_done (fields_in x t count) d left i end width (rows_in u₀ n)
        → Fills u (inner_done (fields_in x t count) d left i end width (rows_in u₀ n)) next
    ended e = record { count = rw (← e, length-rows_in) refl; rows = rw (← e, length-rows_in) refl }

    pub inner_ends : r ≡ None → Fills u (inner_done (fields_in x t count) d left i end width (rows_in u₀ n)) next
    unfolding flat_packed
    inner_ends e = ended (rw (none_left x t count level (i + 1) order place r er e) at g.rows)

    module _ (inner : Next) (e : r ≡ Some inner) where
      is : count ≤ 128 → i < count → Chosen x t count level (i + 1) order place inner.place inner.order inner.bits
      is few h = chosen x t count level (i + 1) order place r er inner e few (omega arith)

      pub inner_full : room < inner.bits → count ≤ 128 → i < count → Fills u (inner_done (fields_in x t count) d left i end width (rows_in u₀ n)) next
      unfolding flat_packed
      inner_full l few h = ended (rw ((is few h).then, (is few h).bits_is, lt-leb inner.bits room l) at g.rows)

      pub inner_room : count ≤ 128 → i < count → (next + extent_at (fields_in x t count) inner.place) * scratch_width ≤ length u
      unfolding extents_at
      inner_room few h = let q = rw (is few h).then at g.fits in omega arith

      pub inner_less : count ≤ 128 → i < count → length (rest x t count level (i + 1) inner.order (inner.place + 1)) < length (rest x t count level (i + 1) order place)
      inner_less few h = rw (is few h).then (omega arith)

      module _ (u' : List ℕ) (f : Option (ℕ × ℕ)) (a : Reads u' (field_read (fields_in x t count) d left inner.place (bit - inner.bits) n (rows_in u next))
          (field_done (fields_in x t count) d left inner.place (bit - inner.bits) n (rows_in u next)) f) where
        going_on : inner.bits ≤ room → length u' ≡ length u → count ≤ 128 → i < count → (m : ℕ)
            → rows_in u' m ≡ field_done (fields_in x t count) d left inner.place (bit - inner.bits) n (rows_in u next)
            → Going x t d count left i end width n u₀ u' level inner.order (inner.place + 1) (room - inner.bits) (bit - inner.bits) m
        unfolding flat_packed extents_at
        going_on l len few h m em =
            let q = rw (is few h).then at g.fits in
            let o₀ = g.behind in
            let k₀ = length-rows_in u next in
            let b = field_grows (fields_in x t count) d left inner.place (bit - inner.bits) n (rows_in u next) (omega arith) in
            let b₁ = b.few in
            let k : m ≡ length (rows_in u next) + length b.more = sym (length-rows_in u' m) ∙ ap length em ∙ grow_length _ _ _ _ b in
            let rl = g.room-left in
            let bi = g.bit_in in
            let v = (is few h).within in
            record {
              rows = rw em (rw ((is few h).then, (is few h).bits_is, le-leb inner.bits room l) at g.rows);
              fits = rw len (omega arith);
              level_is = g.level_is;
              room-left = omega arith;
              bit_in = omega arith;
              place_in = omega arith;
              behind = omega arith;
              same = len ∙ g.same;
            }

        pub inner_takes : (m v : ℕ) → f ≡ Some (m, v) → inner.bits ≤ room → length u' ≡ length u → count ≤ 128 → i < count
            → Going x t d count left i end width n u₀ u' level inner.order (inner.place + 1) (room - inner.bits) (bit - inner.bits) m
        inner_takes m v q l len few h = going_on l len few h m (read (fields_in x t count) d u u' left inner.place (bit - inner.bits) n next f a m v q).rows

        pub inner_skips : f ≡ None → inner.bits ≤ room → length u' ≡ length u → count ≤ 128 → i < count
            → Going x t d count left i end width n u₀ u' level inner.order (inner.place + 1) (room - inner.bits) (bit - inner.bits) next
        inner_skips q l len few h = going_on l len few h next (missing-rows (fields_in x t count) d u u' left inner.place (bit - inner.bits) n next f a q)

pub ruleset field_laws = (field-missing, bits_within, bits_fit, field_leaf, field_tree, row_room)

pub ruleset inner_laws = (going_starts, inner_ends, inner_full, inner_room, inner_less, inner_takes, inner_skips)

-- ---- the outer fields

-- what is left, walked after what has been walked, gives what is asked for; and there is room for it
pub record Listing (x t d : List ℕ) (count first start n : ℕ) (u₀ u : List ℕ) (order place bit next : ℕ) : Type 0 where
  pub left : listed (fields_in x t count) d (rest x t count 0 first order place) bit (rows_in u next)
      ≡ walked_from (fields_in x t count) d first start (rows_in u₀ n)
  pub fits : next + extents_at (fields_in x t count) (rest x t count 0 first order place) ≤ n + (count - first)
  pub bit_in : bit ≤ length d * 8
  pub place_in : place ≤ 128
  pub same : length u ≡ length u₀

-- a table that holds the rows after a walk holds those before it
kept : (t₀ t : List ℕ) (n k : ℕ) (after : List Row) → Grows 0 k (rows_in t₀ n) after → Holds t after → rows_in t n ≡ rows_in t₀ n
kept t₀ t n k after g e =
    let l : length after ≡ n + length g.more = rw length-rows_in at (grow_length 0 k (rows_in t₀ n) after g) in
    let f : take n after ≡ rows_in t₀ n = ap (take n) g.is ∙ rw length-rows_in at (take-append_seam (rows_in t₀ n) g.more) in
    let m : length after ≡ n + (length after - n) = omega arith in
    sym (rows_in-take t n (length after - n)) ∙ rw (← m, e) f

module _ (x t d : List ℕ) (count first start n : ℕ) (u₀ : List ℕ) where
  pub listing_starts : first ≤ count → start ≤ length d * 8 → Listing x t d count first start n u₀ u₀ 0 0 start n
  unfolding walked_from outer_from list_from
  listing_starts h h2 =
      let a = outer_extents (fields_in x t count) first in
      let b : rest x t count 0 first 0 0 ≡ outer_from (fields_in x t count) first = from_zero (fields_in x t count) (list_from (fields_in x t count) 0 first) in
      let l = fields-length x t 0 count in
      record {
        left = rw b refl;
        fits = rw b (omega arith);
        bit_in = h2;
        place_in = omega arith;
        same = refl;
      }

  module _ (u : List ℕ) (order place bit next : ℕ) (g : Listing x t d count first start n u₀ u order place bit next) (r : Option Next)
      (er : IsNext t count 0 first order place r) where
    -- the walk ends here
    stopped : record { rows = rows_in u next; bit = bit } ≡ walked_from (fields_in x t count) d first start (rows_in u₀ n) → (v : List ℕ)
        → rows_in v next ≡ rows_in u next
        → Walks d u₀ v n (count - first) (walked_from (fields_in x t count) d first start (rows_in u₀ n)) (record { bit = record { 0 = bit }; rows = next })
    stopped e v ev =
        let rs : (walked_from (fields_in x t count) d first start (rows_in u₀ n)).rows ≡ rows_in u next = sym (ap (λ (w : flat.Walked). w.rows) e) in
        let holds : Holds v (walked_from (fields_in x t count) d first start (rows_in u₀ n)).rows = rw (rs, length-rows_in) ev in
        let f = g.fits in
        record {
          bit_is = ap (λ (w : flat.Walked). w.bit) e;
          count = rw (rs, length-rows_in) refl;
          rows = holds;
          kept = kept u₀ v n (length (fields_in x t count) - first) (walked_from (fields_in x t count) d first start (rows_in u₀ n)).rows
              (walked_grows (fields_in x t count) d first start (rows_in u₀ n)) holds;
          few = omega arith;
          within = g.bit_in;
        }

    pub listing-ends : r ≡ None → Walks d u₀ u n (count - first) (walked_from (fields_in x t count) d first start (rows_in u₀ n))
        (record { bit = record { 0 = bit }; rows = next })
    unfolding flat_listed
    listing-ends e = stopped (rw (none_left x t count 0 first order place r er e) at g.left) u refl

    module _ (inner : Next) (e : r ≡ Some inner) where
      at_j : count ≤ 128 → first ≤ count → Chosen x t count 0 first order place inner.place inner.order inner.bits
      at_j few h = chosen x t count 0 first order place r er inner e few h

      pub listing-room : count ≤ 128 → first ≤ count → (n + (count - first)) * scratch_width ≤ length u₀
          → (next + extent_at (fields_in x t count) inner.place) * scratch_width ≤ length u
      unfolding extents_at
      listing-room few h l =
          let q = rw (at_j few h).then at g.fits in
          let k = g.same in
          omega arith

      pub listing_less : count ≤ 128 → first ≤ count → length (rest x t count 0 first inner.order (inner.place + 1)) < length (rest x t count 0 first order place)
      listing_less few h = rw (at_j few h).then (omega arith)

      module _ (u' : List ℕ) (f : Option (ℕ × ℕ)) (a : Reads u' (field_read (fields_in x t count) d 7 inner.place bit 0 (rows_in u next))
          (field_done (fields_in x t count) d 7 inner.place bit 0 (rows_in u next)) f) where
        pub listing-stops : f ≡ None → count ≤ 128 → first ≤ count
            → Walks d u₀ u' n (count - first) (walked_from (fields_in x t count) d first start (rows_in u₀ n))
            (record { bit = record { 0 = bit }; rows = next })
        unfolding flat_listed
        listing-stops q few h =
            let z = missing-not (fields_in x t count) d u u' 7 inner.place bit 0 next f a q in
            stopped (rw ((at_j few h).then, z) at g.left) u'
            (missing-rows (fields_in x t count) d u u' 7 inner.place bit 0 next f a q ∙ done_none (fields_in x t count) d 7 inner.place bit 0 (rows_in u next) z)

        module _ (m v : ℕ) (q : f ≡ Some (m, v)) where
          done : WasRead (fields_in x t count) d u u' 7 inner.place bit 0 next f a m v
          done = read (fields_in x t count) d u u' 7 inner.place bit 0 next f a m v q

          ends_in : bit + v ≤ length d * 8
          ends_in = rw done.width_is (exists-within (fields_in x t count) d inner.place bit 0 (rows_in u next) done.exists)

          pub listing-fits : length d ≤ 2048 → Fits w64 (bit + v)
          listing-fits l = let k = ends_in in record { fits = omega arith }

          pub listing-more : length u' ≡ length u → count ≤ 128 → first ≤ count
              → Listing x t d count first start n u₀ u' inner.order (inner.place + 1) (bit + v) m
          unfolding flat_listed extents_at
          listing-more len few h =
              let k = rw (at_j few h).then at g.fits in
              let b = field_grows (fields_in x t count) d 7 inner.place bit 0 (rows_in u next) (omega arith) in
              let b₁ = b.few in
              let c : m ≡ length (rows_in u next) + length b.more = sym (length-rows_in u' m) ∙ ap length done.rows ∙ grow_length _ _ _ _ b in
              let c₀ = length-rows_in u next in
              let i = (at_j few h).within in
              record {
                left = rw (done.rows, done.width_is) (rw ((at_j few h).then, done.exists) at g.left);
                fits = omega arith;
                bit_in = ends_in;
                place_in = omega arith;
                same = len ∙ g.same;
              }

pub ruleset outer_laws = (listing_starts, listing-ends, listing-room, listing_less, listing-stops, listing-fits, listing-more)
