-- Whether a field exists, its width, its row. Assumes nothing.
use mathlib.Core.Path.{◌≡◌, refl, sym, ap, ◌∙◌}
use mathlib.Core.Bool.{Bool, true, false, cond, not, ◌&&◌}
use mathlib.Core.List.{List, [], ◌∷◌, ◌++◌}
use Prim.Native.Nat.{ℕ, ◌+◌, ◌-◌, ◌*◌, ◌/◌, ◌≤◌, ◌<◌}
use native.Mathlib.Omega.{arith}
use lib.ListN.{length}
use lib.Dec.{leb, ltb, eqb}
use borrow.Author.Tests.{eq-eqb, ne_eqb, le-leb, lt-leb, lt-ltb, le-ltb, leb-true, leb-false, ltb-true, not-true, not-false}
use Rattle.laws.proofs.Bools.{and_right}
use Rattle.frame_text.specs.Form.{Param, names}
use Rattle.frame_definition.specs.Definition.{Numbered}
use Rattle.header_fields.specs.Fields.{bits_in, optional_in, size_in, param_at, fields_in}
use Rattle.bits.specs.Bits.{bits_at, has_bits, bits_read}
use Rattle.header_rules.specs.Find.{or_zero, width_by}
use Rattle.header_rules.specs.Walk.{wanted_by}
use Rattle.header_rules.specs.Rows.{Row, flat_value}
use Rattle.header_rules.specs.Table.{is_some}
use Rattle.header_rules.specs.Flat.{row_at, flat_width, flat_exists}
use Rattle.header_rules.specs.Loaded.{line_of, name_of, inside_of}
use Rattle.header_rules.specs.Level.{said_at}
use Rattle.header_paths.specs.Scratch.{scratch_width, rows_in, tells}
use Rattle.header_paths.specs.declared.Row as told
use Rattle.header_paths.specs.Lookup.{valued}
use Rattle.header_paths.proofs.Fields.{said_in}
use Rattle.header_paths.proofs.Scratch.{numbers, rows_in-sets}
use Rattle.rows.specs.Rows.{put}
use Rattle.rows.proofs.Laws.{put-room}
use Rattle.text.specs.Place.{part_of}
use Rattle.header_walk.specs.Steps.{wanted, width, fitting, extent_of, Lays}
use Rattle.std.specs.Prelude.{Option, Some, None}

-- ---- what a lookup finds

value_none : (o : Option ℕ) → None ≡ valued o → or_zero o ≡ 0
value_none None e = refl
value_none (Some v) e = let z : ◌≡◌ {A = ℕ} 0 1 = cc in absurd (omega arith)

value_some : (o : Option ℕ) (k : ℕ) → Some k ≡ valued o → or_zero o ≡ k
value_some None k e = let z : ◌≡◌ {A = ℕ} 0 1 = cc in absurd (omega arith)
value_some (Some v) k e = cc

module _ (x t : List ℕ) (n i p : ℕ) (done : List Row) where
  -- ---- the optional path

  wanted_is : i < n
      → wanted (fields_in x t n) i p done
      ≡ wanted_by (λ path. flat_value (name_of (fields_in x t n)) done path p)
      (cond (eqb (optional_in t i).len 0) None (Some (names (part_of x (optional_in t i)))))
  unfolding wanted param_at
  wanted_is h = ap (λ (q : Param). wanted_by (λ path. flat_value (name_of (fields_in x t n)) done path p) q.optional) (said_in x t n i h)

  pub wanted_free : i < n → (optional_in t i).len ≡ 0 → true ≡ wanted (fields_in x t n) i p done
  wanted_free h z = sym (wanted_is h ∙ rw (eq-eqb (optional_in t i).len 0 z) refl)

  module _ (path : List ℕ) (v : Option ℕ) (ev : v ≡ valued (flat_value (name_of (fields_in x t n)) done (names path) p))
      (ep : path ≡ part_of x (optional_in t i)) where
    wanted-path : i < n → ((optional_in t i).len ≡ 0 → ⊥)
        → wanted (fields_in x t n) i p done ≡ ltb 0 (or_zero (flat_value (name_of (fields_in x t n)) done (names path) p))
    wanted-path h z = wanted_is h ∙ rw (ne_eqb (optional_in t i).len 0 z, ep) refl

    pub wanted-none : v ≡ None → i < n → ((optional_in t i).len ≡ 0 → ⊥) → false ≡ wanted (fields_in x t n) i p done
    wanted-none e h z =
        sym (wanted-path h z ∙ ap (λ (k : ℕ). ltb 0 k) (value_none (flat_value (name_of (fields_in x t n)) done (names path) p) (sym e ∙ ev)))

    pub wanted_some : (k : ℕ) → v ≡ Some k → i < n → ((optional_in t i).len ≡ 0 → ⊥) → ltb 0 k ≡ wanted (fields_in x t n) i p done
    wanted_some k e h z =
        sym (wanted-path h z ∙ ap (λ (k : ℕ). ltb 0 k) (value_some (flat_value (name_of (fields_in x t n)) done (names path) p) k (sym e ∙ ev)))

  -- ---- the size path

  width_is : i < n
      → width (fields_in x t n) i p done
      ≡ width_by (bits_in t i) (λ path. flat_value (name_of (fields_in x t n)) done path p)
      (cond (eqb (size_in t i).len 0) None (Some (names (part_of x (size_in t i)))))
  unfolding width param_at
  width_is h = ap (λ (q : Param). width_by q.bits (λ path. flat_value (name_of (fields_in x t n)) done path p) q.size) (said_in x t n i h)

  pub width-plain : (left r : ℕ) → r ≡ fitting (bits_in t i) left → i < n → (size_in t i).len ≡ 0
      → r ≡ fitting (width (fields_in x t n) i p done) left
  width-plain left r e h z = e ∙ ap (λ (w : ℕ). fitting w left) (sym (width_is h ∙ rw (eq-eqb (size_in t i).len 0 z) refl))

  module _ (path : List ℕ) (left : ℕ) (v : Option ℕ) (ev : v ≡ valued (flat_value (name_of (fields_in x t n)) done (names path) p))
      (ep : path ≡ part_of x (size_in t i)) where
    width-path : i < n → ((size_in t i).len ≡ 0 → ⊥)
        → width (fields_in x t n) i p done ≡ 8 * or_zero (flat_value (name_of (fields_in x t n)) done (names path) p)
    width-path h z = width_is h ∙ rw (ne_eqb (size_in t i).len 0 z, ep) refl

    pub width-none : v ≡ None → i < n → ((size_in t i).len ≡ 0 → ⊥) → 0 ≡ fitting (width (fields_in x t n) i p done) left
    unfolding fitting
    width-none e h z =
        let o = value_none (flat_value (name_of (fields_in x t n)) done (names path) p) (sym e ∙ ev) in
        let w : width (fields_in x t n) i p done ≡ 0 = width-path h z ∙ omega arith in
        rw (w, le-leb 0 left (omega arith)) refl

    pub width-sized : (k r : ℕ) → v ≡ Some k → r ≡ fitting (8 * k) left → i < n → ((size_in t i).len ≡ 0 → ⊥)
        → r ≡ fitting (width (fields_in x t n) i p done) left
    width-sized k r e er h z =
        let o = value_some (flat_value (name_of (fields_in x t n)) done (names path) p) k (sym e ∙ ev) in
        let w : width (fields_in x t n) i p done ≡ 8 * k = width-path h z ∙ omega arith in
        rw w er

pub bytes-over : (k left : ℕ) → left / 8 < k → 0 ≡ fitting (8 * k) left
unfolding fitting
bytes-over k left h = rw (lt-leb (8 * k) left (omega arith)) refl

pub bytes_fit : (k left : ℕ) → k ≤ left / 8 → k * 8 ≡ fitting (8 * k) left
unfolding fitting
bytes_fit k left h = rw (le-leb (8 * k) left (omega arith)) (omega arith)

pub fits-over : (w left : ℕ) → left < w → 0 ≡ fitting w left
unfolding fitting
fits-over w left h = rw (lt-leb w left h) refl

pub fits_whole : (w left : ℕ) → w ≤ left → w ≡ fitting w left
unfolding fitting
fits_whole w left h = rw (le-leb w left h) refl

pub ruleset width_laws = (
  wanted_free,
  wanted-none,
  wanted_some,
  width-plain,
  width-none,
  width-sized,
  bytes-over,
  bytes_fit,
  fits-over,
  fits_whole,
)

-- ---- both: how wide it is, if it exists

module _ (ps : List Numbered) (i p left : ℕ) (done : List Row) (b : Bool) (eb : b ≡ wanted ps i p done) where
  pub extent_unwanted : not b ≡ true → None ≡ extent_of ps i p left done
  unfolding extent_of
  extent_unwanted e = rw (← eb, not-true b e) refl

  module _ (w : ℕ) (ew : w ≡ fitting (width ps i p done) left) where
    pub extent_none : w ≡ 0 → None ≡ extent_of ps i p left done
    unfolding extent_of fitting
    extent_none z = go (wanted ps i p done) (leb (width ps i p done) left) (sym ew ∙ z)
      where
        go : (a c : Bool) → cond c (width ps i p done) 0 ≡ 0
            → None ≡ cond (a && (ltb 0 (width ps i p done) && c)) (Some (width ps i p done)) None
        go true true e = rw (le-ltb 0 (width ps i p done) (omega arith)) refl
        go true false e = go2 (ltb 0 (width ps i p done))
          where
            go2 : (u : Bool) → None ≡ cond (u && false) (Some (width ps i p done)) None
            go2 true = refl
            go2 false = refl
        go false c e = refl

    pub extent_some : not b ≡ false → (w ≡ 0 → ⊥) → Some w ≡ extent_of ps i p left done
    unfolding extent_of fitting
    extent_some e z = rw (← eb, not-false b e) (go (leb (width ps i p done) left) ew)
      where
        go : (c : Bool) → w ≡ cond c (width ps i p done) 0
            → Some w ≡ cond (ltb 0 (width ps i p done) && c) (Some (width ps i p done)) None
        go true q = rw (lt-ltb 0 (width ps i p done) (omega (arith, z)), q) refl
        go false q = absurd (z q)

pub ruleset extent_laws = (extent_unwanted, extent_none, extent_some)

-- ---- what that says of the flat walk

-- a field that exists, and its width
record There (ps : List Numbered) (d : List ℕ) (i s p : ℕ) (done : List Row) (w : ℕ) : Type 0 where
  exists : flat_exists (line_of ps) (inside_of ps) (name_of ps) d i s p done ≡ true
  width_is : flat_width (line_of ps) (inside_of ps) (name_of ps) d i p done ≡ w
  wide : 0 < w
  within : s + w ≤ length d * 8

module _ (ps : List Numbered) (d : List ℕ) (i s p : ℕ) (done : List Row) where
  exists_is : s ≤ length d * 8
      → flat_exists (line_of ps) (inside_of ps) (name_of ps) d i s p done
      ≡ wanted ps i p done && (ltb 0 (width ps i p done) && leb (width ps i p done) (length d * 8 - s))
  unfolding flat_exists flat_width wanted width
  exists_is h = ap (λ (c : Bool). wanted ps i p done && (ltb 0 (width ps i p done) && c)) (go (leb (width ps i p done) (length d * 8 - s)) refl)
    where
      go : (c : Bool) → leb (width ps i p done) (length d * 8 - s) ≡ c → leb (s + width ps i p done) (length d * 8) ≡ c
      go true e = let l = leb-true (width ps i p done) (length d * 8 - s) e in le-leb (s + width ps i p done) (length d * 8) (omega arith)
      go false e = let l = leb-false (width ps i p done) (length d * 8 - s) e in lt-leb (s + width ps i p done) (length d * 8) (omega arith)

  -- where it ends
  pub exists-within : flat_exists (line_of ps) (inside_of ps) (name_of ps) d i s p done ≡ true
      → s + flat_width (line_of ps) (inside_of ps) (name_of ps) d i p done ≤ length d * 8
  unfolding flat_exists
  exists-within e =
      let w = flat_width (line_of ps) (inside_of ps) (name_of ps) d i p done in
      leb-true (s + w) (length d * 8)
      (and_right (ltb 0 w) (leb (s + w) (length d * 8))
      (and_right (wanted_by (λ path. flat_value (name_of ps) done path p) (said_at ps i).optional) (ltb 0 w && leb (s + w) (length d * 8)) e))

  module _ (r : Option ℕ) (er : r ≡ extent_of ps i p (length d * 8 - s) done) where
    exists-not : r ≡ None → s ≤ length d * 8 → flat_exists (line_of ps) (inside_of ps) (name_of ps) d i s p done ≡ false
    unfolding extent_of
    exists-not e h = exists_is h ∙ go (wanted ps i p done && (ltb 0 (width ps i p done) && leb (width ps i p done) (length d * 8 - s))) (sym e ∙ er)
      where
        go : (c : Bool) → None ≡ cond c (Some (width ps i p done)) None → c ≡ false
        go true q = let z : ◌≡◌ {A = ℕ} 0 1 = cc in absurd (omega arith)
        go false q = refl

    there : (w : ℕ) → r ≡ Some w → s ≤ length d * 8 → There ps d i s p done w
    unfolding extent_of flat_width width
    there w e h = go (wanted ps i p done) (ltb 0 (width ps i p done)) (leb (width ps i p done) (length d * 8 - s)) refl refl (exists_is h) (sym e ∙ er)
      where
        go : (a b c : Bool) → ltb 0 (width ps i p done) ≡ b → leb (width ps i p done) (length d * 8 - s) ≡ c
            → flat_exists (line_of ps) (inside_of ps) (name_of ps) d i s p done ≡ a && (b && c)
            → Some w ≡ cond (a && (b && c)) (Some (width ps i p done)) None → There ps d i s p done w
        go true true true eb ec ex q =
            let v : w ≡ width ps i p done = cc in
            let o = ltb-true 0 (width ps i p done) eb in
            let l = leb-true (width ps i p done) (length d * 8 - s) ec in
            record { exists = ex; width_is = sym v; wide = omega arith; within = omega arith }
        go true true false eb ec ex q = let z : ◌≡◌ {A = ℕ} 0 1 = cc in absurd (omega arith)
        go true false c eb ec ex q = let z : ◌≡◌ {A = ℕ} 0 1 = cc in absurd (omega arith)
        go false b c eb ec ex q = let z : ◌≡◌ {A = ℕ} 0 1 = cc in absurd (omega arith)

-- ---- the row of a field that exists

module _ (d : List ℕ) (i p s w : ℕ) (r : Option ℕ) (er : r ≡ bits_read d s w) where
  has : 0 < w → s + w ≤ length d * 8 → r ≡ cond (leb w 64) (Some (bits_at d s w)) None
  unfolding bits_read has_bits
  has a b = er ∙ rw (le-leb 1 w a) (go (leb w 64))
    where
      go : (c : Bool) → cond (c && leb (s + w) (length d * 8)) (Some (bits_at d s w)) None ≡ cond c (Some (bits_at d s w)) None
      go true = rw (le-leb (s + w) (length d * 8) b) refl
      go false = refl

  pub row-valued : (v : ℕ) → r ≡ Some v → 0 < w → s + w ≤ length d * 8
      → ◌≡◌ {A = Row} (record { number = i; parent = p; start = s; bits = w; valued = 1; value = v }) (row_at d i p s w)
  unfolding row_at
  row-valued v e a b = go (leb w 64) (sym e ∙ has a b)
    where
      go : (c : Bool) → Some v ≡ cond c (Some (bits_at d s w)) None
          → ◌≡◌ {A = Row} (record { number = i; parent = p; start = s; bits = w; valued = 1; value = v })
          (record {
            number = i;
            parent = p;
            start = s;
            bits = w;
            valued = is_some (cond c (Some (bits_at d s w)) None);
            value =
                or_zero (cond c (Some (bits_at d s w)) None);
          })
      go true q = let z : v ≡ bits_at d s w = cc in rw z refl
      go false q = let z : ◌≡◌ {A = ℕ} 0 1 = cc in absurd (omega arith)

  pub row_wide : r ≡ None → 0 < w → s + w ≤ length d * 8
      → ◌≡◌ {A = Row} (record { number = i; parent = p; start = s; bits = w; valued = 0; value = 0 }) (row_at d i p s w)
  unfolding row_at
  row_wide e a b = go (leb w 64) (sym e ∙ has a b)
    where
      go : (c : Bool) → None ≡ cond c (Some (bits_at d s w)) None
          → ◌≡◌ {A = Row} (record { number = i; parent = p; start = s; bits = w; valued = 0; value = 0 })
          (record {
            number = i;
            parent = p;
            start = s;
            bits = w;
            valued = is_some (cond c (Some (bits_at d s w)) None);
            value =
                or_zero (cond c (Some (bits_at d s w)) None);
          })
      go true q = let z : ◌≡◌ {A = ℕ} 0 1 = cc in absurd (omega arith)
      go false q = refl

-- its six numbers in the table
pub row_written : (t t' : List ℕ) (n : ℕ) (r : told.Row) → t' ≡ put t (n * scratch_width) (numbers (tells r))
    → (n + 1) * scratch_width ≤ length t → rows_in t' (n + 1) ≡ rows_in t n ++ (tells r ∷ [])
row_written t t' n r e h = rw (e, put-room t (numbers (tells r)) (n * scratch_width) (omega arith)) (rows_in-sets t n (tells r) h)

pub ruleset row_laws = (row-valued, row_wide, row_written)

-- ---- all of it: the field's own row

module _ (ps : List Numbered) (d u : List ℕ) (i s p n : ℕ) (r : Option ℕ) (er : r ≡ extent_of ps i p (length d * 8 - s) (rows_in u n)) where
  pub lays_none : r ≡ None → s ≤ length d * 8 → Lays ps d u u i s p n None
  lays_none e h = record { exists = exists-not ps d i s p (rows_in u n) r er e h; rows = refl }

  module _ (w : ℕ) (e : r ≡ Some w) (h : s ≤ length d * 8) where
    here : There ps d i s p (rows_in u n) w
    here = there ps d i s p (rows_in u n) r er w e h

    pub bits_wide : 0 < w
    bits_wide = here.wide

    pub bits_within : s + w ≤ length d * 8
    bits_within = here.within

    pub lays_row : (row : told.Row) (u' : List ℕ) → tells row ≡ row_at d i p s w → rows_in u' (n + 1) ≡ rows_in u n ++ (tells row ∷ [])
        → Lays ps d u u' i s p n (Some w)
    lays_row row u' erow eu = record { exists = here.exists; width_is = here.width_is; within = here.within; rows = rw (← erow) eu }

pub ruleset lay_laws = (lays_none, bits_wide, bits_within, lays_row)
