-- Laws of the rows of a header's answer. Assumes nothing.
use mathlib.Core.Path.{◌≡◌, refl, sym, ap, ◌∙◌}
use mathlib.Core.Bool.{cond}
use mathlib.Core.List.{List, [], ◌∷◌, ◌++◌, map, append-nil, append_assoc}
use Prim.Native.Nat.{ℕ, zero, suc, ◌+◌, ◌*◌, ◌≤◌, ◌<◌}
use native.Mathlib.Nat.{add-zero, zero-add}
use native.Mathlib.Numerals.{add-one}
use native.Mathlib.Omega.{arith}
use lib.Dec.{eqb}
use lib.ListN.{length}
use lib.Seq.{sets, length-sets}
use borrow.Author.Tests.{eq-eqb, ne_eqb}
use Rattle.text.specs.Place.{part_of}
use Rattle.text.specs.Records.{Readable}
use Rattle.text.specs.declared.Place.{Place}
use Rattle.frame_text.specs.Form.{Param}
use Rattle.frame_text.specs.Rules.{rules}
use Rattle.frame_definition.specs.Definition.{Numbered, Set, below, entries, definition, first_set, first_entry}
use Rattle.frame_definition.specs.Find.{from, FindsSet}
use Rattle.rows.specs.Rows.{put, flat, laid}
use Rattle.rows.proofs.Laws.{sets-append, put-room, sets-laid}
use Rattle.header_fields.specs.Fields.{set_in, number_in, param_at, fields_from, fields_in}
use Rattle.header_rules.specs.Data.{Name}
use Rattle.header_rules.specs.Loaded.{shown}
use Rattle.header_rules.specs.Level.{said_at, number_at}
use Rattle.header_rules.specs.Rows.{Row, row_value}
use Rattle.header_rules.specs.Table.{row_width, entry_of, symbol_of}
use Rattle.header_paths.specs.Scratch.{row_in, rows_in, tells}
use Rattle.header_paths.specs.declared.Row as told
use Rattle.header_paths.proofs.Fields.{said_in, said_out}
use Rattle.header_paths.proofs.Scratch.{length-rows_in}
use Rattle.std.specs.Prelude.{Option, Some, None}

-- ---- the first E with a key in the first D of a name
module _ (t name : List ℕ) (v : ℕ) (r : Option Place) (found : FindsSet t name r) where
  pub symbol_none : r ≡ None → 0 ≡ entry_of (first_set name (definition t).sets) v
  symbol_none e = let none_is : first_set name (definition t).sets ≡ None = rw e at found in rw none_is refl

  module _ (p : Place) (e : r ≡ Some p) where
    abbrev at_set : (first_set name (definition t).sets ≡ Some (record { name = name; entries = entries (below (from t p)) })) × Readable rules t p
    at_set = rw e at found

    pub set-readable : Readable rules t p
    set-readable = at_set.1

    pub symbol_entry : (n : ℕ) → n ≡ first_entry v 0 (entries (below (from t p))) → n ≡ entry_of (first_set name (definition t).sets) v
    symbol_entry n q = rw at_set.0 q

-- ---- the symbol of a row
no_symbol : (ss : List Set) (name : Option Name) (v : Option ℕ) → v ≡ None → 0 ≡ symbol_of ss name v
no_symbol ss None v e = refl
no_symbol ss (Some x) v e = rw e refl

module _ (x t : List ℕ) (n : ℕ) (row : told.Row) where
  abbrev set_of_lem : Option Name
  set_of_lem = (said_at (fields_in x t n) row.place).set

  pub symbol_unvalued : (row.valued ≡ 1 → ⊥) → 0 ≡ symbol_of (definition x).sets set_of_lem (row_value (tells row))
  symbol_unvalued h = no_symbol (definition x).sets set_of_lem (row_value (tells row)) (rw (ne_eqb row.valued 1 h) refl)

  pub symbol_past : n ≤ row.place → 0 ≡ symbol_of (definition x).sets set_of_lem (row_value (tells row))
  symbol_past h = let e : set_of_lem ≡ None = ap (λ (p : Param). p.set) (said_out x t n row.place h) in rw e refl

  module _ (inside : row.place < n) where
    the_set : set_of_lem ≡ cond (eqb (set_in t row.place).len 0) None (Some (part_of x (set_in t row.place)))
    unfolding param_at
    the_set = ap (λ (p : Param). p.set) (said_in x t n row.place inside)

    pub symbol_unset : (set_in t row.place).len ≡ 0 → 0 ≡ symbol_of (definition x).sets set_of_lem (row_value (tells row))
    symbol_unset h = let e : set_of_lem ≡ None = the_set ∙ rw (eq-eqb (set_in t row.place).len 0 h) refl in rw e refl

    pub symbol_is : (name : List ℕ) (r : ℕ) → ((set_in t row.place).len ≡ 0 → ⊥) → row.valued ≡ 1
        → name ≡ part_of x (set_in t row.place) → r ≡ entry_of (first_set name (definition x).sets) row.value
        → r ≡ symbol_of (definition x).sets set_of_lem (row_value (tells row))
    symbol_is name r h v part is =
        let e : set_of_lem ≡ Some name = the_set ∙ rw (ne_eqb (set_in t row.place).len 0 h, part) refl in
        let u : row_value (tells row) ≡ Some row.value = rw (eq-eqb row.valued 1 v) refl in
        rw (e, u) is

-- ---- the number of a P
number-from : (x t : List ℕ) (n i j : ℕ) → j < n → number_at (fields_from x t i n) j ≡ (param_at x t (i + j)).number
unfolding number_at fields_from
number-from x t zero i j h = absurd (omega arith)
number-from x t (suc n) i zero h = rw add-zero refl
number-from x t (suc n) i (suc j) h = let e : i + 1 + j ≡ i + suc j = omega arith in rw (← e) (number-from x t n (i + 1) j (omega arith))

number-none : (x t : List ℕ) (n i j : ℕ) → n ≤ j → number_at (fields_from x t i n) j ≡ 0
unfolding number_at fields_from
number-none x t zero i j h = refl
number-none x t (suc n) i zero h = absurd (omega arith)
number-none x t (suc n) i (suc j) h = number-none x t n (i + 1) j (omega arith)

pub number_past : (t : List ℕ) (n place : ℕ) → n ≤ place → (x : List ℕ) → 0 ≡ number_at (fields_in x t n) place
number_past t n place h x = sym (number-none x t n 0 place h)

pub number_is : (t : List ℕ) (n place : ℕ) → place < n → (x : List ℕ) → number_in t place ≡ number_at (fields_in x t n) place
unfolding param_at
number_is t n place h x = sym (rw zero-add at (number-from x t n 0 place h))

-- ---- a row
pub row_is : (x t : List ℕ) (n : ℕ) (row : told.Row) (k s : ℕ) → ((y : List ℕ) → k ≡ number_at (fields_in y t n) row.place)
    → s ≡ symbol_of (definition x).sets (said_at (fields_in x t n) row.place).set (row_value (tells row))
    → (k ∷ row.parent ∷ row.start.0 ∷ row.bits ∷ row.valued ∷ row.value ∷ s ∷ [])
    ≡ shown (fields_in x t n) (definition x).sets (tells row)
unfolding shown
row_is x t n row k s is-k is-s = rw (is-k x, is-s) refl

pub row_put : (x t : List ℕ) (n : ℕ) (s : List ℕ) (k : ℕ) (row : told.Row) (numbers rows : List ℕ) (at : ℕ) (rows' : List ℕ)
    → tells row ≡ row_in s k → numbers ≡ shown (fields_in x t n) (definition x).sets (tells row)
    → rows' ≡ put rows at numbers → rows' ≡ put rows at (shown (fields_in x t n) (definition x).sets (row_in s k))
row_put x t n s k row numbers rows at rows' is_row is-numbers is =
    is ∙ ap (put rows at) (is-numbers ∙ ap (shown (fields_in x t n) (definition x).sets) is_row)

-- ---- row by row: the table so far
module _ (ps : List Numbered) (ss : List Set) where
  wide : (rs : List Row) → length (flat (map (shown ps ss) rs)) ≡ length rs * row_width
  unfolding shown
  wide [] = refl
  wide (r ∷ rs) = omega (arith, wide rs)

  flat_snoc : (rs : List Row) (r : Row) → flat (map (shown ps ss) (rs ++ (r ∷ []))) ≡ flat (map (shown ps ss) rs) ++ shown ps ss r
  flat_snoc [] r = append-nil (shown ps ss r)
  flat_snoc (q ∷ rs) r =
      ap (λ (l : List ℕ). shown ps ss q ++ l) (flat_snoc rs r) ∙ sym (append_assoc (shown ps ss q) (flat (map (shown ps ss) rs)) (shown ps ss r))

  pub record Writing (t₀ t s : List ℕ) (n k : ℕ) : Type 0 where
    pub so_far : t ≡ sets t₀ 0 (flat (map (shown ps ss) (rows_in s k)))
    pub within : k ≤ n
    pub same : length t ≡ length t₀

  pub writing_starts : (t s : List ℕ) (n : ℕ) → Writing t t s n 0
  unfolding rows_in
  writing_starts t s n = record { so_far = refl; within = omega arith; same = refl }

  module _ (t₀ t s : List ℕ) (n k : ℕ) (w : Writing t₀ t s n k) (room : n * row_width ≤ length t₀) where
    pub written : n ≤ k → t ≡ laid t₀ (map (shown ps ss) (rows_in s n))
    written h =
        let e : k ≡ n = omega (arith, w.within) in
        (rw e at w.so_far) ∙ sets-laid t₀ (map (shown ps ss) (rows_in s n)) (omega (arith, wide (rows_in s n), length-rows_in s n))

    pub writing_more : k < n → (t' : List ℕ) → t' ≡ put t (k * row_width) (shown ps ss (row_in s k)) → Writing t₀ t' s n (k + 1)
    unfolding rows_in shown
    writing_more h t' is-t =
        let put-t : t' ≡ sets t (k * row_width) (shown ps ss (row_in s k)) =
        is-t ∙ put-room t (shown ps ss (row_in s k)) (k * row_width) (omega (arith, w.same)) in
        let front : length (flat (map (shown ps ss) (rows_in s k))) ≡ k * row_width =
        wide (rows_in s k) ∙ ap (λ (m : ℕ). m * row_width) (length-rows_in s k) in
        let place : 0 + length (flat (map (shown ps ss) (rows_in s k))) ≡ k * row_width = omega arith in
        record {
          so_far =
              put-t ∙ ap (λ (u : List ℕ). sets u (k * row_width) (shown ps ss (row_in s k))) w.so_far
              ∙ (rw place at (sym (sets-append t₀ 0 (flat (map (shown ps ss) (rows_in s k))) (shown ps ss (row_in s k)))))
              ∙ ap (sets t₀ 0) (sym (flat_snoc (rows_in s k) (row_in s k)))
              ∙ ap (λ (m : ℕ). sets t₀ 0 (flat (map (shown ps ss) (rows_in s m)))) (sym (add-one k));
          within = omega arith;
          same = ap length put-t ∙ length-sets t (k * row_width) (shown ps ss (row_in s k)) ∙ w.same;
        }

pub ruleset laws = (
  symbol_none,
  set-readable,
  symbol_entry,
  symbol_unvalued,
  symbol_past,
  symbol_unset,
  symbol_is,
  number_past,
  number_is,
  row_is,
  row_put,
  writing_starts,
  written,
  writing_more,
)
