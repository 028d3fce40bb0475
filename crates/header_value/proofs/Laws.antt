-- Laws of showing a row of a header. Assumes nothing.
use mathlib.Core.Path.{◌≡◌, refl, sym, ap, ◌∙◌}
use mathlib.Core.Bool.{Bool, true, false, cond}
use mathlib.Core.List.{List, []}
use Prim.Native.Nat.{ℕ, ◌*◌, ◌/◌, ◌%◌, ◌≤◌, ◌<◌}
use native.Mathlib.Omega.{arith}
use lib.Dec.{ltb}
use lib.ListN.{length, take, drop, replicate, length-replicate, length-take, length-drop}
use borrow.Author.Tests.{eq-eqb, ne_eqb, le-leb, lt-leb, lt-ltb, le-ltb, ltb-false}
use Rattle.refusal.specs.declared.Refusal.{Refusal}
use Rattle.refusal.specs.declared.Refusal.TheVariants.{TooLong, TooShort, NoSuchField}
use Rattle.frame_text.specs.Rules.{verdict}
use Rattle.frame_definition.specs.Find.{heard, meant, FindsNumbered}
use Rattle.frame_definition.specs.declared.Field.{Field}
use Rattle.text.specs.declared.Place.{Place}
use Rattle.header_rules.specs.Table.{row_width, cell, number_column, start_column, bits_column, valued_column, value_column, symbol_column}
use Rattle.header.specs.declared.DecodedHeader.{DecodedHeader}
use Rattle.header.specs.declared.Wanted.TheVariants.{One}
use Rattle.header.specs.Decode.{Within, judged, of_told, told_of, table_after, number_in, Decodes}
use Rattle.header.specs.Steps.{Answers}
use Rattle.header.proofs.Says.{decodes}
use Rattle.header.proofs.OneRow.{one_row, rows_told}
use Rattle.header.proofs.Room.{header-stands}
use Rattle.crc.specs.Crc.{right}
use Rattle.header_nodes.specs.Answer.{answer_of, rows_of}
use Rattle.buffer.specs.Buffer.{Writes, answer_in, buffer_after}
use Rattle.display.specs.Display.{display_value}
use Rattle.header_value.specs.Fields.{symbol_text, value_by, is_long, bytes_of, field_text, row_text}
use Rattle.header_value.specs.Lookup.{Stands}
use Rattle.header_value.specs.Answer.{of_decoded, HeaderValue}
use Rattle.header_value.proofs.LookupLaws.{lookup_laws}
use Rattle.std.specs.Prelude.{Option, Some, None, Result, Ok, Err}

-- ---- value_of
pub value_is : (valued v : ℕ) → valued ≡ 1 → Some v ≡ value_by valued v
value_is valued v e = rw (eq-eqb valued 1 e)

pub value_not : (valued v : ℕ) → (valued ≡ 1 → ⊥) → None ≡ value_by valued v
value_not valued v e = rw (ne_eqb valued 1 e)

-- ---- bytes_of
module _ (d : List ℕ) (start bits : ℕ) where
  pub bytes_few : bits ≤ 64 → [] ≡ bytes_of d start bits
  bytes_few h = rw (le-ltb 64 bits h)

  pub bytes-start : 64 < bits → (start % 8 ≡ 0 → ⊥) → [] ≡ bytes_of d start bits
  bytes-start h s = rw (lt-ltb 64 bits h, ne_eqb (start % 8) 0 s)

  pub bytes_bits : 64 < bits → start % 8 ≡ 0 → (bits % 8 ≡ 0 → ⊥) → [] ≡ bytes_of d start bits
  bytes_bits h s b = rw (lt-ltb 64 bits h, eq-eqb (start % 8) 0 s, ne_eqb (bits % 8) 0 b)

  pub bytes_are : (l : List ℕ) → l ≡ take (bits / 8) (drop (start / 8) d) → 64 < bits → start % 8 ≡ 0 → bits % 8 ≡ 0
      → l ≡ bytes_of d start bits
  bytes_are l e h s b = e ∙ rw (lt-ltb 64 bits h, eq-eqb (start % 8) 0 s, eq-eqb (bits % 8) 0 b)

  pub bytes-short : (l : List ℕ) → l ≡ bytes_of d start bits → length d ≤ 2048 → length l ≤ 2048
  bytes-short l e h = rw e (go (is_long start bits))
    where
      go : (b : Bool) → length (cond b (take (bits / 8) (drop (start / 8) d)) []) ≤ 2048
      go true = simp (length-take, length-drop) (omega arith)
      go false = omega arith

pub ruleset part_laws = (value_is, value_not, bytes_few, bytes-start, bytes_bits, bytes_are, bytes-short)

-- ---- field_value, row_value
pub field-shown : (t d : List ℕ) (f : Field) (start bits valued v n : ℕ) (symbol bytes : List ℕ) (value : Option ℕ) (b : List ℕ) (r : Result ℕ Refusal)
    (b' : List ℕ)
    → Writes (display_value symbol f.kind value bytes) b r b' → symbol ≡ symbol_text t (heard (λ l. l) t f.set) n
    → bytes ≡ bytes_of d start bits
    → value ≡ value_by valued v → Writes (field_text t d (Some (meant t f)) start bits valued v n) b r b'
unfolding field_text
field-shown t d f start bits valued v n symbol bytes value b r b' w s y e = rw (s, y, e) at w

module _ (t d rows : List ℕ) (k : ℕ) (x : Option (Field × Place)) (found : FindsNumbered t (cell rows k number_column) x) (b : List ℕ) (r : Result ℕ Refusal)
    (b' : List ℕ) where
  pub row-none : Writes [] b r b' → x ≡ None → Writes (row_text t d rows k) b r b'
  unfolding row_text field_text
  row-none w e = rw (rw e at found) w

  pub row-shown : (f : Field) (q : Place)
      → Writes (field_text t d (Some (meant t f)) (cell rows k start_column) (cell rows k bits_column) (cell rows k valued_column)
      (cell rows k value_column) (cell rows k symbol_column)) b r b'
      → x ≡ Some (f, q) → Writes (row_text t d rows k) b r b'
  unfolding row_text
  row-shown f q w e = rw (rw e at found) w

pub ruleset row_laws = (field-shown, row-none, row-shown)

-- ---- value_accepted: behind `decode_row`'s answer x and the table in which that row stands
module _ (t d : List ℕ) (region speed k : ℕ) (x : Result DecodedHeader Refusal) (rows : List ℕ)
    (dec : Answers t d region speed (One k) (replicate {A = ℕ} 896 0) x rows) where
  abbrev zeros : List ℕ
  zeros = replicate {A = ℕ} 896 0

  answer_is : x ≡ answer_of t d region speed
  unfolding answer_of
  answer_is = dec.answer

  -- with all rows
  whole : Decodes t d region speed zeros x (table_after zeros (told_of t d region speed (length zeros)) x)
  whole = decodes t d region speed zeros x (table_after zeros (told_of t d region speed (length zeros)) x) dec.answer refl

  whole_is : table_after zeros (told_of t d region speed (length zeros)) x ≡ rows_of t d region speed
  unfolding rows_of
  whole_is = rw dec.answer refl

  eight : Within t d → number_in (answer_of t d region speed) ≡ 8 → ⊥
  eight w e = (whole.by_readings w).enough (rw (length-replicate {A = ℕ} 896 0) (omega arith)) (rw answer_is e)

  -- a header is answered only for an MPDU within limits
  mpdu_short : (h : DecodedHeader) → x ≡ Ok h → length d ≤ 2048
  mpdu_short h is = go (verdict t) (ltb 2048 (length d)) refl (sym is ∙ dec.answer)
    where
      go : (v : Result (Unit {0}) Refusal) (long : Bool) → ltb 2048 (length d) ≡ long
          → Ok h ≡ judged v (cond long (Err (TooLong (length d))) (cond (ltb (length d) 2)
          (Err (TooShort (length d))) (of_told t (right d speed) (told_of t d region speed (length (replicate {A = ℕ} 896 0)))))) → length d ≤ 2048
      go (Err y) long q e = absurd (let z : ◌≡◌ {A = ℕ} 0 1 = cc in omega arith)
      go (Ok tt) true q e = absurd (let z : ◌≡◌ {A = ℕ} 0 1 = cc in omega arith)
      go (Ok tt) false q e = ltb-false 2048 (length d) q

  module _ (h : DecodedHeader) (is : x ≡ Ok h) where
    room : h.rows * row_width ≤ length zeros
    room = rw is at (header-stands t d region speed zeros x (table_after zeros (told_of t d region speed (length zeros)) x) whole)

    pub row-stands : k < h.rows → length rows ≡ 896 → Stands d rows k
    row-stands inside long =
        let s : h.rows * row_width ≤ 896 = rw (length-replicate {A = ℕ} 896 0) at room in
        record { short = mpdu_short h is; row = omega arith }

    row_same : k < h.rows → row_text t d rows k ≡ row_text t d (rows_of t d region speed) k
    unfolding row_text
    row_same inside =
        let many = rows_told t d region speed (length zeros) h (sym is ∙ dec.answer) in
        let same : (c : ℕ) → c < row_width → cell rows k c ≡ cell (rows_of t d region speed) k c =
        λ c l. one_row t d region speed k zeros x rows h dec is many room inside c l ∙ ap (λ (all : List ℕ). cell all k c) whole_is in
        rw (
          same number_column (omega arith),
          same start_column (omega arith),
          same bits_column (omega arith),
          same valued_column (omega arith),
          same value_column (omega arith),
          same symbol_column (omega arith),
        )
        refl

  module _ (b : List ℕ) where
    told : (r : Result ℕ Refusal) (b' : List ℕ) → r ≡ of_decoded (row_text t d (rows_of t d region speed) k) k (length b) x
        → b' ≡ buffer_after (row_text t d (rows_of t d region speed) k) b r
        → HeaderValue t d region speed k b r b'
    told r b' e l = record { answer = rw (← answer_is) e; leaves = l; enough = eight }

    pub told-refused : (y : Refusal) → x ≡ Err y → HeaderValue t d region speed k b (Err y) b
    told-refused y is = told _ _ (rw is refl) refl

    module _ (h : DecodedHeader) (is : x ≡ Ok h) where
      pub told-past : h.rows ≤ k → HeaderValue t d region speed k b (Err (NoSuchField k)) b
      told-past past = told _ _ (rw (is, le-leb h.rows k past) refl) refl

      pub told-row : (r : Result ℕ Refusal) (b' : List ℕ) → Writes (row_text t d rows k) b r b' → k < h.rows → HeaderValue t d region speed k b r b'
      told-row r b' w inside =
          let same : row_text t d rows k ≡ row_text t d (rows_of t d region speed) k = row_same h is inside in
          told r b' (rw (is, lt-leb h.rows k inside) (w.answer ∙ ap (λ (l : List ℕ). answer_in (length l) (length b)) same))
          (w.buffer ∙ ap (λ (l : List ℕ). buffer_after l b r) same)

-- ---- header_value
pub told-not : (t d : List ℕ) (region speed k : ℕ) (b : List ℕ) (v : Result (Unit {0}) Refusal) (y : Refusal) → v ≡ verdict t → v ≡ Err y
    → HeaderValue t d region speed k b (Err y) b
unfolding answer_of
told-not t d region speed k b v y is e =
    let w : verdict t ≡ Err y = sym is ∙ e in
    record {
      answer = rw w refl;
      leaves = refl;
      enough = λ i. absurd (let z : ◌≡◌ {A = ℕ} 0 1 = (let u : Err y ≡ (Ok tt) = sym w ∙ i.accepted in cc) in omega arith);
    }

pub told-judged : (t : List ℕ) (v : Result (Unit {0}) Refusal) → v ≡ verdict t → v ≡ Ok tt → verdict t ≡ Ok tt
told-judged t v is e = sym is ∙ e

pub ruleset told_laws = (told-refused, told-past, told-row, row-stands, told-not, told-judged)

pub ruleset laws = (lookup_laws, part_laws, row_laws, told_laws)
