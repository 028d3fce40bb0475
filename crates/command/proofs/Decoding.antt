-- Laws of the decoding calls. Assumes nothing.
use mathlib.Core.Path.{◌≡◌, refl, sym, ◌∙◌, subst}
use mathlib.Core.Bool.{Bool, true, false, cond}
use mathlib.Core.List.{List, [], ◌++◌}
use Prim.Native.Nat.{ℕ, ◌-◌, ◌*◌, ◌/◌, ◌^◌, ◌≤◌, ◌<◌}
use native.Mathlib.Omega.{arith}
use lib.Dec.{leb}
use lib.ListN.{length, take, drop, length-drop}
use lib.Seq.{length-take-le}
use borrow.Author.Tests.{eqb-false, le-leb, lt-leb, lt-ltb, le-ltb}
use Rattle.laws.proofs.Lists.{tail}
use Rattle.refusal.specs.declared.Refusal.{Refusal}
use Rattle.refusal.specs.declared.Refusal.TheVariants.{TooLong, TooShort, MoreRows}
use Rattle.refusal.proofs.Numbers.{numbered}
use Rattle.refusal.specs.Refusal.{number_of}
use Rattle.records.specs.declared.PayloadOffset.{PayloadOffset}
use Rattle.text.specs.Text.{lines}
use Rattle.text.specs.Records.{records}
use Rattle.command_text.specs.Form.{form}
use Rattle.command_text.specs.Rules.{verdict}
use Rattle.command_class.specs.Definition.{definition}
use Rattle.command_class.proofs.Limits.{accepted-within}
use Rattle.command_schema.specs.Heads.{heads_of, entries_of}
use Rattle.command_schema.specs.Loaded.{loaded_width, IsLoaded}
use Rattle.command_schema.proofs.Heads.{definition-heads, heads-count}
use Rattle.command_schema.proofs.Sizes.{heads-short}
use Rattle.command_schema.proofs.Told.{entries_small, accepted_small}
use Rattle.command_rules.specs.Rows.{row_width, table, rows_in}
use Rattle.command_rules.specs.declared.Offsets.{Offsets}
use Rattle.command_rules.specs.declared.Row.{Row}
use Rattle.command_rules.specs.Limits.{SmallEntries}
use Rattle.command_rows.proofs.Laws.{written-full, written-table}
use Rattle.command_rules.specs.Param.{in_payload}
use Rattle.command_rules.specs.Walk.{Walked, walk}
use Rattle.command_groups.specs.Steps.{Gives}
use Rattle.command_rules.specs.Sum.{Adds}
use Rattle.command.specs.Answer.{Told, answered, refused, told, body_of, within, answer_by, answer_of, table_after, Fills, AddsUp, DecodesBy}
use Rattle.command.specs.Answer.{Decodes}
use Rattle.command_groups.specs.declared.Taken.{Taken}
use Rattle.command_rules.proofs.Rows.{table-rows}
use Rattle.command_rules.proofs.Bounds.{walk-most, walk_inside}
use Rattle.command_rules.proofs.Slots.{entries_lined}
use Rattle.command_rules.proofs.Wanting.{walk_adds}
use Rattle.std.specs.Prelude.{Result, Ok, Err}

-- ---- one pass
pub body-rows : (w : Walked) (t t' : List ℕ) (r : Taken) (p : PayloadOffset) → Gives w 0 t 0 t' r → length w.rows ≤ length t / row_width
    → p.0 ≡ in_payload r.end.0 → Fills w t (told (Ok (record { count = r.count; remainder = p }))) t'
unfolding told within
body-rows w t t' r p wrote h ep =
    let q : p.0 ≡ in_payload w.end = rw wrote.end at ep in
    record { answer = rw (le-leb (length w.rows) (length t / row_width) h, wrote.count, q) refl; table_is = wrote.rows ∙ written-table t w.rows h }

-- ---- the two passes
module _ (w : Walked) (t ys : List ℕ) (m : Taken) (first : Gives w 0 [] 0 ys m) where
  -- the first writes nothing
  nothing : ys ≡ []
  nothing = first.rows ∙ written-full 0 [] 0 w.rows (omega arith)

  pub body_needs : length (ys ++ t) / row_width < m.count → Fills w t (told (Err (MoreRows m.count))) (ys ++ t)
  unfolding told within
  body_needs h =
      let z = nothing in
      let n = first.count in
      let l : length t / row_width < m.count = rw z at h in
      record { answer = rw (lt-leb (length w.rows) (length t / row_width) (omega arith), n) refl; table_is = rw z refl }

  pub body-fits : m.count ≤ length (ys ++ t) / row_width → length w.rows ≤ length (ys ++ t) / row_width
  body-fits h = let n = first.count in omega arith

  pub body_wrote : (a : Told) (t' : List ℕ) → Fills w (ys ++ t) a t' → Fills w t a t'
  body_wrote a t' fills = rw nothing at fills

-- a part from the start has as many numbers as it is cut to
pub body-part : (t : List ℕ) (n : ℕ) → n ≤ length t → n ≡ length (take n t)
body-part t n h = sym (length-take-le n t h)

pub body-inside : (offsets : Offsets) (x l body : List ℕ) (count : ℕ) (t t' : List ℕ) (r : Taken) → IsLoaded x l count → length body < 65536
    → Gives (walk offsets body (entries_of (heads_of x))) 0 t 0 t' r → r.end.0 < 2 ^ 32
body-inside offsets x l body count t t' r loaded h w = let i = walk_inside offsets body (entries_of (heads_of x)) (entries_small x l count loaded) in let e =
    w.end in omega arith

-- a byte has at most 34 rows
pub body_sure : (offsets : Offsets) (x l body : List ℕ) (count : ℕ) (t : List ℕ) → IsLoaded x l count → length body * (34 * row_width) ≤ length t
    → length (walk offsets body (entries_of (heads_of x))).rows ≤ length t / row_width
body_sure offsets x l body count t loaded h = let m = walk-most offsets body (entries_of (heads_of x)) (entries_small x l count loaded) in omega arith

pub ruleset body_laws = (body-rows, body_needs, body-fits, body_wrote, body-part, body-inside, body_sure)

-- ---- the table that a text is loaded into
pub loaded_all : (x l : List ℕ) → verdict x ≡ Ok tt → length l ≡ 256 * loaded_width → length (heads_of x) * loaded_width ≤ length l
loaded_all x l accepted size = let c = heads-count 1 (records form (lines x)) in let w = (accepted-within x accepted).1.lines in omega arith

pub loaded_short : (x l : List ℕ) → length x ≤ 240 → length l ≡ 48 * loaded_width → length (heads_of x) * loaded_width ≤ length l
loaded_short x l h size = let s = heads-short x in omega arith

-- ---- by an accepted text
module _ (offsets : Offsets) (x payload t : List ℕ) where
  pub accepted-long : 2048 < length payload → DecodesBy offsets x payload t (told (Err (TooLong (length payload)))) t
  unfolding told answer_by table_after AddsUp
  accepted-long h = record { answer = rw (lt-ltb 2048 (length payload) h) refl; table_is = refl; adds = λ z. absurd (omega arith) }

  pub accepted-short : length payload ≤ 2048 → length payload < 2 → DecodesBy offsets x payload t (told (Err (TooShort (length payload)))) t
  unfolding told answer_by table_after AddsUp
  accepted-short h u =
      record { answer = rw (le-ltb 2048 (length payload) h, lt-ltb (length payload) 2 u) refl; table_is = refl; adds = λ z. absurd (omega arith) }

  module _ (accepted : verdict x ≡ Ok tt) (long : length payload ≤ 2048) (short : 2 ≤ length payload) where
    -- the body as it is lent
    the_body : take (length payload - 2) (drop 2 payload) ≡ body_of payload
    the_body = tail payload 2

    pub accepted-room : length (take (length payload - 2) (drop 2 payload)) < 65536
    accepted-room = rw (the_body, length-drop) (omega arith)

    small : SmallEntries (definition x)
    small = rw (definition-heads x) (accepted_small x accepted)

    -- demand 3, of the rows that stand in the table
    sums : (a : Told) (t' : List ℕ) → Fills (walk offsets (body_of payload) (definition x)) t a t' → AddsUp offsets (definition x) payload a t'
    unfolding within AddsUp
    sums a t' f z = go (leb (length (walk offsets (body_of payload) (definition x)).rows) (length t / row_width)) f.answer
      where
        rows : List Row
        rows = (walk offsets (body_of payload) (definition x)).rows

        go : (b : Bool) → a ≡ cond b (answered (length rows) (in_payload (walk offsets (body_of payload) (definition x)).end)) (refused 8 (length rows))
            → Adds offsets (definition x) (length payload) (rows_in a.rows t') a.remainder
        go true q =
            let laid : t' ≡ table t rows = rw z at f.table_is in
            rw (laid, q, table-rows t rows)
            (walk_adds offsets (body_of payload) (definition x) (length payload) small (entries_lined 1 (records form (lines x)))
            (let d = length-drop 2 payload in omega arith))
        go false q = absurd (let e : a.refusal ≡ 8 = rw q refl in omega arith)

    pub accepted_fills : (a : Told) (t' : List ℕ) → Fills (walk offsets (take (length payload - 2) (drop 2 payload)) (entries_of (heads_of x))) t a t'
        → DecodesBy offsets x payload t a t'
    unfolding answer_by table_after
    accepted_fills a t' fills =
        let is : walk offsets (take (length payload - 2) (drop 2 payload)) (entries_of (heads_of x)) ≡ walk offsets (body_of payload) (definition x) =
        rw (the_body, ← definition-heads x) refl in
        let f : Fills (walk offsets (body_of payload) (definition x)) t a t' = subst (λ (w : Walked). Fills w t a t') is fills in
        record {
          answer = rw (le-ltb 2048 (length payload) long, le-ltb (length payload) 2 short) f.answer;
          table_is = f.table_is;
          adds = sums a t' f;
        }

pub ruleset accepted_laws = (loaded_all, loaded_short, accepted-long, accepted-short, accepted-room, accepted_fills)

-- ---- by any text
module _ (offsets : Offsets) (x payload t : List ℕ) (v : Result (Unit {0}) Refusal) (is-v : v ≡ verdict x) where
  pub text-accepted : v ≡ Ok tt → verdict x ≡ Ok tt
  text-accepted e = sym is-v ∙ e

  pub text-refused : (why : Refusal) → v ≡ Err why → Decodes offsets x payload t (told (Err why)) t
  unfolding told answer_of table_after AddsUp
  text-refused why e =
      let n = eqb-false (number_of why) 0 (numbered why) in
      record { answer = rw (← is-v, e) refl; table_is = rw (numbered why) refl; adds = λ z. absurd (n z) }

  pub text-decoded : (a : Told) (t' : List ℕ) → DecodesBy offsets x payload t a t' → v ≡ Ok tt → Decodes offsets x payload t a t'
  unfolding answer_of
  text-decoded a t' d e = record { answer = rw (← is-v, e) d.answer; table_is = d.table_is; adds = d.adds }

pub ruleset decode_laws = (text-accepted, text-refused, text-decoded)
