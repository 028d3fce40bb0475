-- Laws of a Q's rows. Assumes nothing.
use mathlib.Core.Path.{◌≡◌, refl, sym, ap, ◌∙◌}
use mathlib.Core.Bool.{Bool, true}
use mathlib.Core.List.{List, [], ◌∷◌, ◌++◌}
use Prim.Native.Nat.{ℕ, ◌+◌, ◌-◌, ◌≤◌, ◌<◌}
use native.Mathlib.Omega.{arith}
use mir.Syntax.{w64}
use mir.Val.{Fits}
use lib.ListN.{length, get_or, take, drop}
use borrow.Author.Tests.{eq-eqb, ne_eqb}
use Rattle.command_class.specs.Definition.{under}
use Rattle.command_class.specs.Find.{from}
use Rattle.command_lengths.specs.Entries.{entries, given, earlier}
use Rattle.command_rules.specs.Lengths.{wanted, size_of, Agrees}
use Rattle.command_rules.specs.declared.Rule.{Rule}
use Rattle.command_rules.specs.declared.Length.{Length}
use Rattle.command_rules.proofs.Lengths.{size-within, size_some, size_agrees}
use Rattle.command_rules.specs.Field.{Field}
use Rattle.command_schema.specs.Loaded.{rule_in, after, field_in, Stands}
use Rattle.command_schema.specs.declared.Loaded.{Loaded}
use Rattle.command_rows.specs.Rows.{written, row_at, left_out, Writes}
use Rattle.command_rules.specs.declared.Row.{Row}
use Rattle.command_rows.proofs.Laws.{written_none, written-left_out, written-more, part_back}
use Rattle.command_rules.specs.Param.{in_payload, value_of, valued, or_zero, const_line, entry_of, bit_rows, child_rows, row_of, bytes_at, size_at, param_rows}
use Rattle.command_rules.specs.Param.{param_entry}
use Rattle.command_param.specs.Steps.{WritesParam, ReadsParam}
use Rattle.command_param.specs.declared.Wrote.{Wrote}
use Rattle.command_param.proofs.Bits.{total_is, none_of}
use Rattle.std.specs.Prelude.{Option, Some, None, unwrap_or}

-- ---- its own row
pub row_is : (t : List ℕ) (q : Loaded) (bs : List ℕ) (start parent : ℕ) (value : Option ℕ) (a v k lacking : ℕ) → value ≡ value_of bs
    → a ≡ valued value
    → v ≡ or_zero value → k ≡ const_line (field_in t q) value
    → ◌≡◌ {A = Row} (record {
      kind = 0;
      line = q.line;
      parent = parent;
      start = start;
      end = start + length bs;
      valued = a;
      value = v;
      named =
          k;
      number = 0;
      lacking = lacking;
    }) (row_of (field_in t q) parent start bs lacking)
row_is t q bs start parent value a v k lacking is-value ea ev ek = rw (ea, ev, ek, is-value) refl

-- ---- its children
module _ (q : Field) (bs d : List ℕ) (start parent s : ℕ) where
  pub no_children : (length bs ≡ 1 → ⊥) → Writes s d 1 (child_rows q parent start bs) d 0
  no_children h = rw (ne_eqb (length bs) 1 h) (record { rows = sym (written_none s d 1); count = refl })

-- no T and no S
pub no_bits : (t : List ℕ) (q : Loaded) (bs d : List ℕ) (start parent s : ℕ) → Stands t q → q.bits ≡ 0 → length bs ≡ 1
    → Writes s d 1 (child_rows (field_in t q) parent start bs) d 0
no_bits t q bs d start parent s stands none h =
    let e : length (bit_rows (get_or bs 0 0) parent start (under (from t (after q)))) ≡ 0 = sym (total_is t q (get_or bs 0 0) parent start s stands) ∙ none in
    rw (eq-eqb (length bs) 1 h, none_of (bit_rows (get_or bs 0 0) parent start (under (from t (after q)))) e)
    (record { rows = sym (written_none s d 1); count = refl })

pub left_out_children : (t : List ℕ) (q : Loaded) (bs d : List ℕ) (start parent s : ℕ) (b : Bool) → Stands t q
    → b ≡ left_out s (q.bits + 1) (length d) → b ≡ true
    → length bs ≡ 1 → Writes s d 1 (child_rows (field_in t q) parent start bs) d q.bits
left_out_children t q bs d start parent s b stands is e h =
    let c : q.bits ≡ length (bit_rows (get_or bs 0 0) parent start (under (from t (after q)))) = total_is t q (get_or bs 0 0) parent start s stands in
    rw (eq-eqb (length bs) 1 h)
    (record {
      rows = sym (written-left_out s d 1 (bit_rows (get_or bs 0 0) parent start (under (from t (after q)))) (q.bits + 1) b is (omega arith) e);
      count = c;
    })

pub part_children : (t : List ℕ) (q : Loaded) (bs d ys : List ℕ) (start parent s left rest b c : ℕ)
    → Writes left (take (length d - rest) (drop rest d)) 0 (bit_rows b parent start (under (from t (after q)))) ys c
    → rest ≡ row_at s 1 (length d) → left ≡ s - 1 → b ≡ get_or bs 0 0 → length bs ≡ 1
    → Writes s d 1 (child_rows (field_in t q) parent start bs) (take rest d ++ (ys ++ drop (length d - rest) (drop rest d))) c
part_children t q bs d ys start parent s left rest b c w er el eb h =
    rw (eq-eqb (length bs) 1 h, ← eb)
    (record { rows = part_back s d ys 1 rest left (bit_rows b parent start (under (from t (after q)))) er el w.rows; count = w.count })

-- the value of a row, or 0
pub zero_is : (value : Option ℕ) (v : ℕ) → v ≡ unwrap_or value 0 → v ≡ or_zero value
zero_is (Some x) v e = e
zero_is None v e = e

pub ruleset row_laws = (row_is, zero_is, no_children, no_bits, left_out_children, part_children)

-- ---- its own row in the table
pub own_left_out : (s : ℕ) (d : List ℕ) (row : Row) (b : Bool) → b ≡ left_out s 1 (length d) → b ≡ true → d ≡ written s d 0 (row ∷ [])
own_left_out s d row b is e = sym (written-left_out s d 0 (row ∷ []) 1 b is refl e)

pub own_written : (t : List ℕ) (q : Loaded) (bs : List ℕ) (at start parent lacking s : ℕ) (d d' : List ℕ) (row : Row)
    → d' ≡ written s d 0 (row ∷ [])
    → row ≡ row_of (field_in t q) parent start bs lacking → start ≡ in_payload at
    → d' ≡ written s d 0 (row_of (field_in t q) parent (in_payload at) bs lacking ∷ [])
own_written t q bs at start parent lacking s d d' row e r es = rw (← es, ← r) e

pub ruleset own_laws = (own_left_out, own_written)

-- ---- all its rows

module _ (t : List ℕ) (q : Loaded) (body : List ℕ) (at : ℕ) (size : Length) (n parent start s : ℕ) (d₀ d : List ℕ) where
  -- the bytes that it takes, as they are lent
  the_bytes : take (at + size.taken - at) (drop at body) ≡ bytes_at body at size.taken
  the_bytes = let z : at + size.taken - at ≡ size.taken = omega arith in rw z refl

  pub param-written : (d' : List ℕ) (c : ℕ) (value : Option ℕ) (e : ℕ)
      → d ≡ written s d₀ 0 (row_of (field_in t q) parent (in_payload at) (take (at + size.taken - at) (drop at body)) size.lacking ∷ [])
      → Writes s d 1 (child_rows (field_in t q) (n + 1) start (take (at + size.taken - at) (drop at body))) d' c → start ≡ in_payload at
      → value ≡ value_of (take (at + size.taken - at) (drop at body)) → earlier e ≡ entry_of value
      → WritesParam body (field_in t q) at size n parent s d₀ d' (record { entry = e; count = c + 1 })
  unfolding param_rows param_entry
  param-written d' c value e ed w es ev ee =
      let b : take (at + size.taken - at) (drop at body) ≡ take size.taken (drop at body) = the_bytes in
      let kids : d' ≡ written s d 1 (child_rows (field_in t q) (n + 1) (in_payload at) (take size.taken (drop at body))) = rw (b, es) at w.rows in
      let own : d ≡ written s d₀ 0 (row_of (field_in t q) parent (in_payload at) (take size.taken (drop at body)) size.lacking ∷ []) = rw b at ed in
      let c-is : c ≡ length (child_rows (field_in t q) (n + 1) (in_payload at) (take size.taken (drop at body))) = rw (b, es) at w.count in
      record {
        rows = kids ∙ rw own (written-more s d₀ 0 (row_of (field_in t q) parent (in_payload at) (take size.taken (drop at body)) size.lacking ∷ [])
            (child_rows (field_in t q) (n + 1) (in_payload at) (take size.taken (drop at body))) 1 refl);
        count = omega arith;
        entry = ee ∙ ap entry_of (ev ∙ ap value_of b);
      }

pub ruleset written_laws = (param-written)

-- ---- a Q at a place of the body
module _ (t : List ℕ) (q : Loaded) (body ns : List ℕ) (at n parent skip : ℕ) (d : List ℕ) (rest : ℕ) (rule : Rule) (s : Option Length)
    (is-s : s ≡ size_of (given q.optionaloffs) (given q.optionalmask) rule (entries ns) rest) (is-rule : rule ≡ rule_in q)
    (is-rest : rest ≡ length body - at) where
  here : s ≡ size_at body (field_in t q) (entries ns) at
  here = rw (is-rule, is-rest) at is-s

  pub param_absent : s ≡ None → ReadsParam body (field_in t q) (entries ns) at n parent skip d 0 d None
  param_absent e = record { there = sym here ∙ e; rows = refl }

  module _ (size : Length) (e : s ≡ Some size) where
    there : size_at body (field_in t q) (entries ns) at ≡ Some size
    there = sym here ∙ e

    pub param-inside : at + size.taken ≤ length body
    param-inside =
        let a = size-within (given q.optionaloffs) (given q.optionalmask) (rule_in q) (entries ns) (length body - at) size there in
        let b = size_some (given q.optionaloffs) (given q.optionalmask) (rule_in q) (entries ns) (length body - at) size there in
        omega arith

    pub param_end_fits : length body < 65536 → Fits w64 (at + size.taken)
    param_end_fits h = omega (arith, param-inside)

    agreed : Agrees (wanted (field_in t q).rule (entries ns)) size
    agreed = size_agrees (given q.optionaloffs) (given q.optionalmask) (rule_in q) (entries ns) (length body - at) size there

    pub param_read : (d' : List ℕ) (w : Wrote) → WritesParam body (field_in t q) at size n parent skip d d' w
        → ReadsParam body (field_in t q) (entries ns) at n parent skip d 0 d' (Some (record { end = record { 0 = at + size.taken }; entry = w.entry; count = w.count }))
    param_read d' w wrote = record { size = size; there = there; end = refl; agrees = agreed; entry = wrote.entry; count = wrote.count; rows = wrote.rows }

pub ruleset param_laws = (param_absent, param-inside, param_end_fits, param_read)
