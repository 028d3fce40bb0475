-- As many rows, nodes or bytes as a call answers stand in the table or buffer that it was lent. Assumes nothing.
use mathlib.Core.Path.{◌≡◌, refl}
use mathlib.Core.Bool.{Bool, true, false, cond}
use mathlib.Core.List.{List}
use Prim.Native.Nat.{ℕ, ◌/◌, ◌*◌, ◌≤◌}
use native.Mathlib.Omega.{arith}
use lib.Dec.{eqb, leb, ltb}
use lib.ListN.{length}
use borrow.Author.Tests.{eqb-false, leb-true, ltb-false}
use Rattle.refusal.specs.declared.Refusal.{Refusal}
use Rattle.refusal.specs.declared.Refusal.TheVariants.{NoSuchField, TooLong, MoreRows, MoreBytes, Xml, NotPlain}
use Rattle.refusal.specs.Refusal.{number_of, carried_by}
use Rattle.refusal.proofs.Numbers.{numbered}
use Rattle.frame.specs.declared.Reading.{Reading}
use Rattle.frame.specs.Frame.{region_bits, rules_of}
use Rattle.pti.specs.Payload as pti
use Rattle.command_text.specs.Rules.{verdict}
use Rattle.frame_text.specs.Rules.{verdict as frameVerdict}
use Rattle.tidy.specs.Tidy.{tidied}
use Rattle.header.proofs.Room as room
use Rattle.header_rules.specs.Table as header
use Rattle.command_class.specs.Definition.{definition}
use Rattle.command_rules.specs.Param.{in_payload}
use Rattle.command_rules.specs.Rows as command
use Rattle.command_rules.specs.Walk.{Walked, walk}
use Rattle.command_rules.specs.declared.Offsets.{Offsets}
use Rattle.command.specs.Answer as params
use Rattle.command_rules.specs.declared.Row.{Row}
use Rattle.command_row.specs.Answer.{row_of}
use Rattle.node_mask.specs.Nodes.{nodes_of, listed}
use Rattle.header_nodes.specs.Fields.{is_mask_row, mask_at}
use Rattle.header_nodes.specs.Answer.{no_such_field, of_row, answer_of, rows_of, of_decoded}
use Rattle.command_nodes.specs.Fields as fields
use Rattle.command_nodes.specs.Answer as nodes
use Rattle.buffer.specs.Buffer.{answer_in, answer_by}
use Rattle.header_value.specs.Fields.{row_text}
use Rattle.header_value.specs.Answer as value
use Rattle.command_value.specs.Params as shown-rows
use Rattle.command_value.specs.Answer as shown
use Rattle.libtap.specs.declared.TapAnswer.{TapAnswer}
use Rattle.libtap.specs.declared.headers.TapHeader.{TapHeader}
use Rattle.libtap.specs.declared.commands.TapParams.{TapParams}
use Rattle.libtap.specs.Answers.{Stands, ToldTidied, Told}
use Rattle.libtap.specs.Headers.{told_header, ToldHeader}
use Rattle.libtap.specs.Commands.{told_by}
use Rattle.libtap.specs.Nodes.{told_listed, ToldHeaderNodes, ToldCommandNodes}
use Rattle.totals_text.specs.Text.{text_of}
use Rattle.libtap.specs.Values.{told_written, ToldHeaderValue, ToldCommandValue}
use Rattle.libtap.specs.Totals.{ToldTotals}
use Rattle.plain_form.specs.PlainForm.{out_of_order, is_plain}
use Rattle.xml_elements.specs.Elements.{xml_of}
use Rattle.xml_writer.specs.Writer as writer
use Rattle.xml_document.specs.Document as document
use Rattle.xml.specs.Call as reader
use Rattle.libtap.specs.Xml.{ToldXml, ToldText}
use Rattle.std.specs.Prelude.{Option, Some, None, Result, Ok, Err}
use Rattle.header.specs.declared.DecodedHeader.{DecodedHeader}

refused-stands : (t : List ℕ) (x : Refusal) → Stands t (record { refusal = number_of x; value = carried_by x })
refused-stands t x z = absurd (eqb-false (number_of x) 0 (numbered x) z)

pub stands_in_lem : (t : List ℕ) (r : TapAnswer) → Stands t r → r.refusal ≡ 0 → r.value ≤ length t
stands_in_lem t r stands z = stands z

-- ---- the rows of a payload
abbrev said_by : Bool → Bool → Bool → ℕ → ℕ → ℕ → ℕ × ℕ
said_by u a b firmware n size = cond u (13, firmware) (cond a (cond b (0, n) (8, n)) (4, size))

frames_fit : (u a b : Bool) (firmware n room size : ℕ) → (b ≡ true → n ≤ room) → (said_by u a b firmware n size).0 ≡ 0
    → (said_by u a b firmware n size).1 ≤ room
frames_fit true a b firmware n room size h z = absurd (omega (arith, z))
frames_fit false true true firmware n room size h z = h refl
frames_fit false true false firmware n room size h z = absurd (omega (arith, z))
frames_fit false false b firmware n room size h z = absurd (omega (arith, z))

pub frames_stand : (firmware : ℕ) (reading : Reading) (s t : List ℕ) (r : TapAnswer) (t' : List ℕ) → Told firmware reading s t r t'
    → length t' ≡ length t → r.refusal ≡ 0 → r.value * pti.row_width ≤ length t'
frames_stand firmware reading s t r t' p same z =
    let rows : ℕ = length (pti.rows_of (rules_of firmware reading) s) in
    let few : r.value ≤ length t / pti.row_width =
    rw p.answer (frames_fit (eqb (region_bits firmware) 0) (leb (length s) 65535) (leb rows (length t / pti.row_width)) firmware rows
    (length t / pti.row_width) (length s) (leb-true rows (length t / pti.row_width)) (rw p.answer at z)) in
    omega (arith, few, same)

-- ---- the rows of a header
pub header-stands : (t d : List ℕ) (region speed : ℕ) (table : List ℕ) (r : TapHeader) (table' : List ℕ)
    → ToldHeader t d region speed table r table' → length table' ≡ length table → r.rows * header.row_width ≤ length table'
header-stands t d region speed table r table' p same =
    rw p.told (go p.answer (room.header-stands t d region speed table p.answer table' p.decodes))
  where
    go : (x : Result DecodedHeader Refusal) → room.Stands (length table) x → (told_header x).rows * header.row_width ≤ length table'
    go (Ok h) s = omega (arith, same)
    go (Err x) s = omega arith

-- ---- the rows of a command
module _ (offsets : Offsets) (payload t t' : List ℕ) (same : length t' ≡ length t) where
  abbrev RowsStand : params.Told → Type 0
  RowsStand a = a.rows * command.row_width ≤ length t'

  within-stands : (w : Walked) → RowsStand (params.within w (length t))
  unfolding params.within
  within-stands w = go (leb (length w.rows) (length t / command.row_width)) (leb-true (length w.rows) (length t / command.row_width))
    where
      go : (b : Bool) → (b ≡ true → length w.rows ≤ length t / command.row_width)
          → RowsStand (cond b (params.answered (length w.rows) (in_payload w.end)) (params.refused 8 (length w.rows)))
      go true few = omega (arith, few refl, same)
      go false few = omega arith

  judged-stands : (v : Result (Unit {0}) Refusal) (long short : Bool) (a : params.Told) → RowsStand a
      → RowsStand (params.on_verdict v (cond long (params.refused 4 (length payload)) (cond short (params.refused 5 (length payload)) a)))
  judged-stands (Err x) long short a s = omega arith
  judged-stands (Ok tt) true short a s = omega arith
  judged-stands (Ok tt) false true a s = omega arith
  judged-stands (Ok tt) false false a s = s

  answer-stands : (text : List ℕ) → RowsStand (params.answer_of offsets text payload (length t))
  unfolding params.answer_of params.answer_by
  answer-stands text =
      judged-stands (verdict text) (ltb 2048 (length payload)) (ltb (length payload) 2)
      (params.within (walk offsets (params.body_of payload) (definition text)) (length t))
      (within-stands (walk offsets (params.body_of payload) (definition text)))

pub params_stand : (offsets : Offsets) (text payload t : List ℕ) (r : TapParams) (t' : List ℕ)
    → params.Decodes offsets text payload t (told_by r) t' → length t' ≡ length t → r.rows * command.row_width ≤ length t'
unfolding told_by
params_stand offsets text payload t r t' p same = rw (← p.answer) at (answer-stands offsets payload t t' same text)

-- ---- the nodes of a header's row
module _ (table table' : List ℕ) (same : length table' ≡ length table) where
  listed-stands : (m : List ℕ) → Stands table' (told_listed (listed m (length table)))
  listed-stands m = by_long (ltb 8191 (length m))
    where
      by_room : (b : Bool) → ltb (length table) (length (nodes_of m)) ≡ b
          → Stands table' (told_listed (cond b (Err (MoreRows (length (nodes_of m)))) (Ok (length (nodes_of m)))))
      by_room true e = refused-stands table' (MoreRows (length (nodes_of m)))
      by_room false e = λ z. omega (arith, same, ltb-false (length table) (length (nodes_of m)) e)

      by_long : (b : Bool) → Stands table' (told_listed (cond b (Err (TooLong (length m)))
          (cond (ltb (length table) (length (nodes_of m))) (Err (MoreRows (length (nodes_of m)))) (Ok (length (nodes_of m))))))
      by_long true = refused-stands table' (TooLong (length m))
      by_long false = by_room (ltb (length table) (length (nodes_of m))) refl

pub nodes_stand : (t d : List ℕ) (region speed k : ℕ) (table : List ℕ) (r : TapAnswer) (table' : List ℕ)
    → ToldHeaderNodes t d region speed k table r table' → length table' ≡ length table → Stands table' r
nodes_stand t d region speed k table r table' p same = rw (p.told_so, p.lists.answer) (by_answer (answer_of t d region speed))
  where
    by_row : (b : Bool) → Stands table' (told_listed (cond b (listed (mask_at d (rows_of t d region speed) k) (length table)) (no_such_field k)))
    by_row true = listed-stands table table' same (mask_at d (rows_of t d region speed) k)
    by_row false = refused-stands table' (NoSuchField k)

    past : (b : Bool) → Stands table' (told_listed (cond b (no_such_field k) (of_row t d (rows_of t d region speed) k (length table))))
    past true = refused-stands table' (NoSuchField k)
    past false = by_row (is_mask_row t (rows_of t d region speed) k)

    by_answer : (x : Result DecodedHeader Refusal) → Stands table' (told_listed (of_decoded t d (rows_of t d region speed) k (length table) x))
    by_answer (Ok h) = past (leb h.rows k)
    by_answer (Err x) = refused-stands table' x

-- ---- the nodes of a command's row
pub command_nodes_stand : (offsets : Offsets) (t payload : List ℕ) (k : ℕ) (table : List ℕ) (r : TapAnswer) (table' : List ℕ)
    → ToldCommandNodes offsets t payload k table r table' → length table' ≡ length table → Stands table' r
command_nodes_stand offsets t payload k table r table' p same = rw (p.told_so, p.lists.answer) (by_found (row_of offsets t payload k))
  where
    by_row : (row : Row) (b : Bool) → Stands table' (told_listed (cond b (listed (fields.mask_of payload row) (length table)) (nodes.no_such_field k)))
    by_row row true = listed-stands table table' same (fields.mask_of payload row)
    by_row row false = refused-stands table' (NoSuchField k)

    by_found : (x : Result Row Refusal) → Stands table' (told_listed (nodes.of_found t payload k (length table) x))
    by_found (Ok row) = by_row row (fields.is_mask_row t row)
    by_found (Err x) = refused-stands table' x

-- ---- a text in a buffer
pub written_stands : (n : ℕ) (b b' : List ℕ) → length b' ≡ length b → Stands b' (told_written (answer_in n (length b)))
written_stands n b b' same = go (leb n (length b)) refl
  where
    go : (x : Bool) → leb n (length b) ≡ x → Stands b' (told_written (cond x (Ok n) (Err (MoreBytes n))))
    go true e = λ z. omega (arith, same, leb-true n (length b) e)
    go false e = refused-stands b' (MoreBytes n)

checked_stands : (v : Result (Unit {0}) Refusal) (a : Result ℕ Refusal) (b : List ℕ) → Stands b (told_written a) → Stands b (told_written (answer_by v a))
checked_stands (Ok tt) a b s = s
checked_stands (Err x) a b s = refused-stands b x

-- ---- a tidied text
pub tidied-stands : (t b : List ℕ) (r : TapAnswer) (b' : List ℕ) → ToldTidied t b r b' → length b' ≡ length b → Stands b' r
tidied-stands t b r b' p same =
    rw (p.told_so, p.tidies.answer)
    (checked_stands (verdict t) (answer_in (length (tidied t)) (length b)) b' (written_stands (length (tidied t)) b b' same))

-- ---- the text of a header's row
pub value-stands : (t d : List ℕ) (region speed k : ℕ) (b : List ℕ) (r : TapAnswer) (b' : List ℕ)
    → ToldHeaderValue t d region speed k b r b' → length b' ≡ length b → Stands b' r
value-stands t d region speed k b r b' p same = rw (p.told_so, p.shows.answer) (by_answer (answer_of t d region speed))
  where
    past : (x : Bool)
        → Stands b' (told_written (cond x (Err (NoSuchField k)) (answer_in (length (row_text t d (rows_of t d region speed) k)) (length b))))
    past true = refused-stands b' (NoSuchField k)
    past false = written_stands (length (row_text t d (rows_of t d region speed) k)) b b' same

    by_answer : (x : Result DecodedHeader Refusal) → Stands b' (told_written (value.of_decoded (row_text t d (rows_of t d region speed) k) k (length b) x))
    by_answer (Ok h) = past (leb h.rows k)
    by_answer (Err x) = refused-stands b' x

-- ---- the text of a command's row
pub command_value-stands : (offsets : Offsets) (t p : List ℕ) (k : ℕ) (b : List ℕ) (r : TapAnswer) (b' : List ℕ)
    → ToldCommandValue offsets t p k b r b'
    → length b' ≡ length b → Stands b' r
command_value-stands offsets t p k b r b' told same = rw (told.told_so, told.shows.answer) (by_found (row_of offsets t p k))
  where
    by_found : (x : Result Row Refusal) → Stands b' (told_written (shown.of_found t p (length b) x))
    by_found (Ok row) = written_stands (length (shown-rows.row_text t p row)) b b' same
    by_found (Err x) = refused-stands b' x

-- ---- the text of totals
pub totals_stand : (totals b : List ℕ) (r : TapAnswer) (b' : List ℕ) → ToldTotals totals b r b' → length b' ≡ length b → Stands b' r
totals_stand totals b r b' p same = rw (p.told_so, p.writes.answer) (written_stands (length (text_of totals)) b b' same)

-- ---- a frame text as XML
pub xml_stands : (t b : List ℕ) (r : TapAnswer) (b' : List ℕ) → ToldXml t b r b' → length b' ≡ length b → Stands b' r
xml_stands t b r b' p same =
    rw (p.told_so, p.writes.answer) (checked_stands (frameVerdict t) (writer.plain_answer t (length b)) b' (by_plain (is_plain t)))
  where
    by_plain : (x : Bool) → Stands b' (told_written (cond x (answer_in (length (xml_of t)) (length b)) (Err (NotPlain (out_of_order t)))))
    by_plain true = written_stands (length (xml_of t)) b b' same
    by_plain false = refused-stands b' (NotPlain (out_of_order t))

-- ---- XML as a frame text
pub text-stands : (x b : List ℕ) (r : TapAnswer) (b' : List ℕ) → ToldText x b r b' → length b' ≡ length b → Stands b' r
text-stands x b r b' p same = rw (p.told_so, p.turns.answer) (by_fault_lem (document.verdict x))
  where
    said : List ℕ
    said = document.text_of x

    by_fault_lem : (f : Option ℕ) → Stands b' (told_written (reader.by_fault f (answer_by (frameVerdict said) (answer_in (length said) (length b)))))
    by_fault_lem None = checked_stands (frameVerdict said) (answer_in (length said) (length b)) b' (written_stands (length said) b b' same)
    by_fault_lem (Some place) = refused-stands b' (Xml place)

pub ruleset standing_laws = (stands_in_lem, frames_stand, tidied-stands, header-stands, params_stand)

pub ruleset node_standing = (stands_in_lem, nodes_stand, command_nodes_stand)

pub ruleset value_standing = (stands_in_lem, value-stands, command_value-stands)

pub ruleset totals_standing = (stands_in_lem, totals_stand)

pub ruleset xml_standing = (stands_in_lem, xml_stands, text-stands)
