-- Laws of one row of a command. Assumes nothing.
use mathlib.Core.Path.{◌≡◌, refl, sym, ap, ◌∙◌}
use mathlib.Core.List.{List, [], ◌∷◌}
use Prim.Native.Nat.{ℕ, ◌-◌, ◌≤◌, ◌<◌}
use native.Mathlib.Omega.{arith}
use lib.ListN.{length, take, drop, length-drop, drop_of_length-le}
use lib.Seq.{take_all, take-nil}
use borrow.Author.Tests.{lt-ltb, le-ltb}
use Rattle.laws.proofs.Lists.{done, tail}
use Rattle.refusal.specs.declared.Refusal.{Refusal}
use Rattle.refusal.specs.declared.Refusal.TheVariants.{TooLong, TooShort, NoSuchField}
use Rattle.command_text.specs.Rules.{verdict}
use Rattle.command_class.specs.Definition.{Entry, definition}
use Rattle.command_schema.specs.Heads.{heads_of, entries_of}
use Rattle.command_schema.proofs.Heads.{definition-heads}
use Rattle.command_rules.specs.Rows.{row_width, table}
use Rattle.command_rules.specs.declared.Offsets.{Offsets}
use Rattle.command_rules.specs.declared.Row.{Row as Numbers}
use Rattle.command_rules.specs.Walk.{Walked, walk}
use Rattle.command_rows.specs.Rows.{row_in}
use Rattle.command_rows.proofs.Laws.{written_one}
use Rattle.command_groups.specs.Steps.{Gives}
use Rattle.command_groups.specs.declared.Taken.{Taken}
use Rattle.command.specs.Answer.{body_of}
use Rattle.command.proofs.Decoding.{loaded_all, loaded_short}
use Rattle.command_row.specs.Answer.{nth, row_by, row_of, bytes_of}
use Rattle.std.specs.Prelude.{Result, Ok, Err}
use Rattle.command_rules.specs.declared.Row.{Row}

-- ---- row_by

first-laid : (t : List ℕ) (r : Numbers) → row_in (table t (r ∷ [])) 0 ≡ r
unfolding table
first-laid t r = refl

module _ (w : Walked) (k : ℕ) (t t' : List ℕ) (m : Taken) (given : Gives w k t 0 t' m) where
  pub row-past : m.count ≤ k → Err (NoSuchField k) ≡ nth k w.rows
  row-past h =
      let c = given.count in
      let few : length w.rows ≤ k = omega arith in
      let e : drop k w.rows ≡ [] = drop_of_length-le w.rows few in
      rw e refl

  pub row_there : (r : Numbers) → r ≡ row_in t' 0 → length t ≡ row_width → k < m.count → Ok r ≡ nth k w.rows
  row_there r is size h = go (drop k w.rows) refl
    where
      go : (rs : List Numbers) → drop k w.rows ≡ rs → Ok r ≡ nth k w.rows
      go [] e =
          let n : length w.rows - k ≡ 0 = sym (length-drop k w.rows) ∙ ap length e in
          let c = given.count in
          absurd (omega arith)
      go (x ∷ rs) e = rw (e, is, given.rows, written_one k t w.rows x rs size e, first-laid t x) refl

-- ---- row_accepted
module _ (offsets : Offsets) (x payload : List ℕ) (k : ℕ) where
  pub accepted-long : (ds : List Entry) → 2048 < length payload → Err (TooLong (length payload)) ≡ row_by offsets ds payload k
  unfolding row_by
  accepted-long ds h = rw (lt-ltb 2048 (length payload) h) refl

  module _ (long : length payload ≤ 2048) where
    pub accepted-short : (ds : List Entry) → length payload < 2 → Err (TooShort (length payload)) ≡ row_by offsets ds payload k
    unfolding row_by
    accepted-short ds h = rw (le-ltb 2048 (length payload) long, lt-ltb (length payload) 2 h) refl

    module _ (short : 2 ≤ length payload) where
      -- the body as it is lent
      the_body : take (length payload - 2) (drop 2 payload) ≡ body_of payload
      the_body = tail payload 2

      pub accepted-room : length (take (length payload - 2) (drop 2 payload)) < 65536
      accepted-room = rw (the_body, length-drop) (omega arith)

      pub accepted-row : (r : Result Row Refusal) → r ≡ nth k (walk offsets (take (length payload - 2) (drop 2 payload)) (entries_of (heads_of x))).rows
          → r ≡ row_by offsets (definition x) payload k
      unfolding row_by
      accepted-row r e =
          rw (le-ltb 2048 (length payload) long, le-ltb (length payload) 2 short, definition-heads x) (rw the_body at e)

-- ---- command_row
module _ (offsets : Offsets) (x payload : List ℕ) (k : ℕ) (v : Result (Unit {0}) Refusal) (is-v : v ≡ verdict x) where
  pub text-accepted : v ≡ Ok tt → verdict x ≡ Ok tt
  text-accepted e = sym is-v ∙ e

  pub text-refused : (why : Refusal) → v ≡ Err why → Err why ≡ row_of offsets x payload k
  unfolding row_of
  text-refused why e = rw (← is-v, e) refl

  pub text-found : (r : Result Row Refusal) → r ≡ row_by offsets (definition x) payload k → v ≡ Ok tt → r ≡ row_of offsets x payload k
  unfolding row_of
  text-found r e a = rw (← is-v, a) e

-- ---- bytes_of
module _ (p : List ℕ) (r : Numbers) where
  pub bytes-none : r.end ≤ r.start → [] ≡ bytes_of p r
  bytes-none h = let z : r.end - r.start ≡ 0 = omega arith in rw z

  pub bytes_past : length p ≤ r.start → [] ≡ bytes_of p r
  bytes_past h = rw (done p r.start h) (sym (take-nil (r.end - r.start)))

  pub bytes_rest : length p < r.end → take (length p - r.start) (drop r.start p) ≡ bytes_of p r
  bytes_rest h = tail p r.start ∙ sym (take_all (r.end - r.start) (drop r.start p) (rw length-drop (omega arith)))

pub ruleset laws = (
  row-past,
  row_there,
  loaded_all,
  loaded_short,
  accepted-long,
  accepted-short,
  accepted-room,
  accepted-row,
  text-accepted,
  text-refused,
  text-found,
  bytes-none,
  bytes_past,
  bytes_rest,
)
