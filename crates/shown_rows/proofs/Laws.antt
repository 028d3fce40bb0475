-- Laws of the rows that are shown. Assumes nothing.
use mathlib.Core.Path.{◌≡◌, sym, ◌∙◌}
use mathlib.Core.List.{List}
use Prim.Native.Nat.{ℕ, ◌+◌, ◌*◌, ◌/◌, ◌≤◌, ◌<◌}
use native.Mathlib.Omega.{arith}
use lib.ListN.{length, take}
use lib.Seq.{length-take-le}
use Rattle.frame_text.specs.Rules as frame
use Rattle.command_text.specs.Rules as command
use Rattle.command_rules.specs.Rows.{row_width}
use Rattle.header_value.specs.Lookup.{Stands}
use Rattle.std.specs.Prelude.{Result, Ok}
use Rattle.refusal.specs.declared.Refusal.{Refusal}

pub row-stands : (d rows : List ℕ) (k : ℕ) → length d ≤ 2048 → k < length rows / 7 → Stands d rows k
row-stands d rows k h inside = record { short = h; row = omega arith }

pub row_inside : (rows : List ℕ) (k : ℕ) → k < length rows / row_width → k * row_width + row_width ≤ length rows
row_inside rows k inside = omega arith

pub frame_judged : (t : List ℕ) (v : Result (Unit {0}) Refusal) → v ≡ frame.verdict t → v ≡ Ok tt → frame.verdict t ≡ Ok tt
frame_judged t v is e = sym is ∙ e

pub command_judged : (t : List ℕ) (v : Result (Unit {0}) Refusal) → v ≡ command.verdict t → v ≡ Ok tt → command.verdict t ≡ Ok tt
command_judged t v is e = sym is ∙ e

pub taken : (s : List ℕ) (n : ℕ) → n ≤ length s → n ≡ length (take n s)
taken s n h = sym (length-take-le n s h)

pub ruleset laws = (taken, row-stands, row_inside, frame_judged, command_judged)
