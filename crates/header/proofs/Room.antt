-- As many rows as a header has stand in the table. Assumes nothing.
use mathlib.Core.Path.{refl}
use mathlib.Core.Bool.{Bool, true, false, cond}
use mathlib.Core.List.{List}
use Prim.Native.Nat.{ℕ, ◌*◌, ◌/◌, ◌≤◌}
use native.Mathlib.Omega.{arith}
use lib.Dec.{ltb}
use lib.ListN.{length}
use Rattle.refusal.specs.declared.Refusal.TheVariants.{TooLong, TooShort}
use Rattle.frame_text.specs.Rules.{verdict}
use Rattle.frame_definition.specs.Definition.{definition}
use Rattle.crc.specs.Crc.{right}
use Rattle.header_rules.specs.Table.{row_width}
use Rattle.header_rules.specs.Told.{Told, no_base, no_candidate, more_rows, header}
use Rattle.header_rules.specs.Says.{Says}
use Rattle.header_rules.proofs.Told.{told-says}
use Rattle.header.specs.Decode.{of_told, judged, key_of, told_of, Decodes}
use Rattle.std.specs.Prelude.{Result, Ok, Err}
use Rattle.header.specs.declared.DecodedHeader.{DecodedHeader}
use Rattle.refusal.specs.declared.Refusal.{Refusal}

abbrev pub Stands : ℕ → Result DecodedHeader Refusal → Type 0
Stands room (Ok h) = h.rows * row_width ≤ room
Stands room (Err x) = Unit

pub header-stands : (t d : List ℕ) (region speed : ℕ) (table : List ℕ) (r : Result DecodedHeader Refusal) (table' : List ℕ) → Decodes t d region speed table r table'
    → Stands (length table) r
header-stands t d region speed table r table' p =
    rw p.answer
    (go (verdict t) (ltb 2048 (length d)) (ltb (length d) 2) (told_of t d region speed (length table))
    (told-says (definition t) d (length table / row_width) (key_of t region speed) (told_of t d region speed (length table)) refl))
  where
    go : (v : Result (Unit {0}) Refusal) (long short : Bool) (x : Told) → Says (definition t) d (length table / row_width) (key_of t region speed) x
        → Stands (length table) (judged v (cond long (Err (TooLong (length d)))
        (cond short (Err (TooShort (length d))) (of_told t (right d speed) x))))
    go (Err y) long short x s = tt
    go (Ok tt) true short x s = tt
    go (Ok tt) false true x s = tt
    go (Ok tt) false false (no_base k) s = tt
    go (Ok tt) false false no_candidate s = tt
    go (Ok tt) false false (more_rows n) s = tt
    go (Ok tt) false false (header h) s = omega (arith, s.enough)
