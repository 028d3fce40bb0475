-- What is answered says what the lawful readings say. Assumes nothing.
use mathlib.Core.Path.{◌≡◌, refl, sym, ap, ◌∙◌, subst}
use mathlib.Core.Bool.{Bool}
use mathlib.Core.List.{List}
use Prim.Native.Nat.{ℕ, ◌*◌, ◌/◌, ◌≤◌}
use native.Mathlib.Omega.{arith}
use lib.ListN.{length}
use borrow.Author.Tests.{le-ltb}
use Rattle.text.specs.Print.{Every}
use Rattle.frame_definition.specs.Definition.{definition}
use Rattle.crc.specs.Crc.{right}
use Rattle.header_rules.specs.Table.{row_width}
use Rattle.header_rules.specs.Told.{Told, no_base, no_candidate, more_rows, header}
use Rattle.header_rules.specs.Says.{Says}
use Rattle.header_rules.proofs.Accepted.{accepted_one, accepted_enough}
use Rattle.header_rules.proofs.Named.{Named, candidates-named}
use Rattle.header_rules.proofs.Run.{every_split}
use Rattle.header_rules.proofs.Told.{told-says, told_demanded}
use Rattle.header.specs.Decode.{of_told, key_of, told_of, decoded, table_after, number_in, values_in, number_told, values_told, Within, ByReadings, Decodes}
use Rattle.std.specs.Prelude.{Result}
use Rattle.header.specs.declared.DecodedHeader.{DecodedHeader}
use Rattle.refusal.specs.declared.Refusal.{Refusal}

-- an answer's number and values are those of what is told
number-told : (t : List ℕ) (ok : Bool) (x : Told) → number_in (of_told t ok x) ≡ number_told x
number-told t ok (no_base key) = refl
number-told t ok no_candidate = refl
number-told t ok (more_rows n) = refl
number-told t ok (header h) = refl

values_told_lem : (t : List ℕ) (ok : Bool) (x : Told) → values_in (of_told t ok x) ≡ values_told ok x
values_told_lem t ok (no_base key) = refl
values_told_lem t ok no_candidate = refl
values_told_lem t ok (more_rows n) = refl
values_told_lem t ok (header h) = refl

module _ (t d : List ℕ) (region speed : ℕ) (table : List ℕ) where
  abbrev key : ℕ
  key = key_of t region speed

  abbrev most : ℕ
  most = length table / row_width

  within_is : Within t d → decoded t d region speed (length table) ≡ of_told t (right d speed) (told_of t d region speed (length table))
  within_is w = rw (w.accepted, le-ltb 2048 (length d) w.short, le-ltb (length d) 2 w.long) refl

  -- 128 rows are enough
  never-eight : Within t d → 128 * row_width ≤ length table → (x : Told) → Says (definition t) d most key x → number_told x ≡ 8 → ⊥
  never-eight w room (no_base k) s e = omega arith
  never-eight w room no_candidate s e = omega arith
  never-eight w room (more_rows k) s e =
      let c = s.chosen in
      let n : length s.heading.rows ≤ most =
      rw c.heading (accepted_enough t key w.accepted d c.base c.base_is most (omega arith) c.one c.fields c.first) in
      omega (arith, n, s.needed, s.more)
  never-eight w room (header h) s e = omega arith

  module _ (r : Result DecodedHeader Refusal) (table' : List ℕ) (e : r ≡ decoded t d region speed (length table))
      (rows : table' ≡ table_after table (told_of t d region speed (length table)) r) where
    by_readings : Within t d → ByReadings t d region speed table r table'
    by_readings w =
        let x : Told = told_of t d region speed (length table) in
        let is : r ≡ of_told t (right d speed) x = e ∙ within_is w in
        let s : Says (definition t) d most key x = told-says (definition t) d most key x refl in
        let n : number_in r ≡ number_told x = ap number_in is ∙ number-told t (right d speed) x in
        record {
          told = x;
          says = s;
          number = n;
          values = ap values_in is ∙ values_told_lem t (right d speed) x;
          leaves = rows;
          named = λ xs c ys q. every_split (Named t) xs c ys (subst (Every (Named t)) q (candidates-named t key));
          demand = λ b q. told_demanded (definition t) d most key b q (accepted_one t key w.accepted d b q) x refl;
          enough = λ room z. never-eight w room x s (sym n ∙ z);
        }

    pub decodes : Decodes t d region speed table r table'
    decodes = record { answer = e; rows = rows; by_readings = by_readings }
