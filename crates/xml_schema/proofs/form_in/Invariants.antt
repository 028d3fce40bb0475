use lib.ListN.{length, drop}
use mathlib.Core.Path.{◌≡◌}
use Rattle.text.specs.Text.{fields}
use Rattle.xml_schema.specs.Schema.{form_in}
use Rattle.xml_schema.proofs.form_in.Given as goal

abbrev pub invariant-loop-a : goal.invariant-loop-a
invariant-loop-a l = form_in (drop 1 (fields l.row)) l.n ≡ form_in (drop 1 (fields l.rest)) l.n

abbrev pub decreases-loop-a : goal.decreases-loop-a
decreases-loop-a l = length l.rest
