use Rattle.xml_tags.specs.Tags.{whole}
use Rattle.text.specs.Text.{split, fields}
use lib.ListN.{length, drop}
use mathlib.Core.Path.{◌≡◌}
use Rattle.xml_tags.proofs.is_whole.Given as goal

abbrev pub invariant-loop-a : goal.invariant-loop-a
invariant-loop-a l = whole (drop 1 (fields l.row)) (split 34 l.body) ≡ whole (drop 1 (fields l.rest)) (split 34 l.body)

abbrev pub decreases-loop-a : goal.decreases-loop-a
decreases-loop-a l = length l.rest
