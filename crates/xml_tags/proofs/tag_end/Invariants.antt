use Rattle.xml_tags.specs.Tags.{tag_end}
use lib.ListN.{drop}
use Prim.Native.Nat.{◌+◌}
use mathlib.Core.Bool.{false}
use mathlib.Core.Path.{◌≡◌}
use Rattle.xml_tags.proofs.tag_end.Given as goal

abbrev pub invariant-loop-i : goal.invariant-loop-i
invariant-loop-i l = tag_end false l.s ≡ l.i + tag_end l.quoted (drop l.i l.s)
