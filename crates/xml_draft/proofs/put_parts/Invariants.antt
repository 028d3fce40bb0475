use Rattle.xml_draft.specs.Draft.{Going}
use Rattle.xml_values.specs.Values.{parts}
use Rattle.text.specs.Text.{split}
use lib.ListN.{length, drop}
use Prim.Native.Nat.{◌-◌, ◌≤◌}
use Rattle.xml_draft.proofs.put_parts.Given as goal

abbrev pub invariant-loop-n : goal.invariant-loop-n
invariant-loop-n l =
    (l.at ≤ length l.s) × Going l.initial.out l.n (parts (split 38 l.s)) l.out l.next (parts (split 38 (drop l.at l.s)))

abbrev pub decreases-loop-n : goal.decreases-loop-n
decreases-loop-n l = length l.s - l.at
