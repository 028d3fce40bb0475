use Prim.Native.Nat.{◌+◌}
use Prim.Native.Nat.{◌-◌}
use lib.ListN.{length}
use Rattle.overlaps.proofs.Laws.{Leading}
use Rattle.overlaps.proofs.fields.is_led.Given as goal

abbrev pub invariant-loop-next : goal.invariant-loop-next
invariant-loop-next l = Leading l.text l.initial.a l.initial.b l.path l.a l.b l.level l.at

abbrev pub decreases-loop-next : goal.decreases-loop-next
decreases-loop-next l = length l.path + 1 - l.at
