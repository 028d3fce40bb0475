use Prim.Native.Nat.{◌-◌}
use lib.ListN.{length}
use Rattle.readers.proofs.catalog.Laws.{Looks}
use Rattle.readers.proofs.catalog.find_command.Given as goal

abbrev pub invariant-loop-at : goal.invariant-loop-at
invariant-loop-at l = Looks l.index l.class l.command l.at

abbrev pub decreases-loop-at : goal.decreases-loop-at
decreases-loop-at l = length l.index - l.at
