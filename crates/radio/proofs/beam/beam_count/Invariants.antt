use Prim.Native.Nat.{◌-◌}
use lib.ListN.{length}
use Rattle.radio.proofs.BeamLaws.{Beaming}
use Rattle.radio.proofs.beam.beam_count.Given as goal

abbrev pub invariant-loop-at : goal.invariant-loop-at
invariant-loop-at l = Beaming l.middle l.width l.count l.at

abbrev pub decreases-loop-at : goal.decreases-loop-at
decreases-loop-at l = length l.middle - l.at
