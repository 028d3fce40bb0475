use Rattle.radio.proofs.BeamLaws.{Same}
use Rattle.radio.proofs.beam.repeats_at.Given as goal

abbrev pub invariant-loop-i : goal.invariant-loop-i
invariant-loop-i l = Same l.middle l.at l.width l.i
