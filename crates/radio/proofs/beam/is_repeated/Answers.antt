use Rattle.radio.proofs.BeamLaws.{unrepeated}
use Rattle.radio.proofs.beam.is_repeated.Goals as goal

pub returns : goal.returns
returns c = unrepeated _ _ _ _ c.loop-at.invariant c.beam_width-width.ensures.value c.loop-at-test.false
