use Rattle.radio.proofs.BeamLaws.{beams_all, beaming_hit}
use Rattle.radio.proofs.beam.beam_count.Goals as goal

pub loop-at-preserved-then-repeats_at : goal.loop-at-preserved-then-repeats_at
loop-at-preserved-then-repeats_at c =
    beaming_hit _ _ _ _ _ _ c.loop-at.invariant c.beam_width-width.ensures.value c.beam_width-width.ensures.upper_bound c.loop-at-test.true c.repeats_at.ensures
    c.if-repeats_at.true

pub returns : goal.returns
returns c = beams_all _ _ _ _ _ c.loop-at.invariant c.beam_width-width.ensures.value c.loop-at-test.false
