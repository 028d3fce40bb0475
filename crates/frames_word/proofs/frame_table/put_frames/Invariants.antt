use Rattle.std.proofs.Common.{◌≡◌}
use Rattle.frame_text.specs.Rules.{verdict}
use Rattle.frames_word.proofs.frame_table.put_frames.Given as goal
use Rattle.std.specs.Prelude.{Ok}

abbrev pub invariant-loop-i : goal.invariant-loop-i
invariant-loop-i g l = verdict l.text ≡ Ok tt
