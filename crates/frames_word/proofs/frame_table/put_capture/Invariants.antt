use Rattle.std.proofs.Common.{◌≡◌}
use Rattle.frame_text.specs.Rules.{verdict}
use Rattle.files.specs.Capture.{Inside}
use Rattle.frames_word.proofs.frame_table.put_capture.Given as goal
use Rattle.std.specs.Prelude.{Ok}

abbrev pub invariant-loop-source : goal.invariant-loop-source
invariant-loop-source g l = Inside l.block l.source × (verdict l.text ≡ Ok tt)

abbrev pub decreases-loop-source : goal.decreases-loop-source
decreases-loop-source g l = l.source.left
