use Rattle.files.specs.Capture.{Inside}
use Rattle.frame_search.proofs.find_frame.Given as goal

abbrev pub invariant-loop-source : goal.invariant-loop-source
invariant-loop-source g l = Inside l.block l.source

abbrev pub decreases-loop-source : goal.decreases-loop-source
decreases-loop-source g l = l.source.left
