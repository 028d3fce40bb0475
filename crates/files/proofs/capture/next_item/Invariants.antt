use Rattle.files.specs.CaptureLine.{Fair}
use Rattle.files.proofs.capture.Laws.{Reading}
use Rattle.files.proofs.capture.next_item.Given as goal

abbrev pub invariant-loop-byte : goal.invariant-loop-byte
invariant-loop-byte g l = Reading l.fn.start l.block l.source × Fair l.line.state

abbrev pub decreases-loop-byte : goal.decreases-loop-byte
decreases-loop-byte g l = l.source.left
