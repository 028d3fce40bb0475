-- The laws that the proofs of this crate's functions go by. Assumes nothing.
use Rattle.text.proofs.Laws.{front_count}
use Rattle.writer.proofs.Laws.{counts}
use Rattle.buffer.proofs.Laws.{length-written}
use Rattle.records.proofs.Laws.{body_nearer, body-ordered, body-inside, after-fits}
use Rattle.files.proofs.capture.Laws.{opened_inside}
use Rattle.files.proofs.frame_names.Laws.{accepted-inside, accepted-count, is_accepted}

pub ruleset laws = (
  front_count,
  counts,
  length-written,
  body_nearer,
  body-ordered,
  body-inside,
  after-fits,
  opened_inside,
  accepted-inside,
  accepted-count,
  is_accepted,
)
