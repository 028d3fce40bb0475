-- The laws that the proofs of this crate's functions go by. Assumes nothing.
use Rattle.records.proofs.Laws.{body_nearer, body-ordered, body-inside, after-fits}
use Rattle.files.proofs.capture.Laws.{opened_inside}
use Rattle.files.proofs.input.Laws.{name-inside, name-count, held_laws}
use Rattle.header.proofs.Laws.{accepted-text}

pub ruleset laws = (
  body_nearer,
  body-ordered,
  body-inside,
  after-fits,
  opened_inside,
  name-inside,
  name-count,
  held_laws,
  accepted-text,
)
