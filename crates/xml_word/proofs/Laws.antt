-- The laws that the proofs of this crate's functions go by. Assumes nothing.
use Rattle.text.proofs.Laws.{front_count}
use Rattle.xml.proofs.Laws.{room_in, room-count, turns-fine}

pub ruleset laws = (front_count, room_in, room-count, turns-fine)
