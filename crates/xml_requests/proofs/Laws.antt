-- The laws that the proofs of this crate's functions go by. Assumes nothing.
use Rattle.request.proofs.Laws.{request_laws}
use Rattle.libtap.proofs.Standing.{xml_standing}

pub ruleset laws = (request_laws, xml_standing)
