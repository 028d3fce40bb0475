-- The laws that the proofs of this crate's functions go by. Assumes nothing.
use Rattle.request.proofs.Laws.{two_laws, request_laws}
use Rattle.request.proofs.RowLaws.{row_laws}
use Rattle.libtap.proofs.Standing.{value_standing}

pub ruleset laws = (request_laws, two_laws, row_laws, value_standing)
