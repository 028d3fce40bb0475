use Rattle.radio.proofs.SpeedLaws.{rates, rates_right}
use Rattle.pti.proofs.payload.parse_from.Goals as goal

pub parse_bodies-requires-clause-rate_table : goal.parse_bodies-requires-clause-rate_table
unfolding rates
parse_bodies-requires-clause-rate_table c = rates_right
