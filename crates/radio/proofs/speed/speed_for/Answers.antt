use Rattle.radio.proofs.SpeedLaws.{rates, rates_right}
use Rattle.radio.proofs.speed.speed_for.Goals as goal

pub rate_in-requires : goal.rate_in-requires
unfolding rates
rate_in-requires c = rates_right
