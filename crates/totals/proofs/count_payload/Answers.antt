use Rattle.radio.proofs.SpeedLaws.{rates, rates_right}
use Rattle.totals.proofs.count_payload.Goals as goal

pub count_frames-requires-clause-rate_table : goal.count_frames-requires-clause-rate_table
unfolding rates
count_frames-requires-clause-rate_table c = rates_right
