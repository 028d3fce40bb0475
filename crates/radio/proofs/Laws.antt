-- The laws that the proofs of this crate's functions go by.
use Rattle.radio.proofs.SpeedLaws.{speed_laws}
use Rattle.radio.proofs.BeamLaws.{beam_laws}
use Rattle.radio.proofs.RssiLaws.{rssi_laws}

pub ruleset laws = (speed_laws, beam_laws, rssi_laws)
