pub mod Laws
pub mod SpeedLaws
pub mod BeamLaws
pub mod RssiLaws
