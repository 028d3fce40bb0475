-- The laws of this crate. Assumes nothing.
use Rattle.rows.proofs.Laws as rows
use Rattle.text.proofs.Laws.{front_count}
use Rattle.listing_text.proofs.Forming as forming
use Rattle.listing_text.proofs.Lining as lining
use Rattle.listing_text.proofs.Differing as differing

pub ruleset laws = (rows.laws, front_count, forming.laws, lining.laws, differing.laws)
