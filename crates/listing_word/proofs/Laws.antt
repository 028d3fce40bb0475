-- The law that the proof of `list_into` goes by. Assumes nothing.
use Rattle.listing.proofs.Listings.{written-within}

pub ruleset laws = (written-within)
