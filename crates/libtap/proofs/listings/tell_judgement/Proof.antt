-- `libtap::listings::tell_judgement` meets its contract, by the laws of the crate. Assumes nothing.
use borrow.Author.Rules.{rules}
use Rattle.libtap.proofs.ListingLaws.{listing_laws}
use Rattle.libtap.proofs.listings.tell_judgement.Statement.{statement}
use Rattle.libtap.proofs.listings.tell_judgement.Tie as tie

pub tell_judgement_spec : {M : Type 1} → statement M
tell_judgement_spec =
    tie.close
    (tie.spec
    (λ c. search (rules, listing_laws))
    (λ c κs. search (rules, listing_laws))
    (λ c. search (rules, listing_laws))
    (λ c κs. search (rules, listing_laws))
    (λ c. search (rules, listing_laws))
    (λ c κs. search (rules, listing_laws))
    (λ c. search (rules, listing_laws))
    (λ c. search (rules, listing_laws))
    (λ c. search (rules, listing_laws)))
