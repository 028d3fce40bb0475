use Prim.Native.Nat.{◌-◌}
use lib.ListN.{length}
use Rattle.listing_text.proofs.Forming.{Forming}
use Rattle.listing_text.proofs.form.read_form.Given as goal

abbrev pub invariant-loop-rest : goal.invariant-loop-rest
invariant-loop-rest l = Forming l.listing l.place

abbrev pub decreases-loop-rest : goal.decreases-loop-rest
decreases-loop-rest l = length l.listing - l.place.at
