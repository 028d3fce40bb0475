-- The laws that the proofs of this crate and of its callers go by. Assumes nothing.
use Rattle.std.proofs.Common.{◌≡◌, ℕ, ◌+◌, ◌*◌, ◌<◌, ◌≤◌, List, length, take, sym, arith, length-take-le}
use Rattle.frame.specs.declared.Reading.{Reading}
use Rattle.pti.specs.Payload.{row_width, Parses}
use Rattle.pti.proofs.Laws.{rows-room}
use Rattle.frame_search.specs.Search.{Holds}
use Rattle.frame_search.specs.declared.Hit.{Hit}
use Rattle.frame_search.specs.declared.Search.{Search}
use Rattle.frame_search.specs.declared.Search.TheVariants.{Found}
use Rattle.std.specs.Prelude.{Result, Ok}
use Rattle.refusal.specs.declared.Refusal.{Refusal}

-- one of the rows that are answered stands in the table
pub row_there : (firmware : ℕ) (reading : Reading) (s t t' : List ℕ) (r : Result ℕ Refusal) (n k : ℕ) → Parses firmware reading s t r t' → r ≡ Ok n
    → length t' ≡ length t → k < n → k * row_width + row_width ≤ length t'
row_there firmware reading s t t' r n k parses is-n same few = omega (arith, rows-room firmware reading s t t' r n parses is-n same)

-- ---- for callers: the bytes of a frame that was found stand in the slice
pub found_inside : (mpdu : List ℕ) (r : Search) (hit : Hit) → Holds mpdu r → r ≡ Found hit → hit.count ≤ length mpdu
found_inside mpdu r hit h e = rw e at h

pub found-count : (mpdu : List ℕ) (r : Search) (hit : Hit) → Holds mpdu r → r ≡ Found hit → hit.count ≡ length (take hit.count mpdu)
found-count mpdu r hit h e = sym (length-take-le hit.count mpdu (found_inside mpdu r hit h e))
