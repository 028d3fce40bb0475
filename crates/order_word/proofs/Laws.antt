-- What a sorted text's answer says of the buffer. Assumes nothing.
use Rattle.std.proofs.Common.{◌≡◌, ℕ, ◌≤◌, List, length, sym}
use Rattle.buffer.proofs.Laws.{length_by}
use Rattle.frame_text.specs.Rules.{verdict}
use Rattle.reorder.specs.Sorted.{sorted_text}
use Rattle.sorting.specs.Sorting.{Sorts}
use Rattle.sorting.proofs.Texts.{sorted-long}
use Rattle.std.specs.Prelude.{Result, Ok}
use Rattle.refusal.specs.declared.Refusal.{Refusal}

-- so many bytes stand in it
pub length_sorted : (t b : List ℕ) (r : Result ℕ Refusal) (b' : List ℕ) (n : ℕ) → Sorts t b r b' → r ≡ Ok n → n ≤ length b'
length_sorted t b r b' n so e =
    length_by (verdict t) (sorted_text t) b (length t) r b' n (λ q. sym (sorted-long t q)) so.answer so.buffer e
