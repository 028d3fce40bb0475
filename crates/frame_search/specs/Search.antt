-- What the contracts cite: the bytes of a frame that was found stand in the lent slice.
use Rattle.std.specs.Prelude.{ℕ, ◌≤◌, List, length}
use Rattle.frame_search.specs.declared.Search.{Search}
use Rattle.frame_search.specs.declared.Search.TheVariants.{Found, Left, NoCapture, Unreadable}

abbrev pub Holds : List ℕ → Search → Type 0
Holds mpdu (Found hit) = hit.count ≤ length mpdu
Holds mpdu (Left n) = Unit {0}
Holds mpdu (NoCapture line column) = Unit {0}
Holds mpdu Unreadable = Unit {0}
