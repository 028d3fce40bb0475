-- Laws of the request on totals. Assumes nothing.
use mathlib.Core.Path.{◌≡◌, refl, ap, ◌∙◌}
use mathlib.Core.Bool.{Bool, true, false}
use mathlib.Core.List.{List}
use Prim.Native.Nat.{ℕ, ◌+◌, ◌-◌, ◌*◌, ◌^◌, ◌≤◌, ◌<◌}
use native.Mathlib.Omega.{arith}
use mir.Syntax.{w64}
use mir.Val.{Fits}
use lib.Dec.{ltb}
use lib.ListN.{length, take, drop, length-drop}
use borrow.Author.Tests.{ltb-true, ltb-false}
use Rattle.laws.proofs.Lists.{tail}
use Rattle.request.proofs.Laws.{two_laws, request_laws}
use Rattle.libtap.proofs.Standing.{totals_standing}

-- from word to word: a word of e bytes stands at a place, and a space behind it
module _ (words : List ℕ) (at e : ℕ) (inside : at ≤ length words) (few : e ≤ length (take (length words - at) (drop at words))) where
  rest-long : length (take (length words - at) (drop at words)) ≡ length words - at
  rest-long = ap length (tail words at) ∙ length-drop at words

  module _ (more : e ≡ length (take (length words - at) (drop at words)) → ⊥) where
    before : e < length words - at
    before = omega (arith, rest-long, apart e (length (take (length words - at) (drop at words))) few more)
      where
        apart : (a b : ℕ) → a ≤ b → (a ≡ b → ⊥) → a < b
        apart a b h n = by_test (ltb a b) refl
          where
            by_test : (t : Bool) → ltb a b ≡ t → a < b
            by_test true q = ltb-true a b q
            by_test false q = let z = ltb-false a b q in absurd (n (omega arith))

    pub word-behind : at + e + 1 ≤ length words
    word-behind = omega (arith, before)

    pub word_nearer : length words - (at + e + 1) < length words - at
    word_nearer = omega (arith, before)

    pub word_fits : length words * 1 < 2 ^ 63 → Fits w64 (at + e)
    word_fits short = omega (arith, before)

    pub space-fits : length words * 1 < 2 ^ 63 → Fits w64 (at + e + 1)
    space-fits short = omega (arith, before)

pub ruleset laws = (request_laws, two_laws, totals_standing, word-behind, word_nearer, word_fits, space-fits)
