use lib.ListN.{length, drop}
use Prim.Native.Nat.{◌+◌, ◌-◌, ◌≤◌}
use mathlib.Core.Path.{◌≡◌}
use Rattle.text.specs.Text.{split}
use Rattle.text.specs.Scan.{word_in}
use Rattle.text.proofs.scan.find_word.Given as goal

abbrev pub invariant-loop-rest : goal.invariant-loop-rest
invariant-loop-rest l =
    (l.at ≤ length l.words) × (l.n ≤ l.at) × (word_in (split 32 l.words) l.s ≡ l.n + word_in (split 32 (drop l.at l.words)) l.s)

abbrev pub decreases-loop-rest : goal.decreases-loop-rest
decreases-loop-rest l = length l.words - l.at
