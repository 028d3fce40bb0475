use mathlib.Core.Path.{◌≡◌}
use Prim.Native.Nat.{◌+◌, ◌-◌, ◌≤◌}
use lib.ListN.{length, drop}
use Rattle.utf8.specs.Table.{agree}
use Rattle.utf8.specs.Lead.{tails}
use Rattle.utf8.proofs.fitting.Given as goal

abbrev pub invariant-loop-k : goal.invariant-loop-k
invariant-loop-k l =
    (l.k ≤ length l.s) × (agree (tails l.lead.more l.lead.low l.lead.high) l.s ≡ l.k + agree (tails (l.lead.more - l.k) l.low l.high) (drop l.k l.s))
