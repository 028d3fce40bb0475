use Rattle.std.proofs.Common.{◌≡◌, take}
use Rattle.lossy.specs.Lossy.{trim}
use Rattle.lossy.proofs.end_of.Given as goal

abbrev pub invariant-loop-i : goal.invariant-loop-i
invariant-loop-i l = trim (take l.i l.s) ≡ trim l.s
