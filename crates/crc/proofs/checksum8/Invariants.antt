use mathlib.Core.Path.{◌≡◌}
use lib.ListN.{drop}
use Rattle.crc.specs.Crc.{sum_from, checksum}
use Rattle.crc.proofs.checksum8.Given as goal

abbrev pub invariant-loop-b : goal.invariant-loop-b
invariant-loop-b l = sum_from l.sum (drop l.b-index l.body) ≡ checksum l.body
