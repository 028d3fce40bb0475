use mathlib.Core.Path.{◌≡◌}
use lib.Dec.{T}
use lib.ListN.{take, drop}
use lib.Pow.{are_bytes}
use Rattle.crc.specs.Register.{crc_from, register}
use Rattle.crc.proofs.crc_by.Given as goal

abbrev pub invariant-loop-b : goal.invariant-loop-b
invariant-loop-b l = (crc_from l.r (drop l.b-index l.body) ≡ register l.body) × T (are_bytes (take l.b-index l.body))
