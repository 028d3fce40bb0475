use Rattle.std.proofs.Common.{◌≡◌, drop}
use Rattle.answer.specs.Table.{is_fresh}
use Rattle.answer.proofs.table.is_fresh_bytes.Given as goal

abbrev pub invariant-loop-x : goal.invariant-loop-x
invariant-loop-x l = is_fresh 0xA5 l.bytes ≡ is_fresh 0xA5 (drop l.x-index l.bytes)
