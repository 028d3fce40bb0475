use Rattle.std.proofs.Common.{◌≡◌, drop}
use Rattle.answer.specs.Table.{is_fresh}
use Rattle.answer.proofs.table.is_fresh.Given as goal

abbrev pub invariant-loop-x : goal.invariant-loop-x
invariant-loop-x l = is_fresh 0xA5A5A5A5A5A5A5A5 l.table ≡ is_fresh 0xA5A5A5A5A5A5A5A5 (drop l.x-index l.table)
