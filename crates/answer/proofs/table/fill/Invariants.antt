use Rattle.std.proofs.Common.{◌≡◌, length, take}
use Rattle.answer.specs.Table.{fresh}
use Rattle.answer.proofs.table.fill.Given as goal

abbrev pub invariant-loop-i : goal.invariant-loop-i
invariant-loop-i l = take l.i l.table ≡ fresh l.i
