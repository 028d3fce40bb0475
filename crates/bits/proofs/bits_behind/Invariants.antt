use Prim.Native.Nat.{◌+◌, ◌-◌, ◌*◌}
use Rattle.bits.specs.Steps.{behind}
use Rattle.bits.proofs.Laws.{Reading}
use Rattle.bits.proofs.bits_behind.Given as goal

abbrev pub invariant-loop-byte : goal.invariant-loop-byte
invariant-loop-byte l = Reading l.data (behind l.value l.data l.at l.width) l.all (l.at + l.byte-index) (l.width - l.byte-index * 8)
