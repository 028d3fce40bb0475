use Rattle.std.proofs.Common.{rules}
use Rattle.command_param.proofs.Bits.{children_laws}
use Rattle.command_param.proofs.decode_bits.Goals as goal

pub loop-k-init : goal.loop-k-init
loop-k-init c = search (rules, children_laws)

pub read_at-read-requires : goal.read_at-read-requires
read_at-read-requires c = search (rules, children_laws)

pub loop-k-preserved-then-is_bits : goal.loop-k-preserved-then-is_bits
loop-k-preserved-then-is_bits c = search (rules, children_laws)

pub loop-k-preserved : goal.loop-k-preserved
loop-k-preserved c = search (rules, children_laws)

pub returns-clause-writes : goal.returns-clause-writes
returns-clause-writes c = search (rules, children_laws)
