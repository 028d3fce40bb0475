use Prim.Native.Nat.{◌+◌, ◌-◌}
use lib.ListN.{length}
use Rattle.header_fields.specs.Fields.{fields_in}
use Rattle.header_rules.specs.Loaded.{name_of}
use Rattle.header_paths.proofs.Laws.{Following}
use Rattle.header_paths.proofs.find_inside.Given as goal

abbrev pub invariant-loop-k : goal.invariant-loop-k
invariant-loop-k l = Following (name_of (fields_in l.text l.fields l.count)) l.rows l.n l.path l.parent l.above l.at

abbrev pub decreases-loop-k : goal.decreases-loop-k
decreases-loop-k l = length l.path + 1 - l.at
