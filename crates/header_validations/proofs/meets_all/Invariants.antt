use Prim.Native.Nat.{◌-◌}
use lib.ListN.{length}
use Rattle.header_fields.specs.Fields.{fields_in}
use Rattle.header_rules.specs.Loaded.{name_of}
use Rattle.header_paths.specs.Scratch.{rows_in}
use Rattle.header_validations.proofs.Laws.{Meeting}
use Rattle.header_validations.proofs.meets_all.Given as goal

abbrev pub invariant-loop-path : goal.invariant-loop-path
invariant-loop-path l = Meeting l.text (name_of (fields_in l.text l.fields l.count)) (rows_in l.rows l.n) l.initial.place l.place

abbrev pub decreases-loop-path : goal.decreases-loop-path
decreases-loop-path l = length l.text - l.place.at
