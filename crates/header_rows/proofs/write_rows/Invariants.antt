use Rattle.frame_definition.specs.Definition.{definition}
use Rattle.header_fields.specs.Fields.{fields_in}
use Rattle.header_rows.proofs.Laws.{Writing}
use Rattle.header_rows.proofs.write_rows.Given as goal

abbrev pub invariant-loop-k : goal.invariant-loop-k
invariant-loop-k l = Writing (fields_in l.text l.fields l.count) (definition l.text).sets l.initial.rows l.rows l.scratch l.n l.k
