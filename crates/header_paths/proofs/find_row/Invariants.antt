use Rattle.header_fields.specs.Fields.{fields_in}
use Rattle.header_rules.specs.Loaded.{name_of}
use Rattle.header_paths.proofs.Laws.{Seeking}
use Rattle.header_paths.proofs.find_row.Given as goal

abbrev pub invariant-loop-k : goal.invariant-loop-k
invariant-loop-k l = Seeking (name_of (fields_in l.text l.fields l.count)) l.rows l.n l.parent l.name l.k
