use Rattle.std.proofs.Common.{rules}
use Rattle.xml_schema.specs.Schema.{table}
use Rattle.xml_reader.proofs.Laws.{values_laws}
use Rattle.xml_reader.proofs.put_values.Goals as goal

pub slice_bounds-put_fields-end : goal.slice_bounds-put_fields-end
unfolding table
slice_bounds-put_fields-end c = search (rules, values_laws)

pub returns : goal.returns
unfolding table
returns c = search (rules, values_laws)
