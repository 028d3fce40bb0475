use Rattle.std.proofs.Common.{rules}
use Rattle.xml_schema.specs.Schema.{table}
use Rattle.xml_elements.proofs.Laws.{laws}
use Rattle.xml_elements.proofs.append_entries.Goals as goal

pub slice_bounds-append_attributes-end : goal.slice_bounds-append_attributes-end
unfolding table
slice_bounds-append_attributes-end c = search (rules, laws)

pub append_attributes-requires : goal.append_attributes-requires
unfolding table
append_attributes-requires c = search (rules, laws)

pub returns-then-k-eq-PARAM : goal.returns-then-k-eq-PARAM
unfolding table
returns-then-k-eq-PARAM c = search (rules, laws)

pub slice_bounds-append_attributes-end-2 : goal.slice_bounds-append_attributes-end-2
unfolding table
slice_bounds-append_attributes-end-2 c = search (rules, laws)

pub append_attributes-requires-2 : goal.append_attributes-requires-2
unfolding table
append_attributes-requires-2 c = search (rules, laws)

pub returns : goal.returns
unfolding table
returns c = search (rules, laws)
