use Rattle.std.proofs.Common.{rules}
use Rattle.xml_schema.specs.Schema.{elements}
use Rattle.xml_elements.proofs.Laws.{laws}
use Rattle.xml_elements.proofs.append_name.Goals as goal

pub slice_bounds-append-end : goal.slice_bounds-append-end
unfolding elements
slice_bounds-append-end c = search (rules, laws)

pub append-requires : goal.append-requires
unfolding elements
append-requires c = search (rules, laws)

pub returns : goal.returns
unfolding elements
returns c = search (rules, laws)
