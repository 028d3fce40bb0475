use Rattle.std.proofs.Common.{rules}
use Rattle.xml_schema.specs.Schema.{table}
use Rattle.xml_tags.proofs.Laws.{laws}
use Rattle.xml_tags.proofs.judge_start.Goals as goal

pub slice_bounds-judge_tag-end : goal.slice_bounds-judge_tag-end
unfolding table
slice_bounds-judge_tag-end c = search (rules, laws)

pub returns : goal.returns
unfolding table
returns c = search (rules, laws)
