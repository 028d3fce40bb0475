use Rattle.std.proofs.Common.{rules, ap, ◌∙◌, ◌≡◌, Some}
use Rattle.std.specs.Result.{result_ok}
use Rattle.radio.proofs.SpeedLaws.{rates, rates_right}
use Rattle.frame.proofs.Laws.{parts_in, parsed_frame}
use Rattle.frame.proofs.parse_record.Goals as goal

pub split_body-requires-clause-rate_table : goal.split_body-requires-clause-rate_table
unfolding rates
split_body-requires-clause-rate_table c = rates_right

pub frame_of-requires-clause-inside : goal.frame_of-requires-clause-inside
frame_of-requires-clause-inside c =
    let some : c.split_body.result ≡ Some c.in_ok-parts.parts = c.ok_or.ensures.ok_part ∙ ap result_ok c.in_ok-parts.was in
    parts_in _ _ _ c.split_body.ensures _ some

pub returns : goal.returns
returns c =
    let some : c.split_body.result ≡ Some c.in_ok-parts.parts = c.ok_or.ensures.ok_part ∙ ap result_ok c.in_ok-parts.was in
    parsed_frame _ _ _ _ c.rules_of-rules.ensures.value (search rules) _ c.split_body.ensures (search rules) _ _ some c.frame_of.ensures
