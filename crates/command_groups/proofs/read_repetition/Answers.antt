use Rattle.std.proofs.Common.{rules, arith}
use Rattle.command_groups.proofs.Groups.{repetition_fits, repetition_took, repetition_laws}
use Rattle.command_groups.proofs.read_repetition.Goals as goal

pub returns-then-end-at : goal.returns-then-end-at
returns-then-end-at c = search (rules, repetition_laws)

pub repetition_row-requires : goal.repetition_row-requires
repetition_row-requires c = search (rules, repetition_laws)

pub overflow_add-result : goal.overflow_add-result
overflow_add-result c =
    repetition_fits _ _ _ _ c.args.group.first _ _ c.requires.0 _ _ _ _ c.members_at-taken.ensures c.requires.2

pub returns : goal.returns
returns c =
    repetition_took _ _ _ _ c.args.group.first _ _ c.requires.0 _ _ _ _ c.members_at-taken.ensures _ _ _ _
    c.repetition_row.ensures c.write_row.ensures (omega (arith, c.if-end-at.false))
