use Rattle.std.proofs.Common.{rules}
use Rattle.command_groups.proofs.Members.{members-fits, members-take, members_laws}
use Rattle.command_groups.proofs.read_members.Goals as goal

pub overflow_add-next : goal.overflow_add-next
overflow_add-next c =
    members-fits _ _ _ _ _ _ _ _ c.requires.0 _ _ _ _ _ _ _ _ c.loop-j.invariant _ c.loaded_at-q.ensures c.loop-j-test.true _
    c.is_member.ensures _ _ c.param_at.ensures c.if-not-is_member.false _ c.in-Some.is

pub loop-j-preserved : goal.loop-j-preserved
loop-j-preserved c =
    members-take _ _ _ _ _ _ _ _ c.requires.0 _ _ _ _ _ _ _ _ c.loop-j.invariant _ c.loaded_at-q.ensures c.loop-j-test.true _
    c.is_member.ensures _ _ c.param_at.ensures c.if-not-is_member.false _ c.in-Some.is _ _
    c.keep-have.ensures.0 c.keep-have.ensures.1

pub returns-then-not-is_member : goal.returns-then-not-is_member
returns-then-not-is_member c = search (rules, members_laws)

pub param_at-requires : goal.param_at-requires
param_at-requires c = search (rules, members_laws)

pub returns-in_default : goal.returns-in_default
returns-in_default c = search (rules, members_laws)

pub returns : goal.returns
returns c = search (rules, members_laws)
