use Rattle.std.proofs.Common.{rules}
use Rattle.command_walk.proofs.Outer.{outer_pass, outer-missing, outer_group_fits, outer_group, outer_laws}
use Rattle.command_walk.proofs.walk_params.Goals as goal

pub loop-j-init : goal.loop-j-init
loop-j-init c = search (rules, outer_laws)

pub param_at-requires : goal.param_at-requires
param_at-requires c = search (rules, outer_laws)

pub loop-j-preserved-in_default : goal.loop-j-preserved-in_default
loop-j-preserved-in_default c =
    outer-missing _ _ _ _ _ c.requires.0 _ _ _ _ _ _ _ _ c.loop-j.invariant _ c.loaded_at-q.ensures c.loop-j-test.true _
    c.is_outer.ensures _ _ c.param_at.ensures c.if-is_outer.true c.in_default.is _ _
    c.keep_unvalued-have.ensures.0 c.keep_unvalued-have.ensures.1

pub overflow_add-next : goal.overflow_add-next
overflow_add-next c = search (rules, outer_laws)

pub loop-j-preserved-then-is_outer : goal.loop-j-preserved-then-is_outer
loop-j-preserved-then-is_outer c = search (rules, outer_laws)

pub loop-j-preserved-then-q-ne-G_KIND : goal.loop-j-preserved-then-q-ne-G_KIND
loop-j-preserved-then-q-ne-G_KIND c =
    outer_pass _ _ _ _ _ c.requires.0 _ _ _ _ _ _ _ _ c.loop-j.invariant _ c.loaded_at-q.ensures c.loop-j-test.true _
    c.is_outer.ensures c.if-is_outer.false c.if-q-ne-G_KIND.true

pub overflow_add-next-in-loop-j : goal.overflow_add-next-in-loop-j
overflow_add-next-in-loop-j c =
    outer_group_fits _ _ _ _ _ c.requires.0 _ _ _ _ _ _ _ _ c.loop-j.invariant _ c.loaded_at-q.ensures c.loop-j-test.true _
    c.is_outer.ensures _ _ _ c.repeats_at-most.ensures c.read_group-g.ensures c.if-q-ne-G_KIND.false

pub loop-j-preserved : goal.loop-j-preserved
loop-j-preserved c =
    outer_group _ _ _ _ _ c.requires.0 _ _ _ _ _ _ _ _ c.loop-j.invariant _ c.loaded_at-q.ensures c.loop-j-test.true _
    c.is_outer.ensures _ _ _ c.repeats_at-most.ensures c.read_group-g.ensures c.if-q-ne-G_KIND.false _ _
    c.keep_unvalued-have-in-loop-j.ensures.0 c.keep_unvalued-have-in-loop-j.ensures.1

pub returns : goal.returns
returns c = search (rules, outer_laws)
