use Rattle.std.proofs.Common.{arith}
use Rattle.node_mask.proofs.Laws.{word_shifts, word_fits}
use Rattle.node_mask.proofs.short_word.Goals as goal

pub overflow_mul-word : goal.overflow_mul-word
overflow_mul-word c =
    word_shifts c.args.bytes.now c.loop-i.i c.loop-i.word c.loop-i.invariant (omega (arith, c.loop-i.auto.i)) c.requires (omega (arith, c.loop-i-test.true))

pub overflow_add-word : goal.overflow_add-word
overflow_add-word c =
    word_fits c.args.bytes.now c.loop-i.i c.loop-i.word c.loop-i.invariant (omega (arith, c.loop-i.auto.i)) c.requires (omega (arith, c.loop-i-test.true)) _
    c.wide.ensures
