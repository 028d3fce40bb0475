use Rattle.std.proofs.Common.{◌∙◌, ◌+◌, ◌/◌, ◌≤◌, length, arith, rules}
use Rattle.bits.proofs.Laws.{part_long, part_byte, whole_more, whole_last, whole-last_fits}
use Rattle.bits.proofs.bits_behind.Goals as goal

pub loop-byte-preserved : goal.loop-byte-preserved
loop-byte-preserved c =
    let room : c.args.at + c.args.width / 8 ≤ length c.args.data.now = omega (arith, c.requires.width_in_bounds) in
    let long = part_long c.args.data.now c.args.at (c.args.width / 8) room in
    let byte = part_byte c.args.data.now c.args.at (c.args.width / 8) room c.loop-byte.byte-index (omega (arith, long, c.loop-byte-test.true)) in
    whole_more _ _ _ _ _ _ c.loop-byte.invariant _ (c.from.ensures ∙ byte) (search rules) (omega (arith, long, c.loop-byte-test.true))

pub overflow_add-result : goal.overflow_add-result
overflow_add-result c =
    let room : c.args.at + c.args.width / 8 ≤ length c.args.data.now = omega (arith, c.requires.width_in_bounds) in
    let long = part_long c.args.data.now c.args.at (c.args.width / 8) room in
    whole-last_fits _ _ _ _ _ _ c.loop-byte.invariant (omega (arith, long, c.loop-byte-test.false, c.loop-byte.auto.byte-index-end)) _ c.first_bits.ensures.value c.first_bits.ensures.upper_bound

pub returns : goal.returns
returns c =
    let room : c.args.at + c.args.width / 8 ≤ length c.args.data.now = omega (arith, c.requires.width_in_bounds) in
    let long = part_long c.args.data.now c.args.at (c.args.width / 8) room in
    whole_last _ _ _ _ _ _ c.loop-byte.invariant (omega (arith, long, c.loop-byte-test.false, c.loop-byte.auto.byte-index-end)) _ c.first_bits.ensures.value c.first_bits.ensures.upper_bound
