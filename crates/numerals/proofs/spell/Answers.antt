use Rattle.numerals.proofs.Laws.{spell_more}
use Rattle.numerals.proofs.spell.Goals as goal

pub loop-digit-preserved : goal.loop-digit-preserved
loop-digit-preserved c =
    spell_more _ _ _ _ _ _ _ _ c.loop-digit.invariant _ c.is_spelled.ensures c.loop-digit-test.true c.requires.1 _ _ c.glyph.ensures c.less-left.ensures
