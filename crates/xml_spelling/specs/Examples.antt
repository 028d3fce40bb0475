-- Values as they are written.
use Rattle.std.specs.Prelude.{◌≡◌, refl, [], ◌∷◌}
use Rattle.numerals.specs.Numerals.{spelled}
use Rattle.xml_spelling.specs.Spelling.{escaped, hexed}

-- `a>b` as `a&gt;b`
words : escaped (0x61 ∷ 0x3e ∷ 0x62 ∷ []) ≡ 0x61 ∷ 0x26 ∷ 0x67 ∷ 0x74 ∷ 0x3b ∷ 0x62 ∷ []
unfolding escaped
words = refl

-- `0` as `0x0`
zero : hexed (0x30 ∷ []) ≡ 0x30 ∷ 0x78 ∷ 0x30 ∷ []
unfolding spelled
zero = refl

-- `48879` as `0xBEEF`
beef : hexed (0x34 ∷ 0x38 ∷ 0x38 ∷ 0x37 ∷ 0x39 ∷ []) ≡ 0x30 ∷ 0x78 ∷ 0x42 ∷ 0x45 ∷ 0x45 ∷ 0x46 ∷ []
unfolding spelled
beef = refl
