-- Totals as text, by examples.
use Rattle.std.specs.Prelude.{◌≡◌, refl, [], ◌∷◌}
use Rattle.numerals.specs.Numerals.{spelled}
use Rattle.totals_text.specs.Text.{key_line, key_lines, refused_line}

-- `key 8 2 41`
pub one_line : key_line 34 41 ≡ 0x6b ∷ 0x65 ∷ 0x79 ∷ 0x20 ∷ 0x38 ∷ 0x20 ∷ 0x32 ∷ 0x20 ∷ 0x34 ∷ 0x31 ∷ 0x0a ∷ []
unfolding spelled
one_line = refl

-- a count of 0 has no line: `key 0 1 3`
pub no_line : key_lines 0 (0 ∷ 3 ∷ 0 ∷ []) ≡ 0x6b ∷ 0x65 ∷ 0x79 ∷ 0x20 ∷ 0x30 ∷ 0x20 ∷ 0x31 ∷ 0x20 ∷ 0x33 ∷ 0x0a ∷ []
unfolding spelled key_lines
no_line = refl

-- `refused 7 0`
pub refused_line_lem : refused_line 7 0 ≡ 0x72 ∷ 0x65 ∷ 0x66 ∷ 0x75 ∷ 0x73 ∷ 0x65 ∷ 0x64 ∷ 0x20 ∷ 0x37 ∷ 0x20 ∷ 0x30 ∷ 0x0a ∷ []
unfolding spelled
refused_line_lem = refl
