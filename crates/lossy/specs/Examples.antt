-- The examples of the Unicode Standard (Tables 3-8 to 3-11), and zero bytes at the end.
use Rattle.std.specs.Prelude.{◌≡◌, refl, ℕ, zero, suc, List, [], ◌∷◌, ◌++◌}
use Rattle.utf8.specs.Table.{cut}
use Rattle.lossy.specs.Lossy.{mark, replaced, shown}

abbrev marks : ℕ → List ℕ
marks zero = []
marks (suc n) = mark ++ marks n

-- sequences that are no shortest form
overlong : replaced (0xC0 ∷ 0xAF ∷ 0xE0 ∷ 0x80 ∷ 0xBF ∷ 0xF0 ∷ 0x81 ∷ 0x82 ∷ 0x41 ∷ []) ≡ marks 8 ++ (0x41 ∷ [])
unfolding cut
overlong = refl

surrogates : replaced (0xED ∷ 0xA0 ∷ 0x80 ∷ 0xED ∷ 0xBF ∷ 0xBF ∷ 0xED ∷ 0xAF ∷ 0x41 ∷ []) ≡ marks 8 ++ (0x41 ∷ [])
unfolding cut
surrogates = refl

other_ill_formed : replaced (0xF4 ∷ 0x91 ∷ 0x92 ∷ 0x93 ∷ 0xFF ∷ 0x41 ∷ 0x80 ∷ 0xBF ∷ 0x42 ∷ [])
    ≡ marks 5 ++ (0x41 ∷ marks 2) ++ (0x42 ∷ [])
unfolding cut
other_ill_formed = refl

cut_short : replaced (0xE1 ∷ 0x80 ∷ 0xE2 ∷ 0xF0 ∷ 0x91 ∷ 0x92 ∷ 0xF1 ∷ 0xBF ∷ 0x41 ∷ []) ≡ marks 4 ++ (0x41 ∷ [])
unfolding cut
cut_short = refl

well : replaced (0x41 ∷ 0xC3 ∷ 0xA4 ∷ 0xE2 ∷ 0x82 ∷ 0xAC ∷ 0xF0 ∷ 0x9F ∷ 0x98 ∷ 0x80 ∷ [])
    ≡ 0x41 ∷ 0xC3 ∷ 0xA4 ∷ 0xE2 ∷ 0x82 ∷ 0xAC ∷ 0xF0 ∷ 0x9F ∷ 0x98 ∷ 0x80 ∷ []
unfolding cut
well = refl

-- zero bytes inside stay; those at the end go, also behind what was replaced
zeros : shown (0x41 ∷ 0 ∷ 0xE2 ∷ 0x82 ∷ 0 ∷ 0 ∷ []) ≡ 0x41 ∷ 0 ∷ mark
unfolding cut shown
zeros = refl

nothing : shown (0 ∷ 0 ∷ []) ≡ []
unfolding cut shown
nothing = refl
