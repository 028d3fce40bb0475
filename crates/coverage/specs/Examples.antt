-- Which counts are raised, by examples.
use Rattle.std.specs.Prelude.{◌≡◌, refl, [], ◌∷◌}
use Rattle.totals.specs.Totals.{most}
use Rattle.coverage.specs.Coverage.{header_place, param_place, entry_place, refused_place, rows_from, raised_all}

-- the first and the last of each kind
pub places : header_place 0 ∷ header_place 63 ∷ param_place 0 ∷ param_place 5119 ∷ entry_place 0 1 ∷ entry_place 15 64 ∷ refused_place 5
    ∷ refused_place 7 ∷ []
    ≡ 0 ∷ 63 ∷ 64 ∷ 5183 ∷ 5184 ∷ 6207 ∷ 6208 ∷ 6210 ∷ []
places = refl

-- and what has no count
pub none : header_place 64 ∷ param_place 5120 ∷ entry_place 0 0 ∷ entry_place 0 65 ∷ entry_place 16 1 ∷ refused_place 4 ∷ refused_place 8 ∷ []
    ≡ 6211 ∷ 6211 ∷ 6211 ∷ 6211 ∷ 6211 ∷ 6211 ∷ 6211 ∷ []
none = refl

-- two rows: P line 1, whose set is D line 3, with symbol 2; and P line 0, which has no set, without a symbol
pub rows : rows_from (16 ∷ 3 ∷ []) (1 ∷ 0 ∷ 0 ∷ 8 ∷ 1 ∷ 7 ∷ 2 ∷ 0 ∷ 0 ∷ 8 ∷ 8 ∷ 1 ∷ 7 ∷ 0 ∷ []) 0 2 ≡ 65 ∷ 5377
    ∷ 64 ∷ 6211 ∷ []
rows = refl

-- a place twice, one that there is not, and one that is at the greatest count
pub counted : raised_all (4 ∷ most ∷ 0 ∷ []) (0 ∷ 6211 ∷ 1 ∷ 0 ∷ []) ≡ 6 ∷ most ∷ 0 ∷ []
counted = refl
