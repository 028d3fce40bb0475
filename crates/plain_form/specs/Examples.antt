-- Texts in plain form and out of it. In comments `/` stands for a line end; the lines are letters only.
use Rattle.std.specs.Prelude.{◌≡◌, refl, [], ◌∷◌}
use Rattle.plain_form.specs.PlainForm.{out_of_order}

-- no text
nothing : out_of_order [] ≡ 0
nothing = refl

-- `F/F/B/P/B/P/P/H/P/V/V/H/V/D/E/D/`
in_order : out_of_order (0x46 ∷ 10 ∷ 0x46 ∷ 10 ∷ 0x42 ∷ 10 ∷ 0x50 ∷ 10 ∷ 0x42 ∷ 10 ∷ 0x50 ∷ 10 ∷ 0x50 ∷ 10 ∷ 0x48 ∷ 10
    ∷ 0x50 ∷ 10 ∷ 0x56 ∷ 10 ∷ 0x56 ∷ 10
    ∷ 0x48 ∷ 10 ∷ 0x56 ∷ 10 ∷ 0x44 ∷ 10 ∷ 0x45 ∷ 10 ∷ 0x44 ∷ 10 ∷ []) ≡ 0
in_order = refl

-- an F behind a B: `B/F/`
late_frequency : out_of_order (0x42 ∷ 10 ∷ 0x46 ∷ 10 ∷ []) ≡ 2
late_frequency = refl

-- a B behind an H: `H/P/B/`
late_base : out_of_order (0x48 ∷ 10 ∷ 0x50 ∷ 10 ∷ 0x42 ∷ 10 ∷ []) ≡ 3
late_base = refl

-- an H behind a D: `D/E/H/`
late_header : out_of_order (0x44 ∷ 10 ∷ 0x45 ∷ 10 ∷ 0x48 ∷ 10 ∷ []) ≡ 3
late_header = refl

-- a P behind a V: `H/V/P/V/P/`
late_param : out_of_order (0x48 ∷ 10 ∷ 0x56 ∷ 10 ∷ 0x50 ∷ 10 ∷ 0x56 ∷ 10 ∷ 0x50 ∷ 10 ∷ []) ≡ 3
late_param = refl
