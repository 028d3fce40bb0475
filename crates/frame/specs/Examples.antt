-- Which middle bytes are beams, and whom they wake, worked out: BF1 and BF3 (docs/RULES.md).
use Rattle.std.specs.Prelude.{◌≡◌, refl, true, false, List, [], ◌∷◌, ◌++◌, ℕ}
use Rattle.radio.specs.Beam.{beams_of, target_of}
use Rattle.frame.specs.declared.Reading.TheVariants.{Marker, Family}
use Rattle.frame.specs.Frame.{is_beam, target_in}

abbrev eight : List ℕ
eight = 0x55 ∷ 0x0A ∷ 0x0B ∷ 0x0C ∷ 0x01 ∷ 0x41 ∷ 0x01 ∷ 0x09 ∷ []

-- 8 bytes are too few for an ordinary frame, 9 are not
short : is_beam Family 0 eight ≡ true
unfolding beams_of
short = refl

ordinary : is_beam Family 0 (eight ++ (0xFF ∷ [])) ≡ false
unfolding beams_of
ordinary = refl

ordinary_marked : is_beam Marker 0 (eight ++ (0xFF ∷ [])) ≡ true
ordinary_marked = refl

-- 9 bytes that repeat their first three, and 12 that repeat their first four only at Long Range
repeats : is_beam Family 0 (0x55 ∷ 0x05 ∷ 0xAA ∷ 0x55 ∷ 0x05 ∷ 0xAA ∷ 0x55 ∷ 0x05 ∷ 0xAA ∷ []) ≡ true
unfolding beams_of
repeats = refl

abbrev long : List ℕ
long = 0x55 ∷ 0x31 ∷ 0x05 ∷ 0xAA ∷ 0x55 ∷ 0x31 ∷ 0x05 ∷ 0xAA ∷ 0x55 ∷ 0x31 ∷ 0x05 ∷ 0xAA ∷ []

repeats-long : is_beam Family 3 long ≡ true
unfolding beams_of
repeats-long = refl

-- node 5 and hash 0xAA; at Long Range power 3, node 0x105 and the hash
woken : target_in Family true 0 (0x55 ∷ 0x05 ∷ 0xAA ∷ []) ≡ record { node = 6; hash = 0xAB; power = 0 }
unfolding target_of
woken = refl

woken-long : target_in Family true 3 long ≡ record { node = 0x106; hash = 0xAB; power = 4 }
unfolding target_of
woken-long = refl

-- what isn't wholly there is none: the hash; half of power and node
cut : target_in Family true 0 (0x55 ∷ 0x05 ∷ []) ≡ record { node = 6; hash = 0; power = 0 }
unfolding target_of
cut = refl

cut-long : target_in Family true 3 (0x55 ∷ 0x31 ∷ []) ≡ record { node = 0; hash = 0; power = 0 }
unfolding target_of
cut-long = refl

unread : target_in Marker true 3 long ≡ record { node = 0; hash = 0; power = 0 }
unread = refl
