-- Numbers in decimal, read.
use Rattle.std.specs.Prelude.{ℕ, cond, ◌&&◌, List, leb, Option, Some, None}
use Rattle.text.specs.Text.{within, up_to, worth}

-- LS2: the greatest number that is read, 2^64 - 1
abbrev pub most : ℕ
most = 18446744073709551615

-- LS2: the number that l says, without leading zeros
abbrev pub value_of : List ℕ → Option ℕ
value_of l = cond (up_to most l) (Some (worth 0 l)) None

-- the number that digits say after digits that are worth v
abbrev pub digits_from : ℕ → List ℕ → Option ℕ
digits_from v l = cond (within 48 57 l && leb (worth v l) most) (Some (worth v l)) None
