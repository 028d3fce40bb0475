-- T21 to T29 (docs/RULES.md): the letters of the lines of a command text.
use Rattle.std.specs.Prelude.{ℕ}

-- T21: a parameter
abbrev pub letter_q : ℕ
letter_q = 0x51

-- T22: a group
abbrev pub letter_g : ℕ
letter_g = 0x47

-- T23: a length that is found in an earlier parameter
abbrev pub letter_r : ℕ
letter_r = 0x52

-- T24: the length of an ARRAY
abbrev pub letter_a : ℕ
letter_a = 0x41

-- T25: a flag
abbrev pub letter_t : ℕ
letter_t = 0x54

-- T26: some bits
abbrev pub letter_s : ℕ
letter_s = 0x53

-- T27: an S by its old letter
abbrev pub letter_u : ℕ
letter_u = 0x55

-- T28: a word for a value
abbrev pub letter_k : ℕ
letter_k = 0x4b

-- T29: the length of a bitmask
abbrev pub letter_m : ℕ
letter_m = 0x4d
