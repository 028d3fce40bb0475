-- T9 to T15 and T21 to T29 (docs/RULES.md) as tables: how many fields follow a letter, and what each of them must be.
-- proofs/advice proves that they say what the forms say.
use Rattle.std.specs.Prelude.{ℕ, cond, eqb}
use Rattle.text_faults.specs.declared.fault.Want.{Want}
use Rattle.text_faults.specs.declared.fault.Want.TheVariants.{Number, OptionalNumber, Level, Name, Plain, OptionalName, Path, OptionalPath, Flags}
use Rattle.text_faults.specs.declared.fault.Want.TheVariants.{FrameType, CommandType}

-- F, B, H, P, V, D, E
abbrev pub frame_count : ℕ → ℕ
frame_count c =
    cond (eqb c 0x46) 2 (cond (eqb c 0x42) 1 (cond (eqb c 0x48) 4 (cond (eqb c 0x50) 8 (cond (eqb c 0x56) 2 (cond (eqb c 0x44) 1 (cond (eqb c 0x45) 2 0))))))

-- Q, G, R, A, T, S, U, K, M
abbrev pub command_count : ℕ → ℕ
command_count c =
    cond (eqb c 0x51) 5 (cond (eqb c 0x47) 4 (cond (eqb c 0x52) 4 (cond (eqb c 0x41) 2 (cond (eqb c 0x54) 2
    (cond (eqb c 0x53) 3 (cond (eqb c 0x55) 3 (cond (eqb c 0x4b) 2 (cond (eqb c 0x4d) 1 0))))))))

-- T11: an H
abbrev pub want_header : ℕ → Want
want_header k = cond (eqb k 1) (Number 255) (cond (eqb k 2) (OptionalNumber 255) (cond (eqb k 3) Flags Name))

-- T12: a P
abbrev pub want_numbers : ℕ → Want
want_numbers k = cond (eqb k 1) Level (cond (eqb k 2) (Number 65535) (Number 255))

abbrev pub want_param : ℕ → Want
want_param k =
    cond (eqb k 4) FrameType (cond (eqb k 5) Plain (cond (eqb k 6) OptionalName (cond (eqb k 7) OptionalPath (cond (eqb k 8) OptionalPath (want_numbers k)))))

-- T13: a V
abbrev pub want_validation : ℕ → Want
want_validation k = cond (eqb k 1) Path (Number 65535)

-- T15, T25, T28: an E, a T, a K
abbrev pub want_named : ℕ → ℕ → Want
want_named k most = cond (eqb k 1) (Number most) Name

-- T21: a Q
abbrev pub want_parameter : ℕ → Want
want_parameter k = cond (eqb k 1) (Number 1) (cond (eqb k 2) CommandType (cond (eqb k 3) Name (OptionalNumber 255)))

-- T22: a G
abbrev pub want_group : ℕ → Want
want_group k = cond (eqb k 1) Name (Number 255)

-- T23: an R
abbrev pub want_variant : ℕ → Want
want_variant k = cond (eqb k 3) (OptionalNumber 255) (cond (eqb k 4) (Number 1) (Number 255))

-- T24: an A
abbrev pub want_array : ℕ → Want
want_array k = cond (eqb k 1) (Number 255) (Number 1)

-- T26, T27: an S, a U
abbrev pub want_bits : ℕ → Want
want_bits k = cond (eqb k 1) (Number 255) (cond (eqb k 2) (OptionalNumber 255) Name)

-- H, P, V, D, E; F and B have numbers to 255
abbrev pub frame_want : ℕ → ℕ → Want
frame_want c k =
    cond (eqb c 0x48) (want_header k) (cond (eqb c 0x50) (want_param k) (cond (eqb c 0x56) (want_validation k)
    (cond (eqb c 0x44) Name (cond (eqb c 0x45) (want_named k 65535) (Number 255)))))

-- R, A, T, S, U, K, M
abbrev pub item_want : ℕ → ℕ → Want
item_want c k =
    cond (eqb c 0x52) (want_variant k) (cond (eqb c 0x41) (want_array k) (cond (eqb c 0x54) (want_named k 255) (cond (eqb c 0x53) (want_bits k)
    (cond (eqb c 0x55) (want_bits k) (cond (eqb c 0x4b) (want_named k 255) (cond (eqb c 0x4d) (OptionalNumber 255) (frame_want c k)))))))

-- what field k after the letter c must be
abbrev pub want_of : ℕ → ℕ → Want
want_of c k = cond (eqb c 0x51) (want_parameter k) (cond (eqb c 0x47) (want_group k) (item_want c k))
