-- Commands of MPDUs, worked out.
use Rattle.std.specs.Prelude.{◌≡◌, refl, ◌^◌, ◌-◌}
use Rattle.command_part.specs.Part.{command_part}

three_bytes : command_part 13 9 0 ≡ record { start = 9; length = 3 }
unfolding command_part
three_bytes = refl

-- two bytes of CRC
at_100_kbit : command_part 13 9 2 ≡ record { start = 9; length = 2 }
unfolding command_part
at_100_kbit = refl

-- an acknowledge: the checksum stands right behind the header
acknowledge : command_part 10 9 0 ≡ record { start = 9; length = 0 }
unfolding command_part
acknowledge = refl

-- the header reaches into the checksum
no_room : command_part 10 10 0 ≡ record { start = 0; length = 0 }
unfolding command_part
no_room = refl

-- an offset that no MPDU has
far : command_part 10 (2 ^ 64 - 1) 2 ≡ record { start = 0; length = 0 }
unfolding command_part
far = refl
