-- H26 (docs/RULES.md): where the command of an MPDU lies.
use Rattle.std.specs.Prelude.{cond, ℕ, ◌+◌, ◌-◌, leb, ltb}
use Rattle.command_part.specs.declared.Part.{Part}

-- H26: the bytes of the checksum at a speed
abbrev pub sum_bytes : ℕ → ℕ
sum_bytes speed = cond (ltb speed 2) 1 2

-- H26: what an MPDU of n bytes has between its header and its checksum; nothing, at 0, where these leave no room
unfoldable pub command_part : ℕ → ℕ → ℕ → Part
command_part n offset speed =
    cond (leb (offset + sum_bytes speed) n) (record { start = offset; length = n - sum_bytes speed - offset }) (record { start = 0; length = 0 })

-- its start and its length
abbrev pub span : Part → ℕ × ℕ
span p = (p.start, p.length)
