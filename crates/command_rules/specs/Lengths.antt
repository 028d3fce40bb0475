-- C2, C3, C6 to C8, C13, L1 and L2 (docs/RULES.md): whether a Q exists, how many bytes it takes and lacks, and how often a group repeats.
use Rattle.std.specs.Prelude.{ℕ, ◌+◌, ◌-◌, ◌/◌, ◌^◌, ◌≡◌, Bool, true, false, cond, not, ◌&&◌, ◌||◌, List, eqb, leb, ltb, get_or, Option, Some, None}
use Rattle.std.specs.Int.Bits.{bit_and}
use Rattle.command_rules.specs.declared.Earlier.{Earlier}
use Rattle.command_rules.specs.declared.Earlier.TheVariants.{Value, NoValue, NoEntry}
use Rattle.command_rules.specs.declared.BitShift.{BitShift}
use Rattle.command_rules.specs.declared.Rule.{Rule}
use Rattle.command_rules.specs.declared.Rule.TheVariants.{Fixed, Open, Counted}
use Rattle.command_rules.specs.declared.Wanted.{Wanted}
use Rattle.command_rules.specs.declared.Wanted.TheVariants.{Exactly, Rest}
use Rattle.command_rules.specs.declared.Length.{Length}

-- C2: how many entries of a list an offset can count to
abbrev pub most_entries : ℕ
most_entries = 256

-- C2: the entry that an offset means
abbrev pub entry_at : List Earlier → ℕ → Earlier
entry_at es k = cond (ltb k most_entries) (get_or es k NoEntry) NoEntry

-- ---- conditions

-- C3: has the entry a value whose low byte shares a bit with the mask
abbrev pub meets : ℕ → Earlier → Bool
meets mask (Value b) = not (eqb (bit_and b mask) 0)
meets mask NoValue = false
meets mask NoEntry = false

-- C3: does the condition hold
abbrev pub holds : Option ℕ → Option ℕ → List Earlier → Bool
holds (Some k) (Some mask) es = meets mask (entry_at es k)
holds (Some k) None es = true
holds None mask es = true

-- ---- lengths

-- C6, C11, C13: some bits of a byte, as a number
abbrev pub masked : ℕ → ℕ → BitShift → ℕ
masked b mask shift = bit_and b mask / 2 ^ shift.0

-- C6: the length by the entry that an R means
abbrev pub by_entry : ℕ → BitShift → Earlier → Wanted
by_entry mask shift (Value b) = Exactly (masked b mask shift)
by_entry mask shift NoValue = Exactly (masked 0 mask shift)
by_entry mask shift NoEntry = Rest

-- C4 to C6, L1: how many bytes a Q wants, by what its lines say of its length and by the entries
abbrev pub wanted : Rule → List Earlier → Wanted
wanted (Fixed n) es = Exactly n
wanted Open es = Rest
wanted (Counted k mask shift) es = by_entry mask shift (entry_at es k)

abbrev pub least : ℕ → ℕ → ℕ
least a b = cond (leb a b) a b

-- C7, L2: the length, if so many bytes are left; the rest lacks nothing
abbrev pub cut : Wanted → ℕ → Length
cut (Exactly n) rest = record { taken = least n rest; lacking = n - least n rest }
cut Rest rest = record { taken = rest; lacking = 0 }

-- C8: does a Q exist
abbrev pub exists : Option ℕ → Option ℕ → Rule → List Earlier → ℕ → Bool
exists offset mask rule es rest = ltb 0 rest && (holds offset mask es && not (eqb (cut (wanted rule es) rest).taken 0))

-- C8: its length, of those that are left
unfoldable pub size_of : Option ℕ → Option ℕ → Rule → List Earlier → ℕ → Option Length
size_of offset mask rule es rest = cond (exists offset mask rule es rest) (Some (cut (wanted rule es) rest)) None

-- L4: a length agrees with what was wanted
abbrev pub Agrees : Wanted → Length → Type 0
Agrees (Exactly n) l = l.taken + l.lacking ≡ n
Agrees Rest l = l.lacking ≡ 0

-- ---- groups

-- C13: how often by the entry
abbrev pub counted : ℕ → BitShift → Earlier → ℕ
counted mask shift (Value b) = masked b mask shift
counted mask shift NoValue = 0
counted mask shift NoEntry = 0

-- C13: at most how often. A repetition that goes on takes a byte or more, so as long as something is left is at most once a byte.
unfoldable pub repeats : ℕ → ℕ → BitShift → List Earlier → ℕ → ℕ
repeats offset mask shift es rest = cond (eqb offset 255 || eqb mask 0) rest (counted mask shift (entry_at es offset))
