-- Laws of conditions, lengths and counts: one for each way through the code. Assumes nothing.
use mathlib.Core.Path.{◌≡◌, refl, sym, ap, ◌∙◌}
use mathlib.Core.Bool.{Bool, true, false, cond, not, ◌||◌}
use mathlib.Core.List.{List, [], ◌∷◌}
use Prim.Native.Nat.{ℕ, zero, suc, ◌-◌, ◌^◌, ◌≤◌, ◌<◌}
use native.Mathlib.Nat.{lt_of_le_of_lt, lt_of_lt_of_le, div-eq_of_lt}
use native.Mathlib.Omega.{arith}
use lib.Bits.{bit_and, and_le_l}
use lib.Dec.{eqb, ltb}
use lib.ListN.{length, get_or, take, get_or-eq_default, length-map}
use lib.Seq.{get_or-take}
use lib.Pow.{pow_mono}
use borrow.Author.Tests.{ltb-true, le-leb, lt-leb, lt-ltb, le-ltb, eq-eqb, ne_eqb}
use Rattle.command_lengths.specs.Entries.{earlier, entries, given}
use Rattle.command_rules.specs.Lengths.{meets, holds, masked, by_entry, wanted, cut, size_of, counted, repeats, entry_at}
use Rattle.command_rules.specs.declared.Earlier.{Earlier}
use Rattle.command_rules.specs.declared.Earlier.TheVariants.{Value, NoValue, NoEntry}
use Rattle.command_rules.specs.declared.BitShift.{BitShift}
use Rattle.command_rules.specs.declared.Rule.{Rule}
use Rattle.command_rules.specs.declared.Rule.TheVariants.{Fixed, Open, Counted}
use Rattle.command_rules.specs.declared.Wanted.{Wanted}
use Rattle.command_rules.specs.declared.Wanted.TheVariants.{Exactly, Rest}
use Rattle.command_rules.specs.declared.Length.{Length}
use Rattle.std.specs.Prelude.{Option, Some, None}

-- ---- entries

pub earlier-value : (e : ℕ) → e < 256 → Value e ≡ earlier e
earlier-value e h = rw (lt-ltb e 256 h)

pub earlier-none : (e : ℕ) → 256 ≤ e → e ≡ 256 → NoValue ≡ earlier e
earlier-none e h q = rw (le-ltb e 256 h, eq-eqb e 256 q)

pub earlier-not : (e : ℕ) → 256 ≤ e → (e ≡ 256 → ⊥) → NoEntry ≡ earlier e
earlier-not e h q = rw (le-ltb e 256 h, ne_eqb e 256 q)

-- the element at a place of a list that is read number by number
entries_at : (es : List ℕ) (k : ℕ) → k < length es → get_or (entries es) k NoEntry ≡ earlier (get_or es k 0)
entries_at [] k h = absurd (omega arith)
entries_at (e ∷ es) zero h = refl
entries_at (e ∷ es) (suc k) h = entries_at es k (omega arith)

entries-past : (es : List ℕ) (k : ℕ) → length es ≤ k → get_or (entries es) k NoEntry ≡ NoEntry
entries-past es k h = get_or-eq_default (entries es) NoEntry {n = k} (rw length-map h)

module _ (es : List ℕ) (k : ℕ) where
  pub entry_far : 255 < k → NoEntry ≡ entry_at (entries es) k
  entry_far h = rw (le-ltb k 256 (omega arith))

  module _ (near : k ≤ 255) where
    pub entry_past : length es ≤ k → NoEntry ≡ entry_at (entries es) k
    entry_past h = rw (lt-ltb k 256 (omega arith), entries-past es k h)

    pub entry_is : (r : Earlier) → k < length es → r ≡ earlier (get_or es k 0) → r ≡ entry_at (entries es) k
    entry_is r h e = rw (lt-ltb k 256 (omega arith), entries_at es k h) e

-- ---- conditions

pub meets-value : (e : Earlier) (mask b : ℕ) → e ≡ Value b → not (eqb (bit_and b mask) 0) ≡ meets mask e
meets-value e mask b q = rw q

pub meets-none : (e : Earlier) (mask : ℕ) → e ≡ NoValue → false ≡ meets mask e
meets-none e mask q = rw q

pub meets-nothing : (e : Earlier) (mask : ℕ) → e ≡ NoEntry → false ≡ meets mask e
meets-nothing e mask q = rw q

module _ (offset mask : ℕ) (es : List Earlier) where
  pub holds-no_offset : 255 < offset → true ≡ holds (given offset) (given mask) es
  holds-no_offset h = rw (le-ltb offset 256 (omega arith))

  module _ (near : offset ≤ 255) where
    pub holds-no-mask : 255 < mask → true ≡ holds (given offset) (given mask) es
    holds-no-mask h = rw (lt-ltb offset 256 (omega arith), le-ltb mask 256 (omega arith))

    pub holds_is : (e : Earlier) (r : Bool) → e ≡ entry_at es offset → r ≡ meets mask e → mask ≤ 255 → r ≡ holds (given offset) (given mask) es
    holds_is e r ee er h = er ∙ ap (meets mask) ee ∙ rw (lt-ltb offset 256 (omega arith), lt-ltb mask 256 (omega arith), lt-ltb offset 256 (omega arith))

-- ---- lengths

pub masked-far : (b mask : ℕ) (shift : BitShift) → b < 2 ^ 16 → 15 < shift.0 → 0 ≡ masked b mask shift
masked-far b mask shift h u =
    let a = and_le_l b mask in
    let p : 2 ^ 16 ≤ 2 ^ shift.0 = pow_mono {i = 16} (omega arith) in
    sym (div-eq_of_lt (lt_of_lt_of_le (lt_of_le_of_lt a h) p))

module _ (e : Earlier) (mask : ℕ) (shift : BitShift) where
  pub by_value : (b r : ℕ) → e ≡ Value b → r ≡ masked b mask shift → Exactly r ≡ by_entry mask shift e
  by_value b r q w = rw (q, w)

  pub by_none : (r : ℕ) → e ≡ NoValue → r ≡ masked 0 mask shift → Exactly r ≡ by_entry mask shift e
  by_none r q w = rw (q, w)

  pub by_nothing : e ≡ NoEntry → Rest ≡ by_entry mask shift e
  by_nothing q = rw q

  pub count-value : (b r : ℕ) → e ≡ Value b → r ≡ masked b mask shift → r ≡ counted mask shift e
  count-value b r q w = rw q w

  pub count_none : e ≡ NoValue → 0 ≡ counted mask shift e
  count_none q = rw q

  pub count-nothing : e ≡ NoEntry → 0 ≡ counted mask shift e
  count-nothing q = rw q

module _ (rule : Rule) (es : List Earlier) where
  pub wanted_fixed : (n : ℕ) → rule ≡ Fixed n → Exactly n ≡ wanted rule es
  wanted_fixed n q = rw q

  pub wanted_open : rule ≡ Open → Rest ≡ wanted rule es
  wanted_open q = rw q

  pub wanted-counted : (k mask : ℕ) (shift : BitShift) (e : Earlier) (r : Wanted) → rule ≡ Counted k mask shift → e ≡ entry_at es k
      → r ≡ by_entry mask shift e → r ≡ wanted rule es
  wanted-counted k mask shift e r q ee er = er ∙ ap (by_entry mask shift) ee ∙ rw q

module _ (w : Wanted) (rest : ℕ) where
  pub cut-rest : w ≡ Rest → record { taken = rest; lacking = 0 } ≡ cut w rest
  cut-rest q = rw q

  pub cut_less : (n : ℕ) → w ≡ Exactly n → n ≤ rest → record { taken = n; lacking = 0 } ≡ cut w rest
  cut_less n q h = let z : n - n ≡ 0 = omega arith in rw (q, le-leb n rest h, z)

  pub cut-more : (n : ℕ) → w ≡ Exactly n → rest < n → record { taken = rest; lacking = n - rest } ≡ cut w rest
  cut-more n q h = rw (q, lt-leb n rest h)

module _ (offset mask : ℕ) (rule : Rule) (es : List Earlier) (rest : ℕ) where
  pub size_none : rest ≡ 0 → None ≡ size_of (given offset) (given mask) rule es rest
  unfolding size_of
  size_none e = rw e

  module _ (x : Bool) (is_x : x ≡ holds (given offset) (given mask) es) (some_left : rest ≡ 0 → ⊥) where
    pub size_absent : x ≡ false → None ≡ size_of (given offset) (given mask) rule es rest
    unfolding size_of
    size_absent f = rw (lt-ltb 0 rest (omega arith), ← is_x, f)

    module _ (w : Wanted) (l : Length) (is-w : w ≡ wanted rule es) (is-l : l ≡ cut w rest) (t : x ≡ true) where
      pub size-zero : l.taken ≡ 0 → None ≡ size_of (given offset) (given mask) rule es rest
      unfolding size_of
      size-zero z = rw (lt-ltb 0 rest (omega arith), ← is_x, t, ← is-w, ← is-l, eq-eqb l.taken 0 z)

      pub size_is : (l.taken ≡ 0 → ⊥) → Some l ≡ size_of (given offset) (given mask) rule es rest
      unfolding size_of
      size_is z = rw (lt-ltb 0 rest (omega arith), ← is_x, t, ← is-w, ← is-l, ne_eqb l.taken 0 z)

-- ---- groups

module _ (offset mask : ℕ) (shift : BitShift) (es : List Earlier) (rest : ℕ) where
  pub repeats_255 : offset ≡ 255 → rest ≡ repeats offset mask shift es rest
  unfolding repeats
  repeats_255 h = rw (eq-eqb offset 255 h)

  module _ (other : offset ≡ 255 → ⊥) where
    pub repeats_0 : mask ≡ 0 → rest ≡ repeats offset mask shift es rest
    unfolding repeats
    repeats_0 h = rw (ne_eqb offset 255 other, eq-eqb mask 0 h)

    pub repeats-counted : (e : Earlier) (r : ℕ) → e ≡ entry_at es offset → r ≡ counted mask shift e → (mask ≡ 0 → ⊥)
        → r ≡ repeats offset mask shift es rest
    unfolding repeats
    repeats-counted e r ee er h = er ∙ ap (counted mask shift) ee ∙ rw (ne_eqb offset 255 other, ne_eqb mask 0 h)

-- ---- the first 256 entries say all
entry_first : (es : List Earlier) (k : ℕ) → entry_at (take 256 es) k ≡ entry_at es k
entry_first es k = go (ltb k 256) refl
  where
    go : (b : Bool) → ltb k 256 ≡ b → cond b (get_or (take 256 es) k NoEntry) NoEntry ≡ cond b (get_or es k NoEntry) NoEntry
    go true e = get_or-take 256 es k NoEntry (ltb-true k 256 e)
    go false e = refl

holds-first : (offset mask : Option ℕ) (es : List Earlier) → holds offset mask (take 256 es) ≡ holds offset mask es
holds-first (Some k) (Some m) es = ap (meets m) (entry_first es k)
holds-first (Some k) None es = refl
holds-first None mask es = refl

wanted-first : (rule : Rule) (es : List Earlier) → wanted rule (take 256 es) ≡ wanted rule es
wanted-first (Fixed n) es = refl
wanted-first Open es = refl
wanted-first (Counted k mask shift) es = ap (by_entry mask shift) (entry_first es k)

pub size-first : (offset mask : Option ℕ) (rule : Rule) (es : List Earlier) (rest : ℕ)
    → size_of offset mask rule (take 256 es) rest ≡ size_of offset mask rule es rest
unfolding size_of
size-first offset mask rule es rest = rw (holds-first offset mask es, wanted-first rule es) refl

pub repeats-first : (offset mask : ℕ) (shift : BitShift) (es : List Earlier) (rest : ℕ)
    → repeats offset mask shift (take 256 es) rest ≡ repeats offset mask shift es rest
unfolding repeats
repeats-first offset mask shift es rest = ap (λ (e : Earlier). cond (eqb offset 255 || eqb mask 0) rest (counted mask shift e)) (entry_first es offset)

-- what the proofs of the functions go by
pub ruleset laws = (
  earlier-value,
  earlier-none,
  earlier-not,
  entry_far,
  entry_past,
  entry_is,
  meets-value,
  meets-none,
  meets-nothing,
  holds-no_offset,
  holds-no-mask,
  holds_is,
  masked-far,
  by_value,
  by_none,
  by_nothing,
  count-value,
  count_none,
  count-nothing,
  wanted_fixed,
  wanted_open,
  wanted-counted,
  cut-rest,
  cut_less,
  cut-more,
  size_none,
  size_absent,
  size-zero,
  size_is,
  repeats_255,
  repeats_0,
  repeats-counted,
)
