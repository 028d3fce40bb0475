-- What is gathered of the lines under a Q is its first M, A and R, and a row says what its rule is. Assumes nothing.
use mathlib.Core.Path.{◌≡◌, refl, sym, ap, ◌∙◌}
use mathlib.Core.Bool.{Bool, true, false, cond, ◌||◌}
use mathlib.Core.List.{List, [], ◌∷◌}
use Prim.Native.Nat.{ℕ, suc, ◌+◌, ◌≤◌}
use native.Mathlib.Nat.{add-zero}
use native.Mathlib.Omega.{arith}
use lib.Dec.{eqb, ltb}
use borrow.Author.Tests.{lt-ltb, ne_eqb}
use Rattle.text.specs.Print.{Every, Optionally}
use Rattle.text.specs.Text.{lines}
use Rattle.text.specs.Place.{left}
use Rattle.text.specs.Records.{records}
use Rattle.text.specs.declared.Place.{Place}
use Rattle.command_text.specs.Form.{Record, Size, param, group, item, Detail, variant, array, bit_flag, bit_field, const, bitmask, form}
use Rattle.command_text.specs.declared.ParamType.{ParamType}
use Rattle.command_text.specs.declared.ParamType.TheVariants.{Byte, StructByte, Const, Marker, Word, Bit24, Dword, Array, Variant, Bitmask, MultiArray}
use Rattle.command_class.specs.Definition.{Item, numbered, ends, under, of_item}
use Rattle.command_class.specs.Find.{from, or_missing}
use Rattle.command_class.specs.Print.{Fits}
use Rattle.command_class.proofs.Saying.{records_fit}
use Rattle.command_lengths.specs.Entries.{given}
use Rattle.command_rules.specs.declared.Rule.{Rule}
use Rattle.command_rules.specs.declared.Rule.TheVariants.{Fixed, Open, Counted}
use Rattle.command_rules.specs.Field.{or_else, first, as_variant, as_array, as_bitmask, array_rule, variant_rule, variable_rule, rule_of}
use Rattle.command_schema.specs.Gathered.{noted, gathered, bitmask_in, array_in, variant_in, length_number}
use Rattle.command_rules.specs.Limits.{is_bits, count_bits}
use Rattle.command_schema.specs.declared.items.Gathered.{Gathered}
use Rattle.std.specs.Prelude.{Option, Some, None}

-- ---- lines that say numbers of 0 to 255
abbrev pub AllFit : List Item → Type 0
AllFit is = Every (λ (i : Item). Fits i.says) is

numbered_fit : (n : ℕ) (rs : List Record) → Every Fits rs → AllFit (numbered n rs)
numbered_fit n [] h = tt
numbered_fit n (r ∷ rs) h = (h.0, numbered_fit (suc n) rs h.1)

under_fit : (is : List Item) → AllFit is → AllFit (under is)
under_fit [] h = tt
under_fit (i ∷ is) h = go (ends i) (under_fit is h.1)
  where
    go : (b : Bool) → AllFit (under is) → AllFit (cond b [] (i ∷ under is))
    go true f = tt
    go false f = (h.0, f)

pub from_fit : (t : List ℕ) (p : Place) → AllFit (from t p)
from_fit t p = numbered_fit p.line (records form (lines (left t p))) (records_fit (lines (left t p)))

pub under-from_fit : (t : List ℕ) (p : Place) → AllFit (under (from t p))
under-from_fit t p = under_fit (from t p) (from_fit t p)

-- ---- the first of a kind

or-none : {A : Type 0} (a : Option A) → or_else a None ≡ a
or-none None = refl
or-none (Some x) = refl

or_assoc : {A : Type 0} (a b c : Option A) → or_else (or_else a b) c ≡ or_else a (or_else b c)
or_assoc None b c = refl
or_assoc (Some x) b c = refl

-- a line that a test passes over or takes changes nothing that f looks at
alike : {A : Type 0} (f : Gathered → A) (b : Bool) (x y : Gathered) → f x ≡ f y → f (cond b x y) ≡ f y
alike f true x y e = e
alike f false x y e = refl

-- what f tells of what is gathered, step by step, is what it tells of the first line of which a tells something
by_steps : {A : Type 0} (f : Gathered → Option A) (a : Detail → Option A)
    → ((g : Gathered) (r : Record) → Fits r → f (noted g r) ≡ or_else (f g) (of_item a r))
    → (g : Gathered) (is : List Item) → AllFit is → f (gathered g is) ≡ or_else (f g) (first a is)
unfolding gathered
by_steps f a step g [] fit = sym (or-none (f g))
by_steps f a step g (i ∷ is) fit =
    by_steps f a step (noted g i.says) is fit.1 ∙ ap (λ x. or_else x (first a is)) (step g i.says fit.0)
    ∙ or_assoc (f g) (of_item a i.says) (first a is)

-- the first M
pub given_back : (l : Option ℕ) → Optionally (λ n. n ≤ 255) l → given (or_missing l) ≡ l
given_back None h = refl
given_back (Some n) h = rw (lt-ltb n 256 (omega arith))

said_at_all : (l : Option ℕ) → Optionally (λ n. n ≤ 255) l → eqb (or_missing l) 257 ≡ false
said_at_all None h = refl
said_at_all (Some n) h = ne_eqb n 257 (λ e. omega arith)

bitmask_step : (g : Gathered) (r : Record) → Fits r → bitmask_in (noted g r) ≡ or_else (bitmask_in g) (of_item as_bitmask r)
bitmask_step g (param q) fit = sym (or-none (bitmask_in g))
bitmask_step g (group q) fit = sym (or-none (bitmask_in g))
bitmask_step g (item (variant v)) fit = alike bitmask_in (eqb g.variant.paramoffs 256) _ g refl ∙ sym (or-none (bitmask_in g))
bitmask_step g (item (array n a)) fit = alike bitmask_in (eqb g.array.len 256) _ g refl ∙ sym (or-none (bitmask_in g))
bitmask_step g (item (bit_flag m n)) fit = sym (or-none (bitmask_in g))
bitmask_step g (item (bit_field b)) fit = sym (or-none (bitmask_in g))
bitmask_step g (item (const v n)) fit = sym (or-none (bitmask_in g))
bitmask_step g (item (bitmask l)) fit = go (eqb g.bitmask 257) refl
  where
    go : (b : Bool) → eqb g.bitmask 257 ≡ b
        → bitmask_in (cond b (record { bitmask = or_missing l; array = g.array; variant = g.variant; bits = g.bits }) g)
        ≡ or_else (cond b None (Some (given g.bitmask))) (Some l)
    go true e = rw (said_at_all l fit, given_back l fit) refl
    go false e = rw e refl

pub gathered_bitmask : (g : Gathered) (is : List Item) → AllFit is → bitmask_in (gathered g is) ≡ or_else (bitmask_in g) (first as_bitmask is)
gathered_bitmask = by_steps bitmask_in as_bitmask bitmask_step

-- the first A
array_step : (g : Gathered) (r : Record) → Fits r → array_in (noted g r) ≡ or_else (array_in g) (of_item as_array r)
array_step g (param q) fit = sym (or-none (array_in g))
array_step g (group q) fit = sym (or-none (array_in g))
array_step g (item (variant v)) fit = alike array_in (eqb g.variant.paramoffs 256) _ g refl ∙ sym (or-none (array_in g))
array_step g (item (array n a)) fit = go (eqb g.array.len 256) refl
  where
    go : (b : Bool) → eqb g.array.len 256 ≡ b
        → array_in (cond b (record { bitmask = g.bitmask; array = record { len = n; ascii = a }; variant = g.variant; bits = g.bits }) g)
        ≡ or_else (cond b None (Some (g.array.len, g.array.ascii))) (Some (n, a))
    go true e = rw (ne_eqb n 256 (λ z. omega arith)) refl
    go false e = rw e refl
array_step g (item (bit_flag m n)) fit = sym (or-none (array_in g))
array_step g (item (bit_field b)) fit = sym (or-none (array_in g))
array_step g (item (const v n)) fit = sym (or-none (array_in g))
array_step g (item (bitmask l)) fit = alike array_in (eqb g.bitmask 257) _ g refl ∙ sym (or-none (array_in g))

pub gathered_array : (g : Gathered) (is : List Item) → AllFit is → array_in (gathered g is) ≡ or_else (array_in g) (first as_array is)
gathered_array = by_steps array_in as_array array_step

-- the first R
variant_step : (g : Gathered) (r : Record) → Fits r → variant_in (noted g r) ≡ or_else (variant_in g) (of_item as_variant r)
variant_step g (param q) fit = sym (or-none (variant_in g))
variant_step g (group q) fit = sym (or-none (variant_in g))
variant_step g (item (variant v)) fit = go (eqb g.variant.paramoffs 256) refl
  where
    go : (b : Bool) → eqb g.variant.paramoffs 256 ≡ b
        → variant_in (cond b (record {
          bitmask = g.bitmask;
          array = g.array;
          variant =
              record { paramoffs = v.offset; sizemask = v.mask; sizeoffs = v.shift; ascii = v.ascii };
          bits = g.bits;
        }) g)
        ≡ or_else (cond b None (Some (record {
          offset = g.variant.paramoffs;
          mask = g.variant.sizemask;
          shift = g.variant.sizeoffs;
          ascii =
              g.variant.ascii;
        }))) (Some v)
    go true e = let h : v.offset ≤ 255 = fit.0 in rw (ne_eqb v.offset 256 (λ z. omega arith)) refl
    go false e = rw e refl
variant_step g (item (array n a)) fit = alike variant_in (eqb g.array.len 256) _ g refl ∙ sym (or-none (variant_in g))
variant_step g (item (bit_flag m n)) fit = sym (or-none (variant_in g))
variant_step g (item (bit_field b)) fit = sym (or-none (variant_in g))
variant_step g (item (const v n)) fit = sym (or-none (variant_in g))
variant_step g (item (bitmask l)) fit = alike variant_in (eqb g.bitmask 257) _ g refl ∙ sym (or-none (variant_in g))

pub gathered_variant : (g : Gathered) (is : List Item) → AllFit is → variant_in (gathered g is) ≡ or_else (variant_in g) (first as_variant is)
gathered_variant = by_steps variant_in as_variant variant_step

-- the T and S
bits_step : (g : Gathered) (r : Record) → (noted g r).bits ≡ g.bits + cond (is_bits r) 1 0
bits_step g (param q) = omega arith
bits_step g (group q) = omega arith
bits_step g (item (variant v)) = alike (λ (x : Gathered). x.bits) (eqb g.variant.paramoffs 256) _ g refl ∙ sym (add-zero g.bits)
bits_step g (item (array n a)) = alike (λ (x : Gathered). x.bits) (eqb g.array.len 256) _ g refl ∙ sym (add-zero g.bits)
bits_step g (item (bit_flag m n)) = refl
bits_step g (item (bit_field b)) = refl
bits_step g (item (const v n)) = omega arith
bits_step g (item (bitmask l)) = alike (λ (x : Gathered). x.bits) (eqb g.bitmask 257) _ g refl ∙ sym (add-zero g.bits)

count-more : (i : Item) (is : List Item) → count_bits (i ∷ is) ≡ cond (is_bits i.says) 1 0 + count_bits is
count-more i is = go (is_bits i.says)
  where
    go : (b : Bool) → cond b (suc (count_bits is)) (count_bits is) ≡ cond b 1 0 + count_bits is
    go true = omega arith
    go false = omega arith

pub gathered_bits : (g : Gathered) (is : List Item) → (gathered g is).bits ≡ g.bits + count_bits is
unfolding gathered
gathered_bits g [] = omega arith
gathered_bits g (i ∷ is) = omega (arith, gathered_bits (noted g i.says) is, bits_step g i.says, count-more i is)

-- ---- a rule, and how a row says it

-- the rule that these numbers of a row say
abbrev pub rule_by : ℕ → ℕ → ℕ → ℕ → Rule
rule_by length offset mask shift = cond (ltb length 256) (Fixed length) (cond (eqb length 256) Open (Counted offset mask (record { 0 = shift })))

fixed_back : (n offset mask shift : ℕ) → n ≤ 255 → rule_by n offset mask shift ≡ Fixed n
fixed_back n offset mask shift h = rw (lt-ltb n 256 (omega arith))

-- an R's numbers, where there is one
abbrev pub Agrees : Option Size → ℕ → ℕ → ℕ → Type 0
Agrees None offset mask shift = Unit {0}
Agrees (Some s) offset mask shift = (offset ≡ s.offset) × (mask ≡ s.mask) × (shift ≡ s.shift)

module _ (offset mask shift : ℕ) where
  variant_back : (r : Option Size) → Agrees r offset mask shift → rule_by (length_number (variant_rule r)) offset mask shift ≡ variant_rule r
  variant_back None h = refl
  variant_back (Some s) h = go (eqb s.offset 255 || eqb s.mask 0)
    where
      go : (b : Bool)
          → rule_by (length_number (cond b Open (Counted s.offset s.mask (record { 0 = s.shift })))) offset mask shift
          ≡ cond b Open (Counted s.offset s.mask (record { 0 = s.shift }))
      go true = refl
      go false = rw (h.0, h.1, h.2) refl

  variable_back : (m : Option (Option ℕ)) (r : Option Size) → Optionally (Optionally (λ n. n ≤ 255)) m → Agrees r offset mask shift
      → rule_by (length_number (variable_rule m r)) offset mask shift ≡ variable_rule m r
  variable_back None r fm h = variant_back r h
  variable_back (Some None) r fm h = variant_back r h
  variable_back (Some (Some n)) r fm h = fixed_back n offset mask shift fm

  array_back : (a : Option (ℕ × Bool)) → Optionally (λ a. a.0 ≤ 255) a → rule_by (length_number (array_rule a)) offset mask shift ≡ array_rule a
  array_back None h = refl
  array_back (Some a) h = fixed_back a.0 offset mask shift h

  pub rule_back : (type : ParamType) (m : Option (Option ℕ)) (a : Option (ℕ × Bool)) (r : Option Size)
      → Optionally (Optionally (λ n. n ≤ 255)) m → Optionally (λ a. a.0 ≤ 255) a → Agrees r offset mask shift
      → rule_by (length_number (rule_of type m a r)) offset mask shift ≡ rule_of type m a r
  rule_back Byte m a r fm fa h = refl
  rule_back StructByte m a r fm fa h = refl
  rule_back Const m a r fm fa h = refl
  rule_back Marker m a r fm fa h = refl
  rule_back Word m a r fm fa h = refl
  rule_back Bit24 m a r fm fa h = refl
  rule_back Dword m a r fm fa h = refl
  rule_back Array m a r fm fa h = array_back a fa
  rule_back Variant m a r fm fa h = variable_back m r fm h
  rule_back Bitmask m a r fm fa h = variable_back m r fm h
  rule_back MultiArray m a r fm fa h = variable_back m r fm h

-- the lengths of the first M and A are numbers of 0 to 255
pub bitmask_small : (is : List Item) → AllFit is → Optionally (Optionally (λ n. n ≤ 255)) (first as_bitmask is)
bitmask_small [] fit = tt
bitmask_small (i ∷ is) fit = go i.says fit.0 (bitmask_small is fit.1)
  where
    go : (r : Record) → Fits r → Optionally (Optionally (λ n. n ≤ 255)) (first as_bitmask is)
        → Optionally (Optionally (λ n. n ≤ 255)) (or_else (of_item as_bitmask r) (first as_bitmask is))
    go (param q) f h = h
    go (group q) f h = h
    go (item (variant v)) f h = h
    go (item (array n a)) f h = h
    go (item (bit_flag m n)) f h = h
    go (item (bit_field b)) f h = h
    go (item (const v n)) f h = h
    go (item (bitmask l)) f h = f

pub array_small : (is : List Item) → AllFit is → Optionally (λ a. a.0 ≤ 255) (first as_array is)
array_small [] fit = tt
array_small (i ∷ is) fit = go i.says fit.0 (array_small is fit.1)
  where
    go : (r : Record) → Fits r → Optionally (λ a. a.0 ≤ 255) (first as_array is)
        → Optionally (λ a. a.0 ≤ 255) (or_else (of_item as_array r) (first as_array is))
    go (param q) f h = h
    go (group q) f h = h
    go (item (variant v)) f h = h
    go (item (array n a)) f h = f
    go (item (bit_flag m n)) f h = h
    go (item (bit_field b)) f h = h
    go (item (const v n)) f h = h
    go (item (bitmask l)) f h = h

-- what is gathered agrees with its own first R
pub variant_agrees : (g : Gathered) → Agrees (variant_in g) g.variant.paramoffs g.variant.sizemask g.variant.sizeoffs
variant_agrees g = go (eqb g.variant.paramoffs 256)
  where
    go : (b : Bool)
        → Agrees (cond b None (Some (record {
          offset = g.variant.paramoffs;
          mask = g.variant.sizemask;
          shift = g.variant.sizeoffs;
          ascii =
              g.variant.ascii;
        }))) g.variant.paramoffs g.variant.sizemask g.variant.sizeoffs
    go true = tt
    go false = (refl, refl, refl)
