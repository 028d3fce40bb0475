-- Laws of a Q's value. Assumes nothing.
use mathlib.Core.Path.{◌≡◌, refl}
use mathlib.Core.List.{List}
use Prim.Native.Nat.{ℕ, ◌+◌, ◌*◌, ◌%◌, ◌^◌, ◌≤◌, ◌<◌}
use native.Mathlib.Nat.{add-zero, pow-suc, pow-le-pow_right, lt_of_lt_of_le}
use native.Mathlib.Numerals.{add-one}
use native.Mathlib.Omega.{arith}
use mir.Syntax.{w64}
use mir.Val.{Fits}
use lib.ListN.{length, get_or, drop}
use borrow.Author.Tests.{le-leb, lt-leb, lt-ltb, eq-eqb, ne_eqb}
use Rattle.laws.proofs.Lists.{next, done}
use Rattle.command_class.specs.Definition.{under, first_const}
use Rattle.command_class.specs.Find.{from}
use Rattle.command_lengths.specs.Entries.{earlier}
use Rattle.text.specs.Records.{Readable}
use Rattle.command_text.specs.Rules.{rules}
use Rattle.command_schema.specs.Loaded.{after, field_in, Stands}
use Rattle.command_schema.specs.declared.Loaded.{Loaded}
use Rattle.text.specs.declared.Place.{Place}
use Rattle.command_rules.specs.Param.{big_endian, value_of, valued, const_line, entry_of}
use Rattle.std.specs.Prelude.{Option, Some, None}

-- ---- read_uint: what is read so far, and what is left
pub record Reading (s : List ℕ) (v i : ℕ) : Type 0 where
  pub so : big_endian 0 s ≡ big_endian v (drop i s)
  pub below : v < 256 ^ i
  pub within : i ≤ length s

pub reading-start : (s : List ℕ) → Reading s 0 0
reading-start s = record { so = refl; below = omega arith; within = omega arith }

more-below : (v b i : ℕ) → v < 256 ^ i → b < 256 → v * 256 + b < 256 ^ (i + 1)
more-below v b i h l = rw (add-one, pow-suc) (omega arith)

module _ (s : List ℕ) (v i : ℕ) (k : Reading s v i) where
  pub reading-more : (b : ℕ) → b ≡ get_or s i 0 → b < 256 → i < length s → Reading s (v * 256 + b) (i + 1)
  unfolding big_endian
  reading-more b e l h = record { so = rw e (rw (next s i h) at k.so); below = more-below v b i k.below l; within = omega arith }

  pub reading-fits : (b : ℕ) → b < 256 → i < length s → length s ≤ 8 → Fits w64 (v * 256 + b)
  reading-fits b l h m =
      let p : 256 ^ (i + 1) ≤ 256 ^ 8 = pow-le-pow_right (omega arith) {i = i + 1} {j = 8} (omega arith) in
      record { fits = lt_of_lt_of_le (more-below v b i k.below l) p }

  pub reading-times-fits : i < length s → length s ≤ 8 → Fits w64 (v * 256)
  reading-times-fits h m = let f = reading-fits 0 (omega arith) h m in rw add-zero at f

  pub reading_done : 1 ≤ length s → length s ≤ 8 → length s ≤ i → Some v ≡ value_of s
  unfolding big_endian
  reading_done some few h = rw (le-leb 1 (length s) some, le-leb (length s) 8 few, k.so, done s i h)

pub uint_none : (s : List ℕ) → length s < 1 → None ≡ value_of s
uint_none s h = rw (lt-leb 1 (length s) h)

pub uint_long : (s : List ℕ) → 1 ≤ length s → 8 < length s → None ≡ value_of s
uint_long s some h = rw (le-leb 1 (length s) some, lt-leb (length s) 8 h)

pub ruleset uint_laws = (reading-start, reading-more, reading-fits, reading-times-fits, reading_done, uint_none, uint_long)

-- ---- what a value is for a row and for those after it
module _ (value : Option ℕ) where
  pub entry_none : value ≡ None → earlier 256 ≡ entry_of value
  entry_none e = rw e refl

  pub entry_is : (v e : ℕ) → e ≡ v % 256 → value ≡ Some v → earlier e ≡ entry_of value
  entry_is v e ee q = let l : v % 256 < 256 = omega arith in rw (ee, q, lt-ltb (v % 256) 256 l) refl

  pub valued_is : (v : ℕ) → value ≡ Some v → 1 ≡ valued value
  valued_is v q = rw q

  pub valued_not : value ≡ None → 0 ≡ valued value
  valued_not q = rw q

  module _ (t : List ℕ) (q : Loaded) where
    pub const_not : value ≡ None → 0 ≡ const_line (field_in t q) value
    const_not e = rw e

    pub const_other : (v : ℕ) → value ≡ Some v → (q.named ≡ 1 → ⊥) → 0 ≡ const_line (field_in t q) value
    const_other v e h = rw (e, ne_eqb q.named 1 h)

    pub const_is : (v low : ℕ) (p : Place) (r : ℕ) → p ≡ after q → low ≡ v % 256 → r ≡ first_const low (under (from t p)) → value ≡ Some v
        → q.named ≡ 1 → r ≡ const_line (field_in t q) value
    const_is v low p r ep el er e h = rw (e, eq-eqb q.named 1 h, ← el) (rw ep at er)

-- the place after the line of a Q
pub after-readable : (t : List ℕ) (q : Loaded) (p : Place) → Stands t q → p ≡ after q → Readable rules t p
after-readable t q p stands e = rw e stands.readable

pub ruleset value_laws = (after-readable, entry_none, entry_is, valued_is, valued_not, const_not, const_other, const_is)
