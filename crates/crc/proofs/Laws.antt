-- One law for each way through the code. Assumes nothing.
use mathlib.Core.Path.{◌≡◌, sym, ◌∙◌}
use mathlib.Core.Bool.{false}
use mathlib.Core.List.{List}
use Prim.Native.Nat.{ℕ, ◌+◌, ◌-◌, ◌*◌, ◌≤◌, ◌<◌}
use native.Mathlib.Omega.{arith}
use lib.Bits.{bit_xor}
use lib.Dec.{T, eqb}
use lib.ListN.{length, get_or, take, drop}
use lib.Pow.{are_bytes}
use lib.Seq.{length-take-le, take_all}
use borrow.Author.Tests.{le-leb, lt-leb, lt-ltb, le-ltb}
use Rattle.laws.proofs.Bytes.{bytes-more}
use Rattle.laws.proofs.Lists.{next, done}
use Rattle.crc.specs.Poly.{plus}
use Rattle.crc.specs.Crc.{sum_from, checksum, crc, body_of, trailer_of, right}
use Rattle.crc.specs.Register.{crc_byte, crc_from, register}
use Rattle.crc.proofs.Register.{register-crc}
use Rattle.crc.proofs.TableLaws.{table_laws}

-- ---- checksum8
module _ (m : List ℕ) (i r : ℕ) (inv : sum_from r (drop i m) ≡ checksum m) where
  pub sum_more : i < length m → sum_from (bit_xor r (get_or m i 0)) (drop (i + 1) m) ≡ checksum m
  unfolding plus
  sum_more h = rw (next m i h) at inv

  pub sum-all : length m ≤ i → r ≡ checksum m
  sum-all h = rw (done m i h) at inv

-- ---- crc_by
module _ (m : List ℕ) (i r : ℕ) (inv : crc_from r (drop i m) ≡ register m) where
  pub crc-more : (s : ℕ) → s ≡ crc_byte r (get_or m i 0) → i < length m → crc_from s (drop (i + 1) m) ≡ register m
  crc-more s e h = rw e (rw (next m i h) at inv)

  pub crc-all : T (are_bytes (take i m)) → length m ≤ i → r ≡ crc m
  crc-all t h = (rw (done m i h) at inv) ∙ register-crc m (rw (take_all i m h) at t)

-- ---- check_crc
-- the length of `&m[..n]`, where n is the length less k
pub part-long : (m : List ℕ) (k : ℕ) → length m - k ≡ length (take (length m - k) m)
part-long m k = sym (length-take-le (length m - k) m (omega arith))

one_left : (m : List ℕ) → 1 < length m → trailer_of 1 m ≡ get_or m (length m - 1) 0
one_left m h = rw (next m (length m - 1) (omega arith), done m (length m - 1 + 1) (omega arith)) (omega arith)

two_left : (m : List ℕ) → 2 < length m → trailer_of 2 m ≡ get_or m (length m - 2) 0 * 256 + get_or m (length m - 1) 0
two_left m h =
    let e : length m - 2 + 1 ≡ length m - 1 = omega arith in
    rw (next m (length m - 2) (omega arith), e, next m (length m - 1) (omega arith), done m (length m - 1 + 1) (omega arith)) (omega arith)

module _ (m : List ℕ) (speed : ℕ) where
  pub sum-short : speed ≤ 1 → length m ≤ 1 → false ≡ right m speed
  unfolding right
  sum-short h l = rw (le-leb speed 1 h, le-ltb 1 (length m) l)

  pub sum_is : (s : ℕ) → s ≡ checksum (body_of 1 m) → speed ≤ 1 → 1 < length m → eqb s (get_or m (length m - 1) 0) ≡ right m speed
  unfolding right
  sum_is s e h l = rw (le-leb speed 1 h, lt-ltb 1 (length m) l, one_left m l, e)

  pub crc-short : 1 < speed → length m ≤ 2 → false ≡ right m speed
  unfolding right
  crc-short h l = rw (lt-leb speed 1 h, le-ltb 2 (length m) l)

  pub crc_is : (s j : ℕ) → s ≡ crc (body_of 2 m) → j ≡ get_or m (length m - 2) 0 * 256 + get_or m (length m - 1) 0 → 1 < speed → 2 < length m
      → eqb s j ≡ right m speed
  unfolding right
  crc_is s j e f h l = rw (lt-leb speed 1 h, lt-ltb 2 (length m) l, two_left m l, e, f)

pub ruleset laws = (table_laws, sum_more, sum-all, crc-more, crc-all, bytes-more, part-long, sum-short, sum_is, crc-short, crc_is)
