-- Over speed 1 an MPDU is right exactly if something stands before its last two bytes, and they are the CRC of that by the division itself.
-- Assumes nothing.
use mathlib.Core.Path.{◌≡◌, sym}
use mathlib.Core.Bool.{true}
use mathlib.Core.List.{List}
use Prim.Native.Nat.{ℕ, ◌<◌}
use lib.Dec.{ltb, eqb}
use lib.ListN.{length}
use borrow.Author.Tests.{lt-leb, lt-ltb, ltb-true, eqb-true, eq-eqb}
use Rattle.laws.proofs.Bools.{and_left, and_right}
use Rattle.crc.specs.Crc.{IsCrc, crc, body_of, trailer_of, right}
use Rattle.crc.proofs.Division.{crc_is, crc-only}

module _ (m : List ℕ) (speed : ℕ) (over : 1 < speed) where
  pub right-says : right m speed ≡ true → (2 < length m) × IsCrc (body_of 2 m) (trailer_of 2 m)
  unfolding right
  right-says e =
      let t = rw (lt-leb speed 1 over) at e in
      let some = and_left (ltb 2 (length m)) (eqb (crc (body_of 2 m)) (trailer_of 2 m)) t in
      let same = and_right (ltb 2 (length m)) (eqb (crc (body_of 2 m)) (trailer_of 2 m)) t in
      (ltb-true 2 (length m) some, rw (← eqb-true (crc (body_of 2 m)) (trailer_of 2 m) same) (crc_is (body_of 2 m)))

  pub says-right : 2 < length m → IsCrc (body_of 2 m) (trailer_of 2 m) → right m speed ≡ true
  unfolding right
  says-right some is =
      rw (lt-leb speed 1 over, lt-ltb 2 (length m) some) (eq-eqb (crc (body_of 2 m)) (trailer_of 2 m) (sym (crc-only (body_of 2 m) (trailer_of 2 m) is)))
