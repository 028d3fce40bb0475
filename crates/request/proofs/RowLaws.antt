-- Laws of the words of a request for a row. Assumes nothing.
use mathlib.Core.Path.{◌≡◌, refl, sym}
use mathlib.Core.Bool.{Bool, true, false, cond, and-false}
use mathlib.Core.List.{List, [], ◌∷◌}
use Prim.Native.Nat.{ℕ, ◌-◌, ◌≤◌, ◌<◌}
use native.Mathlib.Omega.{arith}
use lib.Dec.{eqb}
use lib.ListN.{length, take, drop}
use borrow.Author.Tests.{le-leb, lt-leb, eqb-true, eqb-false}
use Rattle.laws.proofs.Lists.{tail}
use Rattle.request.specs.declared.row.HeaderRow.{HeaderRow}
use Rattle.request.specs.declared.row.CommandRow.{CommandRow}
use Rattle.request.specs.Request.{leading_of, two_of, first_of, second_of, fitting_both, DecodesBoth}
use Rattle.request.specs.Row.{Asked, asked, header_end, header_of, command_of, Reads, readable, AsksHeader, AsksCommand}
use Rattle.request.proofs.Laws.{two_laws, request_laws}
use Rattle.std.specs.Prelude.{Option, Some, None}

-- a list from n on, as a part of a slice has it
abbrev rest : List ℕ → ℕ → List ℕ
rest s n = take (length s - n) (drop n s)

-- ---- the bytes of the two words behind the numbers
module _ (most : ℕ) (a : Asked) (held : List ℕ) (cap : ℕ) (numbers others : List ℕ) (from : ℕ) (says : a ≡ asked cap numbers (drop from others))
    (few : cap ≤ most) (b : Option (ℕ × ℕ)) (told : DecodesBoth (first_of (rest others from)) (second_of (rest others from)) held b) where
  behind : DecodesBoth (first_of (drop from others)) (second_of (drop from others)) held b
  behind = rw (tail others from) at told

  unfit : b ≡ None → readable most (length held) a ≡ false
  unfit is =
      let none : fitting_both (length held) (first_of (drop from others)) (second_of (drop from others)) ≡ false = rw is at behind in
      rw (says, none, and-false)

  reads : (n e : ℕ) → b ≡ Some (n, e) → Reads most a held cap numbers n e
  reads n e is = record { words = drop from others; says = says; few = few; bytes = rw is at behind }

-- ---- `CAP ROW REGION SPEED TEXT MPDU`
module _ (most : ℕ) (s held : List ℕ) (r : Option (ℕ × ℕ × ℕ)) (first : r ≡ two_of s) where
  pub header-none : r ≡ None → AsksHeader most s held None
  header-none e = rw (← first, e)

  module _ (cap row at : ℕ) (is : r ≡ Some (cap, row, at)) where
    pub header-over : most < cap → AsksHeader most s held None
    header-over o = rw (← first, is) (go (two_of (drop at s)))
      where
        go : (q : Option (ℕ × ℕ × ℕ)) → readable most (length held) (header_end cap row (drop at s) q) ≡ false
        go (Some (region, speed, from)) = rw (lt-leb cap most o)
        go None = refl

    module _ (few : cap ≤ most) (q : Option (ℕ × ℕ × ℕ)) (next : q ≡ two_of (rest s at)) where
      second : q ≡ two_of (drop at s)
      second = rw (tail s at) at next

      pub header-half : q ≡ None → AsksHeader most s held None
      header-half e = rw (← first, is, ← second, e)

      module _ (region speed from : ℕ) (also : q ≡ Some (region, speed, from)) (b : Option (ℕ × ℕ))
          (told : DecodesBoth (first_of (rest (rest s at) from)) (second_of (rest (rest s at) from)) held b) where
        says : header_of s ≡ asked cap (row ∷ region ∷ speed ∷ []) (drop from (rest s at))
        says = rw (tail s at, ← first, is, ← second, also)

        pub header_unfit : b ≡ None → AsksHeader most s held None
        header_unfit e = unfit most (header_of s) held cap (row ∷ region ∷ speed ∷ []) (rest s at) from says few b told e

        pub header_is : (n e : ℕ) → b ≡ Some (n, e) → Reads most (header_of s) held cap (row ∷ region ∷ speed ∷ []) n e
        header_is n e are = reads most (header_of s) held cap (row ∷ region ∷ speed ∷ []) (rest s at) from says few b told n e are

-- ---- `MODE CAP ROW TEXT PAYLOAD`
-- a number of at most 1, by whether it is 1
bit_is : (mode : ℕ) → mode ≤ 1 → (b : Bool) → b ≡ eqb mode 1 → mode ≡ cond b 1 0
bit_is mode few true e = eqb-true mode 1 (sym e)
bit_is mode few false e = below (eqb-false mode 1 (sym e))
  where
    below : (mode ≡ 1 → ⊥) → mode ≡ 0
    below n = omega arith

module _ (most : ℕ) (s held : List ℕ) (r : Option (ℕ × ℕ)) (first : r ≡ leading_of s) where
  pub command_none : r ≡ None → AsksCommand most s held None
  command_none e = rw (← first, e)

  module _ (mode at : ℕ) (is : r ≡ Some (mode, at)) where
    pub command_mode : 1 < mode → AsksCommand most s held None
    command_mode o = rw (← first, is, lt-leb mode 1 o)

    module _ (small : mode ≤ 1) (q : Option (ℕ × ℕ × ℕ)) (next : q ≡ two_of (rest s at)) where
      numbers : q ≡ two_of (drop at s)
      numbers = rw (tail s at) at next

      pub command_half : q ≡ None → AsksCommand most s held None
      command_half e = rw (← first, is, le-leb mode 1 small, ← numbers, e)

      module _ (cap row from : ℕ) (also : q ≡ Some (cap, row, from)) where
        asks : command_of s ≡ asked cap (row ∷ mode ∷ []) (drop from (rest s at))
        asks = rw (tail s at, ← first, is, le-leb mode 1 small, ← numbers, also)

        pub command_over : most < cap → AsksCommand most s held None
        command_over o = rw (asks, lt-leb cap most o)

        module _ (few : cap ≤ most) (b : Option (ℕ × ℕ))
            (told : DecodesBoth (first_of (rest (rest s at) from)) (second_of (rest (rest s at) from)) held b) where
          pub command_unfit : b ≡ None → AsksCommand most s held None
          command_unfit e = unfit most (command_of s) held cap (row ∷ mode ∷ []) (rest s at) from asks few b told e

          pub command_is : (n e : ℕ) → b ≡ Some (n, e) → (by : Bool) → by ≡ eqb mode 1
              → Reads most (command_of s) held cap (row ∷ cond by 1 0 ∷ []) n e
          command_is n e are by t =
              rw (← bit_is mode small by t) (reads most (command_of s) held cap (row ∷ mode ∷ []) (rest s at) from asks few b told n e are)

-- ---- the room that is asked for, and the bytes in the buffer
module _ (most : ℕ) (s held : List ℕ) (r : Option HeaderRow) (q : HeaderRow) (told : AsksHeader most s held r) (is : r ≡ Some q) where
  header_reads : Reads most (header_of s) held q.cap (q.row ∷ q.region ∷ q.speed ∷ []) q.n q.end
  header_reads = rw is at told

  pub header_few : q.cap ≤ most
  header_few = header_reads.few

  pub header-ordered : q.n ≤ q.end
  header-ordered = header_reads.bytes.ordered

  pub header-inside : q.end ≤ length held
  header-inside = header_reads.bytes.inside

module _ (most : ℕ) (s held : List ℕ) (r : Option CommandRow) (q : CommandRow) (told : AsksCommand most s held r) (is : r ≡ Some q) where
  command_reads : Reads most (command_of s) held q.cap (q.row ∷ cond q.by_position 1 0 ∷ []) q.n q.end
  command_reads = rw is at told

  pub command_few : q.cap ≤ most
  command_few = command_reads.few

  pub command_ordered : q.n ≤ q.end
  command_ordered = command_reads.bytes.ordered

  pub command_inside : q.end ≤ length held
  command_inside = command_reads.bytes.inside

-- The laws of what a request for a row answers.
pub ruleset row_laws = (header_few, header-ordered, header-inside, command_few, command_ordered, command_inside)

-- The laws that the proofs of this crate's readers of rows go by.
pub ruleset laws = (
  request_laws,
  two_laws,
  header-none,
  header-over,
  header-half,
  header_unfit,
  header_is,
  command_none,
  command_mode,
  command_half,
  command_over,
  command_unfit,
  command_is,
)
