-- F1 to F6 (docs/RULES.md): the records of a payload and their bodies. A body is its start in the payload and its length.
use Rattle.std.specs.Prelude.{◌≡◌, Bool, cond, ◌&&◌, List, [], ◌∷◌, ℕ, zero, suc, ◌+◌, ◌-◌, eqb, leb, ltb, length, get_or, take, drop, Option, Some, None, Result, Ok, Err}
use Rattle.std.specs.Borrow.{Bor}
use Rattle.refusal.specs.declared.Refusal.TheVariants.{TooLong}
use Rattle.refusal.specs.Refusal.{most_payload, number_of, carried_by}
use Rattle.refusal.specs.declared.Refusal.{Refusal}

-- F1: does a record stand at this place
abbrev pub stands : List ℕ → ℕ → Bool
stands s at =
    ltb 4 (length s)
    && (ltb at (length s)
    && (ltb (at + get_or s at 0) (length s)
    && (eqb (get_or s (at - 1) 0) 0x5B && eqb (get_or s (at + get_or s at 0) 0) 0x5D)))

-- F1: the record at this place, if one stands there
abbrev pub record_at : List ℕ → ℕ → Option ℕ
record_at s at = cond (stands s at) (Some (get_or s at 0)) None

-- F2: the body of a record at a place, if it has one, in front of others
abbrev pub body_of : ℕ → ℕ → List (ℕ × ℕ) → List (ℕ × ℕ)
body_of at n others = cond (leb 2 n) ((at + 2, n - 2) ∷ others) others

-- F3: the bodies from a place on, of at most so many records
abbrev pub up_to : ℕ → List ℕ → ℕ → List (ℕ × ℕ)
up_to zero s at = []
up_to (suc m) s at = cond (stands s at) (body_of at (get_or s at 0) (up_to m s (at + get_or s at 0 + 2))) []

-- no payload has more records than bytes
unfoldable pub bodies_from : List ℕ → ℕ → List (ℕ × ℕ)
bodies_from s at = up_to (length s) s at

-- F3, F4: the bodies of a payload, in order; the first place is 1
abbrev pub bodies : List ℕ → List (ℕ × ℕ)
bodies s = bodies_from s 1

-- F5: what `count_records` answers
abbrev pub counted_of : List ℕ → Result ℕ Refusal
counted_of s = cond (leb (length s) most_payload) (Ok (length (bodies s))) (Err (TooLong (length s)))

-- F5: an answer in numbers: 0 and the count, or the number of the refusal and what it carries
abbrev pub said : Result ℕ Refusal → ℕ × ℕ
said (Ok n) = (0, n)
said (Err x) = (number_of x, carried_by x)

-- F5: those numbers for a payload
abbrev pub said_of : List ℕ → ℕ × ℕ
said_of s = cond (leb (length s) most_payload) (0, length (bodies s)) (4, length s)

-- F5: the answer of `count_records`, as a case and in numbers
pub record Counts (s : List ℕ) (r : Result ℕ Refusal) : Type 0 where
  pub answer : r ≡ counted_of s
  pub numbers : said r ≡ said_of s

-- F6: where body k lies; nothing, at 0, where there is none
abbrev pub span_of : List ℕ → ℕ → ℕ × ℕ
span_of s k = cond (leb (length s) most_payload) (get_or (bodies s) k (0, 0)) (0, 0)

-- the bytes of a body
abbrev pub bytes_of : List ℕ → ℕ × ℕ → List ℕ
bytes_of s b = take b.1 (drop b.0 s)

-- F6: the slice r is that part of the slice s: it lies in the same memory, that much further on, and has those bytes
pub record PartOf (s r : Bor (List ℕ)) (b : ℕ × ℕ) : Type 0 where
  pub block : r.ref_ptr.0 ≡ s.ref_ptr.0
  pub place : r.ref_ptr.1 ≡ s.ref_ptr.1 + b.0
  pub bytes : r.now ≡ bytes_of s.now b
