-- BM1 (docs/RULES.md): the nodes that a bit mask addresses, bit by bit; and what listing them answers.
use Rattle.std.specs.Prelude.{◌≡◌, Bool, false, cond, ◌||◌, List, [], ◌∷◌, ◌++◌, ℕ, zero, suc, ◌+◌, ◌*◌, ◌/◌, ◌%◌, ◌^◌, ◌≤◌, ◌<◌, eqb, ltb, length, get_or, drop, Result, Ok, Err}
use Rattle.refusal.specs.declared.Refusal.TheVariants.{TooLong, MoreRows}
use Rattle.refusal.specs.declared.Refusal.{Refusal}

-- the bit i of the bytes m, 0 or 1: the bit 0 is the lowest of the first byte, and past the end each is 0
abbrev pub bit_at : List ℕ → ℕ → ℕ
bit_at m i = get_or m (i / 8) 0 / 2 ^ (i % 8) % 2

-- the node n goes in front where its bit is set
abbrev pub put : ℕ → ℕ → List ℕ → List ℕ
put zero n l = l
put (suc b) n l = n ∷ l

-- the nodes of the k bits from the bit i on: one more than the place of each that is set
unfoldable pub nodes_from : List ℕ → ℕ → ℕ → List ℕ
nodes_from m i zero = []
nodes_from m i (suc k) = put (bit_at m i) (i + 1) (nodes_from m (i + 1) k)

-- BM1: the nodes that the mask addresses
unfoldable pub nodes_of : List ℕ → List ℕ
nodes_of m = nodes_from m 0 (8 * length m)

-- ---- what settles the list

-- each is above the one before, the first above b
abbrev pub Above : ℕ → List ℕ → Type 0
Above b [] = Unit {0}
Above b (x ∷ xs) = (b < x) × Above x xs

abbrev pub has : ℕ → List ℕ → Bool
has k [] = false
has k (x ∷ xs) = eqb k x || has k xs

-- whether the mask addresses the node k
abbrev pub addressed : List ℕ → ℕ → Bool
addressed m zero = false
addressed m (suc i) = eqb (bit_at m i) 1

-- BM1: a list strictly rising, that has a node exactly when its bit is set
pub record Addresses (m l : List ℕ) : Type 0 where
  pub rising : Above 0 l
  pub exactly : (k : ℕ) → has k l ≡ addressed m k

-- ---- the answer

-- R4, R8: a mask that is too long for 16 bits, a table of `room` nodes that is too short; else how many nodes there are
abbrev pub listed : List ℕ → ℕ → Result ℕ Refusal
listed m room =
    cond (ltb 8191 (length m)) (Err (TooLong (length m)))
    (cond (ltb room (length (nodes_of m))) (Err (MoreRows (length (nodes_of m)))) (Ok (length (nodes_of m))))

-- R12: the nodes stand first in the table, and what is past them is as it was; a refusal leaves all of it as it was
abbrev pub nodes_after : List ℕ → List ℕ → Result ℕ Refusal → List ℕ
nodes_after m table (Ok n) = nodes_of m ++ drop n table
nodes_after m table (Err x) = table

pub record Lists (m table : List ℕ) (r : Result ℕ Refusal) (table' : List ℕ) : Type 0 where
  pub answer : r ≡ listed m (length table)
  pub leaves : table' ≡ nodes_after m table r
  pub lists : Addresses m (nodes_of m)
  pub most : length (nodes_of m) ≤ 8 * length m
