-- Laws of the request on a listing. Assumes nothing.
use mathlib.Core.Path.{◌≡◌, ap, ◌∙◌}
use mathlib.Core.List.{List, ◌++◌}
use Prim.Native.Nat.{ℕ, ◌-◌, ◌≤◌}
use native.Mathlib.Omega.{arith}
use lib.ListN.{length, take, drop, length-append, length-drop}
use lib.Seq.{length-take-le}
use Rattle.laws.proofs.Lists.{tail}
use Rattle.text.proofs.Laws.{front_count}
use Rattle.request.specs.Request.{Decoded, Decodes, DecodesBoth}
use Rattle.request.proofs.Laws.{decoded-inside, both-inside, two_laws, request_laws}
use Rattle.std.specs.Prelude.{Option, Some}

-- what stands behind the first n of a list: of its first e the first m are lent, and those from m on
module _ (s : List ℕ) (n m e : ℕ) (inside : n ≤ length s) (ordered : m ≤ e) (within : e ≤ length s - n) where
  behind : length (take (length s - n) (drop n s)) ≡ length s - n
  behind = ap length (tail s n) ∙ length-drop n s

  pub behind-first : m ≡ length (take m (take (length s - n) (drop n s)))
  behind-first = front_count (take (length s - n) (drop n s)) m (omega (arith, behind))

  pub behind-start : m ≤ length (take (length s - n) (drop n s))
  behind-start = omega (arith, behind)

  pub behind_end : e ≤ length (take (length s - n) (drop n s))
  behind_end = omega (arith, behind)

-- the bytes of two words go into the rest of the buffer, behind n bytes of a first; the rest is ys then
module _ (d : Decoded) (held : List ℕ) (r : Option ℕ) (n : ℕ) (told : Decodes d held r) (are : r ≡ Some n) (ys : List ℕ)
    (kept : length ys ≡ length (take (length held - n) (drop n held))) where
  within : n ≤ length held
  within = decoded-inside d held r n told are

  same : length ys ≡ length held - n
  same = kept ∙ ap length (tail held n) ∙ length-drop n held

  abbrev after : List ℕ
  after = take n held ++ (ys ++ drop (length held - n) (drop n held))

  whole : length held ≤ length after
  whole =
      omega (
        arith,
        length-append (take n held) (ys ++ drop (length held - n) (drop n held)),
        length-append ys (drop (length held - n) (drop n held)),
        length-take-le n held within,
        same,
      )

  pub rest_starts : n ≤ length after
  rest_starts = omega (arith, whole, within)

  pub rest-ends : (a b : Decoded) (q : Option (ℕ × ℕ)) (m e : ℕ) → DecodesBoth a b ys q → q ≡ Some (m, e) → e ≤ length after - n
  rest-ends a b q m e next is = omega (arith, whole, within, same, both-inside a b ys q m e next is)

pub ruleset laws = (request_laws, two_laws, behind-first, behind-start, behind_end, rest_starts, rest-ends)
