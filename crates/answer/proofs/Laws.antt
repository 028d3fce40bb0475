-- Laws of a table before and after a call. Assumes nothing.
use mathlib.Core.Path.{◌≡◌, sym, ◌∙◌}
use mathlib.Core.Bool.{true, false}
use mathlib.Core.List.{List}
use Prim.Native.Nat.{ℕ, ◌+◌, ◌≤◌, ◌<◌}
use native.Mathlib.Numerals.{add-one}
use native.Mathlib.Omega.{arith}
use lib.ListN.{length, get_or, set, take, drop, replicate-append-replicate}
use lib.Seq.{take_all, take-suc-set}
use borrow.Author.Tests.{eq-eqb, ne_eqb}
use Rattle.laws.proofs.Lists.{next, done}
use Rattle.writer.proofs.Laws.{first_count}
use Rattle.answer.specs.Table.{fresh, is_fresh, Holds}

-- ---- a part of a table that nothing has been written to
module _ (pattern : ℕ) (t : List ℕ) (i : ℕ) (inv : is_fresh pattern t ≡ is_fresh pattern (drop i t)) where
  pub fresh-not : i < length t → (get_or t i 0 ≡ pattern → ⊥) → false ≡ is_fresh pattern t
  fresh-not h e = rw (inv, next t i h, ne_eqb _ _ e)

  pub fresh-more : i < length t → get_or t i 0 ≡ pattern → is_fresh pattern t ≡ is_fresh pattern (drop (i + 1) t)
  fresh-more h e = rw (inv, next t i h, eq-eqb _ _ e)

  pub fresh_done : length t ≤ i → true ≡ is_fresh pattern t
  fresh_done h = rw (inv, done t i h)

-- ---- filling a table
pub fill_more : (t : List ℕ) (i : ℕ) → take i t ≡ fresh i → i < length t → take (i + 1) (set t i 0xA5A5A5A5A5A5A5A5) ≡ fresh (i + 1)
fill_more t i inv h = rw (add-one, take-suc-set t i 0xA5A5A5A5A5A5A5A5 h, inv) (replicate-append-replicate i 1 0xA5A5A5A5A5A5A5A5 ∙ rw add-one)

pub fill_done : (t : List ℕ) (i n : ℕ) → take i t ≡ fresh i → length t ≡ n → i ≤ n → length t ≤ i → t ≡ fresh n
fill_done t i n inv e l u =
    let is : i ≡ n = omega arith in
    sym (take_all i t u) ∙ inv ∙ rw is

-- ---- a text in a buffer
pub holds_in : (refusal value : ℕ) (buffer : List ℕ) → Holds refusal value buffer → refusal ≡ 0 → value ≤ length buffer
holds_in refusal value buffer holds z = holds z

pub ruleset laws = (fill_more, fill_done, fresh-not, fresh-more, fresh_done, holds_in, first_count)
