-- The laws of the table for people. Assumes nothing.
use Rattle.std.proofs.Common.{◌≡◌, ℕ, ◌*◌, ◌/◌, ◌<◌, ◌≤◌, Bool, true, false, List, length, get_or, take, drop, refl, ◌∙◌, arith, le-ltb, lt-ltb, eq-eqb, ne_eqb, le-leb}
use borrow.Author.Tests.{lt-leb}
use Rattle.text.specs.Text.{fields, field}
use Rattle.text.proofs.Laws.{done}
use Rattle.readers.specs.Lines.{lines_in, line_at, of_kind, Follows}
use Rattle.readers.specs.Numeral.{says}
use Rattle.readers.proofs.lines.Laws.{line_first, begins_by}
use Rattle.totals_word.specs.Words.{share_of, name_in}

-- ---- a share
module _ (n all : ℕ) where
  pub share_none : all ≡ 0 → 0 ≡ share_of n all
  share_none e = rw e

  module _ (some : all ≡ 0 → ⊥) where
    pub share_exact : n ≤ 18446744073709551 → n * 1000 / all ≡ share_of n all
    share_exact h = rw (ne_eqb all 0 some, le-leb n 18446744073709551 h)

    pub share_small : 18446744073709551 < n → all < 1000 → 0 ≡ share_of n all
    share_small h l = rw (ne_eqb all 0 some, lt-leb n 18446744073709551 h, lt-ltb all 1000 l)

    pub share_great : 18446744073709551 < n → 1000 ≤ all → n / (all / 1000) ≡ share_of n all
    share_great h l = rw (ne_eqb all 0 some, lt-leb n 18446744073709551 h, le-ltb all 1000 l)

pub ruleset share_laws = (share_none, share_exact, share_small, share_great)

-- ---- the name of a key: the H lines from `at` on
pub record Named (t : List ℕ) (key at : ℕ) : Type 0 where
  pub inside : at ≤ length t
  pub finds : name_in key (of_kind 0x48 (lines_in t)) ≡ name_in key (of_kind 0x48 (lines_in (drop at t)))

pub named_start : (t : List ℕ) (key : ℕ) → Named t key 0
named_start t key = record { inside = omega arith; finds = refl }

pub named_none : (t : List ℕ) (key at : ℕ) → Named t key at → length t ≤ at → take 0 t ≡ name_in key (of_kind 0x48 (lines_in t))
named_none t key at so_far h = rw (so_far.finds, done t at h)

module _ (t : List ℕ) (key at : ℕ) (so_far : Named t key at) (h : at < length t) where
  pub named_pass : (r : ℕ) → r ≤ length t → Follows t at r → (get_or t at 0 ≡ 0x48 → ⊥) → Named t key r
  named_pass r i f other = record { inside = i; finds = so_far.finds ∙ rw (f.says, begins_by 0x48 t at h, ne_eqb _ _ other) }

  module _ (is : get_or t at 0 ≡ 0x48) (l g : List ℕ) (at-l : l ≡ line_at t at) (at_g : g ≡ field 1 (fields l)) (b : Bool) (said : b ≡ says key g) where
    keyed : b ≡ says key (field 1 (fields (line_at t at)))
    keyed = rw (← at-l, ← at_g) said

    pub named-found : (m n : List ℕ) → m ≡ line_at t at → n ≡ field 4 (fields m) → b ≡ true → n ≡ name_in key (of_kind 0x48 (lines_in t))
    named-found m n at-m at_n q = rw (so_far.finds, line_first t at h, begins_by 0x48 t at h, eq-eqb _ _ is, ← keyed, q, ← at-m) at_n

    pub named_more : (r : ℕ) → r ≤ length t → Follows t at r → b ≡ false → Named t key r
    named_more r i f q = record {
      inside = i;
      finds = so_far.finds ∙ rw (f.says, begins_by 0x48 t at h, eq-eqb _ _ is, ← keyed, q);
    }

pub ruleset named_laws = (named_start, named_none, named_pass, named-found, named_more)
