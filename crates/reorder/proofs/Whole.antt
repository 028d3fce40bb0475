-- The sections of an accepted text are all its lines. Assumes nothing.
use mathlib.Core.Path.{◌≡◌, refl, sym, ap, ◌∙◌}
use mathlib.Core.Bool.{Bool, true, false, cond, true≢false}
use mathlib.Core.List.{List, [], ◌∷◌, ◌++◌}
use Prim.Native.Nat.{ℕ, suc}
use native.Mathlib.Omega.{arith}
use Rattle.text.specs.Text.{lines, fields}
use Rattle.text.specs.Judge.{judge}
use Rattle.text.proofs.Judging.{judge_line}
use Rattle.text.proofs.Reading.{Allowed, accepted_line, accepted-lines}
use Rattle.frame_text.specs.Form.{Record, frequency, base, header, param, validation, set, entry, form}
use Rattle.frame_text.specs.Rules.{owns, lost, rules, verdict}
use Rattle.reorder.specs.Blocks.{Section, owns_more, more, until_next, sections, lines_of, ended, Line, Has, says_of, sections_of}
use Rattle.std.specs.Prelude.{Option, Ok}

module _ {L : Type 0} (says : L → Option Record) where
  -- the lines before the first owner, and the lines of the sections, are all lines
  pub lines-again : (ls : List L) (h n : ℕ) → until_next says ls ++ lines_of says (sections says h n ls) ≡ ls
  lines-again [] h n = refl
  lines-again (l ∷ ls) h n = go (owns_more (says l)) (lines-again ls (more 0x48 (says l) h) (more 0x50 (says l) n))
    where
      rest : List (Section L)
      rest = sections says (more 0x48 (says l) h) (more 0x50 (says l) n) ls

      go : (b : Bool) → until_next says ls ++ lines_of says rest ≡ ls
          → cond b [] (l ∷ until_next says ls) ++ lines_of says
          (cond b (record { headers = h; params = n; owner = l; under = until_next says ls } ∷ rest) rest) ≡ l ∷ ls
      go true ih = ap (λ (z : List L). l ∷ z) ih
      go false ih = ap (λ (z : List L). l ∷ z) ih

-- the first line owns what follows
first-owns : (r : Record) → lost [] r ≡ false → owns r ≡ true
first-owns (frequency code key) e = refl
first-owns (base key) e = refl
first-owns (header h) e = refl
first-owns (param p) e = absurd (true≢false e)
first-owns (validation path value) e = absurd (true≢false e)
first-owns (set name) e = refl
first-owns (entry key text) e = absurd (true≢false e)

pub none_first : (ls : List Line) (n : ℕ) → judge rules [] n ls ≡ Ok tt → until_next says_of (ended ls) ≡ []
unfolding says_of
none_first [] n e = refl
none_first (l ∷ []) n e = refl
none_first (l ∷ m ∷ ms) n e =
    let a : Allowed rules [] (form (fields l)) (λ r. judge rules (r ∷ []) (suc n) (m ∷ ms)) =
    accepted_line rules [] n (form (fields l)) (λ r. judge rules (r ∷ []) (suc n) (m ∷ ms))
    (sym (judge_line rules [] n l (m ∷ ms) (λ q. let z : ◌≡◌ {A = ℕ} 0 1 = cc in omega arith)) ∙ e) in
    ap (λ (b : Bool). cond b [] (l ∷ until_next says_of (ended (m ∷ ms))))
    (ap (λ (x : Option Record). owns_more x) a.is ∙ first-owns a.said a.owned)

pub whole : (t : List ℕ) → verdict t ≡ Ok tt → ended (lines t) ≡ lines_of says_of (sections_of t)
whole t v =
    sym (lines-again says_of (ended (lines t)) 0 0)
    ∙ ap (λ (z : List Line). z ++ lines_of says_of (sections_of t)) (none_first (lines t) 1 (accepted-lines rules t v))

-- the ended lines of a text are those that it has
ended-all : (ls : List Line) → ended (ls ++ ([] ∷ [])) ≡ ls
ended-all [] = refl
ended-all (l ∷ []) = refl
ended-all (l ∷ m ∷ ms) = ap (λ (z : List Line). l ∷ z) (ended-all (m ∷ ms))

pub has_ended : (t : List ℕ) (ls : List Line) → Has t ls → ended (lines t) ≡ ls
has_ended t ls e = ap (λ (z : List Line). ended z) e ∙ ended-all ls
