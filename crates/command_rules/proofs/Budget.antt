-- C13: a group that goes on as long as something is left repeats at most once a byte; a higher limit gives the same. Assumes nothing.
use mathlib.Core.Path.{◌≡◌, refl, sym}
use mathlib.Core.Bool.{Bool, true, false, cond}
use Prim.Native.Nat.{ℕ, zero, suc, ◌+◌, ◌-◌, ◌≤◌, ◌<◌}
use native.Mathlib.Omega.{arith}
use mathlib.Core.List.{List, ◌∷◌}
use lib.ListN.{length}
use lib.Dec.{ltb}
use borrow.Author.Tests.{le-ltb, ltb-true}
use Rattle.command_class.specs.Definition.{Parameter}
use Rattle.command_rules.specs.Limits.{SmallAll}
use Rattle.command_rules.specs.Walk.{Walked, ended, after, once, turn, repetition_row, repetitions}
use Rattle.command_rules.proofs.Bounds.{Bound, turn_bound}

-- where no byte remains, no repetition takes anything
none_remains : (body : List ℕ) (line : ℕ) (qs : List Parameter) (most k at n : ℕ) → SmallAll qs → length body ≤ at
    → repetitions body line qs most k at n ≡ ended at
unfolding repetitions
none_remains body line qs zero k at n small h = refl
none_remains body line qs (suc most) k at n small h =
    let b = turn_bound body qs at n small in
    let b1 = b.inside in
    rw (le-ltb at (turn body qs at n).end (omega arith)) refl

pub enough : (body : List ℕ) (line : ℕ) (qs : List Parameter) (a b k at n : ℕ) → SmallAll qs → length body - at ≤ a → length body - at ≤ b
    → repetitions body line qs a k at n ≡ repetitions body line qs b k at n
unfolding repetitions
enough body line qs zero b k at n small h g = sym (none_remains body line qs b k at n small (omega arith))
enough body line qs (suc a) zero k at n small h g = none_remains body line qs (suc a) k at n small (omega arith)
enough body line qs (suc a) (suc b) k at n small h g =
    go (turn body qs at n) (turn_bound body qs at n small) (λ m l u v. enough body line qs a b (k + 1) m.end (n + 1 + length m.rows) small u v)
  where
    go : (m : Walked) → Bound 33 (length body) at m
        → ((m : Walked) → at < m.end → length body - m.end ≤ a → length body - m.end ≤ b
        → repetitions body line qs a (k + 1) m.end (n + 1 + length m.rows) ≡ repetitions body line qs b (k + 1) m.end (n + 1 + length m.rows))
        → cond (ltb at m.end) (after (repetition_row line at m.end k ∷ m.rows)
        (once (repetitions body line qs a (k + 1) m.end (n + 1 + length m.rows)))) (ended at)
        ≡ cond (ltb at m.end) (after (repetition_row line at m.end k ∷ m.rows)
        (once (repetitions body line qs b (k + 1) m.end (n + 1 + length m.rows)))) (ended at)
    go m bd ih = by (ltb at m.end) refl
      where
        by : (t : Bool) → ltb at m.end ≡ t
            → cond t (after (repetition_row line at m.end k ∷ m.rows) (once (repetitions body line qs a (k + 1) m.end (n + 1 + length m.rows))))
            (ended at)
            ≡ cond t (after (repetition_row line at m.end k ∷ m.rows) (once (repetitions body line qs b (k + 1) m.end (n + 1 + length m.rows))))
            (ended at)
        by true e =
            let l = ltb-true at m.end e in
            let i = bd.inside in
            rw (ih m l (omega arith) (omega arith)) refl
        by false e = refl
