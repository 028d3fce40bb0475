-- An accepted command text keeps every limit. Assumes nothing.
use mathlib.Core.Path.{◌≡◌}
use mathlib.Core.Bool.{Bool, true, false, cond, not, ◌&&◌}
use mathlib.Core.List.{List, [], ◌∷◌}
use Prim.Native.Nat.{ℕ, suc, ◌+◌, ◌≤◌}
use native.Mathlib.Omega.{arith}
use lib.Dec.{leb, ltb}
use lib.ListN.{length}
use borrow.Author.Tests.{leb-false}
use Rattle.text.specs.Text.{lines}
use Rattle.text.specs.Records.{records}
use Rattle.text.specs.Honest.{Keeps}
use Rattle.text.proofs.Tests.{held, or_left}
use Rattle.text.proofs.Honest.{accepted_keeps}
use Rattle.command_text.specs.Form.{Record, form}
use Rattle.command_text.specs.Rules.{begins, count, items, owned, grouped, shift, member, rules, verdict}
use Rattle.command_class.specs.Limits.{FewUnderEach, WithinLimits}
use Rattle.std.specs.Prelude.{Ok}

few_lines : (before rs : List Record) → Keeps rules before rs → count before ≤ 256 → count rs + count before ≤ 256
few_lines before [] keeps h = omega arith
few_lines before (r ∷ rs) keeps h = go (begins r) keeps.0 (few_lines (r ∷ before) rs keeps.2)
  where
    go : (b : Bool) → cond b (leb 256 (count before)) (owned before && leb 32 (items before)) ≡ false
        → (cond b (suc (count before)) (count before) ≤ 256 → count rs + cond b (suc (count before)) (count before) ≤ 256)
        → cond b (suc (count rs)) (count rs) + count before ≤ 256
    go true e ih = omega (arith, ih (leb-false 256 (count before) e))
    go false e ih = ih h

few_items : (before rs : List Record) → Keeps rules before rs → items before ≤ 32 → items rs + items before ≤ 32
few_items before [] keeps h = omega arith
few_items before (r ∷ rs) keeps h = go (begins r) keeps.0
    (or_left (cond (begins r) (member r && not (grouped before)) (not (owned before))) (ltb 7 (shift r)) keeps.1)
    (few_items (r ∷ before) rs keeps.2)
  where
    go : (b : Bool) → cond b (leb 256 (count before)) (owned before && leb 32 (items before)) ≡ false
        → cond b (member r && not (grouped before)) (not (owned before)) ≡ false
        → (cond b 0 (suc (items before)) ≤ 32 → items rs + cond b 0 (suc (items before)) ≤ 32) → cond b 0 (suc (items rs)) + items before ≤ 32
    go true e l ih = omega arith
    go false e l ih = omega (arith, ih (leb-false 32 (items before) (held (owned before) (leb 32 (items before)) e l)))

each : (before rs : List Record) → Keeps rules before rs → FewUnderEach rs
each before [] keeps = tt
each before (r ∷ rs) keeps = (here, each (r ∷ before) rs keeps.2)
  where
    here : begins r ≡ true → items rs ≤ 32
    here b = let e : items (r ∷ before) ≡ 0 = rw b in omega (arith, few_items (r ∷ before) rs keeps.2 (omega arith))

-- an accepted text has at most 60,000 bytes and keeps every limit
pub accepted-within : (t : List ℕ) → verdict t ≡ Ok tt → (length t ≤ 60000) × WithinLimits (records form (lines t))
accepted-within t e =
    let k : (length t ≤ 60000) × Keeps rules [] (records form (lines t)) = accepted_keeps rules t e in
    (k.0, record { lines = omega (arith, few_lines [] (records form (lines t)) k.1 (omega arith)); under = each [] (records form (lines t)) k.1 })
