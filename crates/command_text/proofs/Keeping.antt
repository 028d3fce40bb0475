-- What the code keeps of the lines before tells all that the rules of the command text ask of them. Assumes nothing.
use mathlib.Core.Path.{◌≡◌, refl, sym, ap}
use mathlib.Core.Bool.{Bool, true, false, cond}
use mathlib.Core.List.{List, []}
use Prim.Native.Nat.{ℕ, suc, ◌+◌, ◌-◌, ◌≤◌, ◌<◌}
use native.Mathlib.Omega.{arith}
use lib.Dec.{eqb, leb, ltb}
use lib.ListN.{length}
use borrow.Author.Tests.{ne_eqb}
use Rattle.refusal.specs.declared.Refusal.TheVariants as refusal
use Rattle.text.specs.Judge.{Checks}
use Rattle.text.specs.Place.{cells, Steps}
use Rattle.text.specs.declared.Place.{Place}
use Rattle.text.specs.declared.Line.{Line}
use Rattle.text.proofs.Tests.{alike}
use Rattle.text.proofs.Judging.{Brief, Meets, Checked, checked_long, checked_start, checked_end, checked_on}
use Rattle.text.proofs.Judging.{checked_refused}
use Rattle.text.proofs.Honest.{checks}
use Rattle.command_kept.specs.Kept.{nothing, judged}
use Rattle.command_kept.specs.declared.Form.{Form}
use Rattle.command_kept.specs.declared.Kept.{Kept}
use Rattle.text.specs.declared.Misfit.{Misfit}
use Rattle.text.specs.declared.Misfit.TheVariants.{Passed, Lost, Wrong}
use Rattle.text.specs.Misfit.{refused_at}
use Rattle.command_text.specs.Form.{Param, Group, Detail, Record, param, group, item, form}
use Rattle.command_text.specs.Rules.{count, items, owned, grouped, shift_in, rules}
use Rattle.command_text.specs.Shape.{shape}
use Rattle.std.specs.Prelude.{Option, Some, None, Result, Ok, Err}

-- ---- what is kept
pub record Tells (before : List Record) (k : Kept) : Type 0 where
  pub counted : k.count ≡ count before
  pub owns : k.owned ≡ owned before
  pub groups : k.grouped ≡ grouped before
  pub holds : k.items ≡ items before

pub tells-nothing : (k : Kept) → k ≡ nothing → Tells [] k
tells-nothing k e = rw e (record { counted = refl; owns = refl; groups = refl; holds = refl })

module _ (before : List Record) (k : Kept) (tells : Tells before k) where
  meets-item : (d : Detail) → Meets rules Tells before (Some (item d)) ((judged k (shape (Some (item d)))))
  meets-item d = go k.owned (leb 32 k.items) (ltb 7 (shift_in d)) refl (sym tells.owns) (rw tells.holds) refl
    where
      go : (a b c : Bool) → k.owned ≡ a → owned before ≡ a → leb 32 (items before) ≡ b → ltb 7 (shift_in d) ≡ c
          → Meets rules Tells before (Some (item d)) ((cond a (cond b (Err Passed) (cond c (Err Lost)
          (Ok (record { count = k.count; owned = k.owned; grouped = k.grouped; items = k.items + 1 })))) (Err Lost)))
      go false b c o p q s = (item d, refl, rw p, rw p)
      go true true c o p q s = (item d, refl, rw (p, q))
      go true false true o p q s = (item d, refl, rw (p, q), rw (p, s))
      go true false false o p q s = (
        item d,
        refl,
        rw (p, q),
        rw (p, s),
        record { counted = tells.counted; owns = tells.owns; groups = tells.groups; holds = omega (arith, tells.holds) },
      )

  meets_group : (g : Group) → Meets rules Tells before (Some (group g)) ((judged k (shape (Some (group g)))))
  meets_group g = go (leb 256 k.count) (ltb 7 g.shift) (rw tells.counted) refl
    where
      go : (a b : Bool) → leb 256 (count before) ≡ a → ltb 7 g.shift ≡ b
          → Meets rules Tells before (Some (group g)) ((cond a (Err Passed) (cond b (Err Lost)
          (Ok (record { count = k.count + 1; owned = false; grouped = true; items = 0 })))))
      go true b p q = (group g, refl, p)
      go false true p q = (group g, refl, p, q)
      go false false p q = (group g, refl, p, q, record { counted = omega (arith, tells.counted); owns = refl; groups = refl; holds = refl })

  meets-param : (q : Param) → Meets rules Tells before (Some (param q)) ((judged k (shape (Some (param q)))))
  meets-param q = go (leb 256 k.count) (eqb q.level 1) k.grouped (rw tells.counted) refl (sym tells.groups)
    where
      counted : k.count + 1 ≡ suc (count before)
      counted = omega (arith, tells.counted)

      go : (a b c : Bool) → leb 256 (count before) ≡ a → eqb q.level 1 ≡ b → grouped before ≡ c
          → Meets rules Tells before (Some (param q)) ((cond a (Err Passed) (cond b
          (cond c (Ok (record { count = k.count + 1; owned = true; grouped = true; items = 0 })) (Err Lost))
          (Ok (record { count = k.count + 1; owned = true; grouped = false; items = 0 })))))
      go true b c p s g = (param q, refl, p)
      go false true true p s g = (param q, refl, p, rw (s, g), record { counted = counted; owns = refl; groups = rw (s, g); holds = refl })
      go false true false p s g = (param q, refl, p, rw (s, g))
      go false false c p s g = (param q, refl, p, rw s, record { counted = counted; owns = refl; groups = rw s; holds = refl })

  -- the code's judgement is that of the rules
  pub meets : (x : Option Record) → Meets rules Tells before x ((judged k (shape x)))
  meets None = refl
  meets (Some (param q)) = meets-param q
  meets (Some (group g)) = meets_group g
  meets (Some (item d)) = meets-item d

-- ---- no form has more than nine fields
pub brief : Brief rules
brief = record { empty = refl; long = long }
  where
    long : (fs : List (List ℕ)) → 9 < length fs → form fs ≡ None
    long fs h =
        let not2 : eqb (length fs) 2 ≡ false = ne_eqb (length fs) 2 (λ e. omega arith) in
        let not3 : eqb (length fs) 3 ≡ false = ne_eqb (length fs) 3 (λ e. omega arith) in
        let not4 : eqb (length fs) 4 ≡ false = ne_eqb (length fs) 4 (λ e. omega arith) in
        let not5 : eqb (length fs) 5 ≡ false = ne_eqb (length fs) 5 (λ e. omega arith) in
        let not6 : eqb (length fs) 6 ≡ false = ne_eqb (length fs) 6 (λ e. omega arith) in
        rw (not2, not3, not4, not5, not6) (simp alike)

-- ---- the loop over the lines
pub check_long : (t : List ℕ) → 60000 < length t → Checks rules t (Err (refusal.Limit 0))
check_long t h = checks rules t _ (checked_long rules Tells t h)

pub check_start : (t : List ℕ) (p : Place) (k : Kept) → p ≡ record { at = 0; line = 1 } → k ≡ nothing → Checked rules Tells t p k
check_start t p k e f = checked_start rules Tells t p k (tells-nothing k f) e

pub check_end : (t : List ℕ) (p : Place) (k : Kept) → Checked rules Tells t p k → length t ≤ 60000 → length t ≤ p.at → Checks rules t (Ok tt)
check_end t p k c short h = checks rules t _ (checked_end rules Tells t p k c short h)

module _ (t : List ℕ) (p : Place) (k : Kept) (l : Line) (f : Option Form) (j : Result Kept Misfit) (c : Checked rules Tells t p k) (inside : p.at < length t)
    (step : Steps t p l)
    (form_is : f ≡ shape (form (cells t l))) (judgement : j ≡ judged k f) where
  met : Meets rules Tells c.before (form (cells t l)) j
  met = rw (judgement, form_is) (meets c.before k c.tells (form (cells t l)))

  pub check_on : (k' : Kept) → j ≡ Ok k' → Checked rules Tells t l.next k'
  check_on k' e = checked_on rules Tells brief t p k l c inside step j met k' e

  pub check_less : (k' : Kept) → j ≡ Ok k' → length t - l.next.at < length t - p.at
  check_less k' e = omega (arith, step.passes.on)

  pub check_refused : length t ≤ 60000 → (m : Misfit) → j ≡ Err m → Checks rules t (Err (refused_at m p.line))
  check_refused short m e = checks rules t _ (checked_refused rules Tells brief t p k l c inside step j met short m e)

pub ruleset check_laws = (check_long, check_start, check_end, check_on, check_less, check_refused)
