-- Laws on the XML of an accepted text in plain form: it has no fault, and says the lines of the text. Assumes nothing.
use mathlib.Core.Path.{◌≡◌, refl, sym, ap, ◌∙◌}
use mathlib.Core.Bool.{Bool, true, false, cond, not, ◌&&◌}
use mathlib.Core.List.{List, [], ◌∷◌, ◌++◌, append_assoc, append-nil}
use Prim.Native.Nat.{ℕ, zero, suc, ◌+◌, ◌-◌, ◌%◌, ◌≤◌}
use native.Mathlib.Omega.{arith}
use lib.Dec.{eqb, ltb}
use lib.ListN.{length}
use borrow.Author.Tests.{le-leb, ne_eqb, eq-eqb, eqb-true, ltb-false}
use Rattle.laws.proofs.Bools.{and_left, and_right}
use Rattle.text.specs.Text.{lines, fields, field, decimal, up_to, worth, value}
use Rattle.text.specs.Print.{joined}
use Rattle.text.specs.Place.{kind_of}
use Rattle.text.specs.Judge.{judge}
use Rattle.text.proofs.Printing.{joined-split}
use Rattle.text.proofs.Tests.{value_of, or_left, or_right}
use Rattle.text.proofs.Reading.{accepted_line}
use Rattle.frame_text.specs.Form.{Record, frequency, base, header, param, validation, set, entry, Header, Param, form, said, of_type, type_of}
use Rattle.frame_text.specs.Form.{frequency_form, base_form, header_form, param_numbers, param_words, param_form, validation_form, set_form, entry_form}
use Rattle.frame_text.specs.Rules.{rules, owner, over, lost, inside, parent, holds_params}
use Rattle.plain_form.specs.PlainForm.{stands, farther, misplaced}
use Rattle.xml_schema.specs.Schema.{table, entries_of, has_line, letter_of}
use Rattle.xml_document.specs.Document.{enter, leave, level}
use Rattle.xml_elements.specs.Elements.{depth, up, shut}
use Rattle.xml_elements.specs.Elements.{closings, level_in, stands_in, is_alone, first_field}
use Rattle.xml_elements.specs.Elements.{tag_for, leads_to, element, kind_for, body}
use Rattle.xml_laws.proofs.Attributes.{fitting, line_from}
use Rattle.xml_laws.proofs.Tags.{Element, element_is}
use Rattle.xml_laws.proofs.Lines.{Fitted, fitted_f, fitted-b, fitted_h, fitted_p, fitted_v, fitted_d, fitted_e}
use Rattle.xml_laws.proofs.Document.{Says, climb, Climbs, says-closings, says-shut, says-start}
use Rattle.xml_laws.proofs.Document.{deep, inside-owner, inside-set, climbs_to, climbs_out, climbs_root}
use Rattle.xml_laws.proofs.Document.{owner as home, depth-deep, enter-first, enter_next, leads_next, level-deep}
use Rattle.std.specs.Prelude.{Option, Some, None, Ok}
use Rattle.frame_text.specs.declared.ParamType.{ParamType}

-- ---- what is known of the fields that say a record
abbrev pub View : List (List ℕ) → Record → Type 0
View fs (frequency code key) = (kind_of fs ≡ 0x46) × (frequency_form fs ≡ true)
View fs (base key) = (kind_of fs ≡ 0x42) × (base_form fs ≡ true)
View fs (header h) = (kind_of fs ≡ 0x48) × (header_form fs ≡ true)
View fs (param p) = (kind_of fs ≡ 0x50) × (param_form fs ≡ true) × (p.level ≡ worth 0 (field 1 fs))
View fs (validation path value) = (kind_of fs ≡ 0x56) × (validation_form fs ≡ true)
View fs (set name) = (kind_of fs ≡ 0x44) × (set_form fs ≡ true)
View fs (entry key text) = (kind_of fs ≡ 0x45) × (entry_form fs ≡ true)

said_view : (fs : List (List ℕ)) (r s : Record) (b : Bool) → (b ≡ true → View fs s) → said b (Some s) ≡ Some r → View fs r
said_view fs r s true f e = let q : s ≡ r = cc in rw (← q) (f refl)
said_view fs r s false f e = absurd (let z : ◌≡◌ {A = ℕ} 0 1 = cc in omega arith)

param_view : (fs : List (List ℕ)) (r : Record) → kind_of fs ≡ 0x50 → (b : Bool) → param_form fs ≡ b → (t : Option ParamType)
    → said b (of_type fs t) ≡ Some r → View fs r
param_view fs r k true q (Some type) e = said_view fs r _ true (λ w. (k, q, refl)) e
param_view fs r k true q None e = absurd (let z : ◌≡◌ {A = ℕ} 0 1 = cc in omega arith)
param_view fs r k false q t e = absurd (let z : ◌≡◌ {A = ℕ} 0 1 = cc in omega arith)

pub view_of : (fs : List (List ℕ)) (r : Record) → form fs ≡ Some r → View fs r
view_of fs r e =
    go (eqb (kind_of fs) 0x46) (eqb (kind_of fs) 0x42) (eqb (kind_of fs) 0x48) (eqb (kind_of fs) 0x50) (eqb (kind_of fs) 0x56) (eqb (kind_of fs) 0x44)
    (eqb (kind_of fs) 0x45) refl refl refl refl refl refl refl
  where
    go : (a b c d f g h : Bool) → eqb (kind_of fs) 0x46 ≡ a → eqb (kind_of fs) 0x42 ≡ b → eqb (kind_of fs) 0x48 ≡ c → eqb (kind_of fs) 0x50 ≡ d
        → eqb (kind_of fs) 0x56 ≡ f → eqb (kind_of fs) 0x44 ≡ g → eqb (kind_of fs) 0x45 ≡ h → View fs r
    go true b c d f g h p q s t u v w = said_view fs r _ (frequency_form fs) (λ y. (eqb-true (kind_of fs) 0x46 p, y)) (rw p at e)
    go false true c d f g h p q s t u v w = said_view fs r _ (base_form fs) (λ y. (eqb-true (kind_of fs) 0x42 q, y)) (rw (p, q) at e)
    go false false true d f g h p q s t u v w = said_view fs r _ (header_form fs) (λ y. (eqb-true (kind_of fs) 0x48 s, y)) (rw (p, q, s) at e)
    go false false false true f g h p q s t u v w =
        param_view fs r (eqb-true (kind_of fs) 0x50 t) (param_form fs) refl (type_of (field 4 fs)) (rw (p, q, s, t) at e)
    go false false false false true g h p q s t u v w = said_view fs r _ (validation_form fs) (λ y. (eqb-true (kind_of fs) 0x56 u, y)) (rw (p, q, s, t, u) at e)
    go false false false false false true h p q s t u v w =
        said_view fs r _ (set_form fs) (λ y. (eqb-true (kind_of fs) 0x44 v, y)) (rw (p, q, s, t, u, v) at e)
    go false false false false false false true p q s t u v w =
        said_view fs r _ (entry_form fs) (λ y. (eqb-true (kind_of fs) 0x45 w, y)) (rw (p, q, s, t, u, v, w) at e)
    go false false false false false false false p q s t u v w =
        absurd (let y : ◌≡◌ {A = Option Record} None (Some r) = rw (p, q, s, t, u, v, w) at e in let z : ◌≡◌ {A = ℕ} 0 1 = cc in omega arith)

-- ---- a line, from the place d
says-element : (d d' e k n lev : ℕ) (fs : List (List ℕ)) (l rest : List ℕ) (ls : List (List ℕ)) → Element k
    → fitting fs (entries_of k) (first_field k) 1 ≡ true
    → lev ≡ level_in k fs → n ≡ depth d - stands_in k lev → Climbs n d → climb n d ≡ d'
    → cond (is_alone k) (leave (enter d' k) k) (enter d' k) ≡ e → (e ≡ 15 → ⊥) → has_line k ≡ true
    → letter_of k ∷ (level k (enter d' k) ++ line_from fs (entries_of k) (first_field k) 1) ≡ l → Says e (0x0a ∷ rest) ls
    → Says d (0x0a ∷ (element d k fs ++ rest)) (l ∷ ls)
says-element d d' e k n lev fs l rest ls el fits is count climbs to m s has line after =
    rw (← is, ← count, append_assoc (closings n d) (tag_for k lev fs) rest)
    (says-closings n d (tag_for k lev fs ++ rest) (l ∷ ls) climbs (rw to (says-start k (stands_in k lev) fs el fits d' e l rest ls m s has line after)))

-- ---- where the records before leave us
abbrev pub in_header : List Record → Bool
in_header rs = eqb (owner rs) 0x48

abbrev pub place_of : List Record → ℕ
place_of [] = 0
place_of (frequency code key ∷ rs) = 0
place_of (base key ∷ rs) = 2
place_of (header h ∷ rs) = 3
place_of (param p ∷ rs) = deep (in_header rs) p.level
place_of (validation path value ∷ rs) = 3
place_of (set name ∷ rs) = 6
place_of (entry key text ∷ rs) = 6

-- how far they have come in plain form
abbrev pub far_of : List Record → ℕ
far_of [] = 0
far_of (frequency code key ∷ rs) = 0
far_of (base key ∷ rs) = 1
far_of (header h ∷ rs) = 2
far_of (param p ∷ rs) = cond (in_header rs) 2 1
far_of (validation path value ∷ rs) = 3
far_of (set name ∷ rs) = 4
far_of (entry key text ∷ rs) = 4

-- the latest has its owner, and a level that there is
abbrev pub Kept : List Record → Type 0
Kept [] = Unit {0}
Kept (frequency code key ∷ rs) = Unit {0}
Kept (base key ∷ rs) = Unit {0}
Kept (header h ∷ rs) = Unit {0}
Kept (param p ∷ rs) = (p.level ≤ 7) × (holds_params rs ≡ true)
Kept (validation path value ∷ rs) = owner rs ≡ 0x48
Kept (set name ∷ rs) = Unit {0}
Kept (entry key text ∷ rs) = owner rs ≡ 0x44

-- from each of these places the root is so many ends away
record Out (d n e : ℕ) : Type 0 where
  climbs : Climbs n d
  to : climb n d ≡ e

out_of : (before : List Record) → Kept before → Out (place_of before) (depth (place_of before)) 0
out_of [] k = record { climbs = tt; to = refl }
out_of (frequency code key ∷ rs) k = record { climbs = tt; to = refl }
out_of (base key ∷ rs) k = record { climbs = (inside-owner false, tt); to = refl }
out_of (header h ∷ rs) k = record { climbs = (inside-owner true, tt); to = refl }
out_of (param p ∷ rs) k =
    let z : 2 + p.level ≡ suc (suc p.level) = omega arith in
    rw (depth-deep (in_header rs) p.level k.0, z)
    (record { climbs = (climbs_root (in_header rs) p.level k.0).0; to = (climbs_root (in_header rs) p.level k.0).1 })
out_of (validation path value ∷ rs) k = record { climbs = (inside-owner true, tt); to = refl }
out_of (set name ∷ rs) k = record { climbs = (inside-set, tt); to = refl }
out_of (entry key text ∷ rs) k = record { climbs = (inside-set, tt); to = refl }

-- in a Header it is so many ends away
header_of : (before : List Record) → Kept before → owner before ≡ 0x48 → Out (place_of before) (depth (place_of before) - 1) 3
header_of [] k o = absurd (omega arith)
header_of (frequency code key ∷ rs) k o = absurd (omega arith)
header_of (base key ∷ rs) k o = absurd (omega arith)
header_of (header h ∷ rs) k o = record { climbs = tt; to = refl }
header_of (param p ∷ rs) k o =
    let z : 2 + p.level - 1 ≡ suc p.level = omega arith in
    rw (eq-eqb (owner rs) 0x48 o, depth-deep true p.level k.0, z)
    (record { climbs = (climbs_out true p.level k.0).0; to = (climbs_out true p.level k.0).1 })
header_of (validation path value ∷ rs) k o = record { climbs = tt; to = refl }
header_of (set name ∷ rs) k o = absurd (omega arith)
header_of (entry key text ∷ rs) k o = absurd (omega (arith, k, o))

holds-none : (rs : List Record) (n : ℕ) → owner rs ≡ n → (n ≡ 0x42 → ⊥) → (n ≡ 0x48 → ⊥) → holds_params rs ≡ true → ⊥
holds-none rs n o a b h =
    let z : holds_params rs ≡ false = rw (o, ne_eqb n 0x42 a, ne_eqb n 0x48 b) in
    let y : ◌≡◌ {A = Bool} true false = sym h ∙ z in
    let w : ◌≡◌ {A = ℕ} 0 1 = cc in omega arith

-- in a DefineSet we are in it
pub set_of_lem : (before : List Record) → Kept before → owner before ≡ 0x44 → (place_of before ≡ 6) × (far_of before ≡ 4)
set_of_lem [] k o = absurd (omega arith)
set_of_lem (frequency code key ∷ rs) k o = absurd (omega arith)
set_of_lem (base key ∷ rs) k o = absurd (omega arith)
set_of_lem (header h ∷ rs) k o = absurd (omega arith)
set_of_lem (param p ∷ rs) k o = absurd (holds-none rs 0x44 o (λ e. omega arith) (λ e. omega arith) k.1)
set_of_lem (validation path value ∷ rs) k o = absurd (omega (arith, k, o))
set_of_lem (set name ∷ rs) k o = (refl, refl)
set_of_lem (entry key text ∷ rs) k o = (refl, refl)

-- ---- one line more
pub record Step (before : List Record) (r : Record) (fs : List (List ℕ)) (l : List ℕ) : Type 0 where
  pub on : (rest : List ℕ) (ls : List (List ℕ)) → Says (place_of (r ∷ before)) (0x0a ∷ rest) ls
      → Says (place_of before) (0x0a ∷ (element (place_of before) (kind_for fs) fs ++ rest)) (l ∷ ls)
  pub leads : leads_to (place_of before) (kind_for fs) (level_in (kind_for fs) fs) ≡ place_of (r ∷ before)
  pub kept : Kept (r ∷ before)
  pub far : farther (far_of before) (kind_of fs) ≡ far_of (r ∷ before)

pub not_false : (b : Bool) → not b ≡ false → b ≡ true
not_false true e = refl
not_false false e = absurd (let z : ◌≡◌ {A = ℕ} 0 1 = cc in omega arith)

module _ (before : List Record) (kept : Kept before) (fs : List (List ℕ)) (l : List ℕ) (whole : joined 0x09 fs ≡ l) where
  abbrev d : ℕ
  d = place_of before

  root_away : d ≡ d → depth d ≡ depth d - 0
  root_away e = omega arith

  step_f : (code key : ℕ) → View fs (frequency code key) → Step before (frequency code key) fs l
  unfolding table
  step_f code key v =
      let f : Fitted 1 1 fs (0x46 ∷ []) = fitted_f fs v.0 v.1 in
      let o : Out d (depth d) 0 = out_of before kept in
      record {
        on = λ rest ls s.
            rw v.0
            (says-element d 0 0 1 (depth d) 0 fs l rest ls (element_is 1 (omega arith)) f.fits refl (root_away refl) o.climbs o.to refl
            (λ e. omega arith) refl
            (f.line ∙ whole) s);
        leads = rw v.0;
        kept = tt;
        far = rw v.0;
      }

  step_b : (key : ℕ) → View fs (base key) → Step before (base key) fs l
  unfolding table
  step_b key v =
      let f : Fitted 2 1 fs (0x42 ∷ []) = fitted-b fs v.0 v.1 in
      let o : Out d (depth d) 0 = out_of before kept in
      record {
        on = λ rest ls s.
            rw v.0
            (says-element d 0 2 2 (depth d) 0 fs l rest ls (element_is 2 (omega arith)) f.fits refl (root_away refl) o.climbs o.to refl
            (λ e. omega arith) refl
            (f.line ∙ whole) s);
        leads = rw v.0;
        kept = tt;
        far = rw v.0;
      }

  step_h : (h : Header) → View fs (header h) → Step before (header h) fs l
  unfolding table
  step_h h v =
      let f : Fitted 3 1 fs (0x48 ∷ []) = fitted_h fs v.0 v.1 in
      let o : Out d (depth d) 0 = out_of before kept in
      record {
        on = λ rest ls s.
            rw v.0
            (says-element d 0 3 3 (depth d) 0 fs l rest ls (element_is 3 (omega arith)) f.fits refl (root_away refl) o.climbs o.to refl
            (λ e. omega arith) refl
            (f.line ∙ whole) s);
        leads = rw v.0;
        kept = tt;
        far = rw v.0;
      }

  step_d : (name : List ℕ) → View fs (set name) → Step before (set name) fs l
  unfolding table
  step_d name v =
      let f : Fitted 6 1 fs (0x44 ∷ []) = fitted_d fs v.0 v.1 in
      let o : Out d (depth d) 0 = out_of before kept in
      record {
        on = λ rest ls s.
            rw v.0
            (says-element d 0 6 6 (depth d) 0 fs l rest ls (element_is 6 (omega arith)) f.fits refl (root_away refl) o.climbs o.to refl
            (λ e. omega arith) refl
            (f.line ∙ whole) s);
        leads = rw v.0;
        kept = tt;
        far = rw v.0;
      }

  step_v : (path : List (List ℕ)) (value : ℕ) → View fs (validation path value) → lost before (validation path value) ≡ false
      → Step before (validation path value) fs l
  unfolding table
  step_v path value v lost =
      let f : Fitted 5 1 fs (0x56 ∷ []) = fitted_v fs v.0 v.1 in
      let h : owner before ≡ 0x48 = eqb-true (owner before) 0x48 (not_false (eqb (owner before) 0x48) lost) in
      let o : Out d (depth d - 1) 3 = header_of before kept h in
      record {
        on = λ rest ls s.
            rw v.0
            (says-element d 3 3 5 (depth d - 1) 0 fs l rest ls (element_is 5 (omega arith)) f.fits refl refl o.climbs o.to refl
            (λ e. omega arith) refl
            (f.line ∙ whole) s);
        leads = rw v.0;
        kept = h;
        far = rw v.0;
      }

  step_e : (key : ℕ) (text : List ℕ) → View fs (entry key text) → lost before (entry key text) ≡ false → Step before (entry key text) fs l
  unfolding table
  step_e key text v lost =
      let f : Fitted 7 1 fs (0x45 ∷ []) = fitted_e fs v.0 v.1 in
      let h : owner before ≡ 0x44 = eqb-true (owner before) 0x44 (not_false (eqb (owner before) 0x44) lost) in
      let at : place_of before ≡ 6 = (set_of_lem before kept h).0 in
      let so : far_of before ≡ 4 = (set_of_lem before kept h).1 in
      record {
        on = λ rest ls s.
            rw (v.0, at)
            (says-element 6 6 6 7 0 0 fs l rest ls (element_is 7 (omega arith)) f.fits refl refl tt refl refl (λ e. omega arith) refl
            (f.line ∙ whole) s);
        leads = rw v.0;
        kept = h;
        far = rw v.0 so;
      }

-- ---- a P
pub record From (before : List Record) (lev : ℕ) : Type 0 where
  pub stood : ℕ
  pub climbs : Climbs (depth (place_of before) - (1 + lev)) (place_of before)
  pub to : climb (depth (place_of before) - (1 + lev)) (place_of before) ≡ stood
  pub enters : enter stood 4 ≡ deep (in_header before) lev
  pub leads : leads_to (place_of before) 4 lev ≡ deep (in_header before) lev
  pub far : far_of before ≡ cond (in_header before) 2 1

parent-least : (n m : ℕ) (b : Bool) → cond (eqb m n) true (cond (ltb m n) false b) ≡ true → n ≤ m
parent-least n m b e = go (eqb m n) (ltb m n) refl refl e
  where
    go : (s t : Bool) → eqb m n ≡ s → ltb m n ≡ t → cond s true (cond t false b) ≡ true → n ≤ m
    go true t p q h = let i : m ≡ n = eqb-true m n p in omega arith
    go false true p q h = absurd (let z : ◌≡◌ {A = ℕ} 0 1 = cc in omega arith)
    go false false p q h = ltb-false m n q

from-param : (h : Bool) (m lev : ℕ) → m ≤ 7 → lev ≤ 7 → lev ≤ suc m
    → (stood : ℕ) × (Climbs (2 + m - (1 + lev)) (deep h m)) × (climb (2 + m - (1 + lev)) (deep h m) ≡ stood) × (enter stood 4 ≡ deep h lev)
from-param h m zero a b c =
    let z : 2 + m - (1 + 0) ≡ suc m = omega arith in
    (home h, rw z (climbs_out h m a).0, rw z (climbs_out h m a).1, enter-first h)
from-param h m (suc n) a b c =
    let z : 2 + m - (1 + suc n) ≡ m - n = omega arith in
    let y : m - (m - n) ≡ n = omega arith in
    (deep h n, rw z (climbs_to h (m - n) m (omega arith) a).0, rw z ((climbs_to h (m - n) m (omega arith) a).1 ∙ ap (deep h) y), enter_next h n b)

pub from_of : (before : List Record) (lev : ℕ) → Kept before → lev ≤ 7 → holds_params before ≡ true → inside lev before ≡ true
    → (far_of before ≡ 3 → ⊥)
    → From before lev
from_of [] lev k low holds ins far = absurd (holds-none [] 0 refl (λ e. omega arith) (λ e. omega arith) holds)
from_of (frequency code key ∷ rs) lev k low holds ins far =
    absurd (holds-none (frequency code key ∷ rs) 0x46 refl (λ e. omega arith) (λ e. omega arith) holds)
from_of (base key ∷ rs) zero k low holds ins far = record { stood = 2; climbs = tt; to = refl; enters = refl; leads = refl; far = refl }
from_of (base key ∷ rs) (suc n) k low holds ins far = absurd (let z : ◌≡◌ {A = ℕ} 0 1 = cc in omega arith)
from_of (header h ∷ rs) zero k low holds ins far = record { stood = 3; climbs = tt; to = refl; enters = refl; leads = refl; far = refl }
from_of (header h ∷ rs) (suc n) k low holds ins far = absurd (let z : ◌≡◌ {A = ℕ} 0 1 = cc in omega arith)
from_of (param p ∷ rs) lev k low holds ins far =
    let found = from-param (in_header rs) p.level lev k.0 low (least lev ins) in
    record {
      stood = found.0;
      climbs = rw (depth-deep (in_header rs) p.level k.0) found.1;
      to = rw (depth-deep (in_header rs) p.level k.0) found.2;
      enters = found.3;
      leads = leads_next (in_header rs) p.level lev k.0;
      far = refl;
    }
  where
    least : (lev : ℕ) → inside lev (param p ∷ rs) ≡ true → lev ≤ suc p.level
    least zero i = omega arith
    least (suc n) i = let w : n ≤ p.level = parent-least n p.level (parent n rs) i in omega arith
from_of (validation path value ∷ rs) lev k low holds ins far = absurd (far refl)
from_of (set name ∷ rs) lev k low holds ins far = absurd (holds-none (set name ∷ rs) 0x44 refl (λ e. omega arith) (λ e. omega arith) holds)
from_of (entry key text ∷ rs) lev k low holds ins far = absurd (holds-none rs 0x44 k (λ e. omega arith) (λ e. omega arith) holds)

pub not_three : (n : ℕ) → not (eqb n 3) ≡ true → n ≡ 3 → ⊥
not_three n e q =
    let z : not (eqb n 3) ≡ false = rw (eq-eqb n 3 q) in
    let y : ◌≡◌ {A = Bool} true false = sym e ∙ z in
    let w : ◌≡◌ {A = ℕ} 0 1 = cc in omega arith

deep_somewhere : (h : Bool) (m : ℕ) → deep h m ≡ 15 → ⊥
deep_somewhere false m e = omega arith
deep_somewhere true m e = omega arith

module _ (before : List Record) (kept : Kept before) (fs : List (List ℕ)) (l : List ℕ) (whole : joined 0x09 fs ≡ l) where
  step_p : (p : Param) → View fs (param p) → over before (param p) ≡ false → lost before (param p) ≡ false
      → stands (far_of before) (kind_of fs) ≡ true
      → Step before (param p) fs l
  unfolding table
  step_p p v over lost ordered =
      let low : p.level ≤ 7 = ltb-false 7 p.level (or_left (ltb 7 p.level) _ over) in
      let holds : holds_params before ≡ true = not_false (holds_params before) (or_left (not (holds_params before)) _ lost) in
      let ins : inside p.level before ≡ true =
      not_false (inside p.level before) (or_left (not (inside p.level before)) _ (or_right (not (holds_params before)) _ lost)) in
      let apart : far_of before ≡ 3 → ⊥ = not_three (far_of before) (rw v.0 at ordered) in
      let f : From before p.level = from_of before p.level kept low holds ins apart in
      let small : worth 0 (field 1 fs) ≤ 7 = rw v.2 at low in
      let fitted : Fitted 4 2 fs (0x50 ∷ 0x09 ∷ (0x30 + worth 0 (field 1 fs)) ∷ []) = fitted_p fs v.0 v.1 small in
      let numbers : param_numbers fs ≡ true = and_left (param_numbers fs) (param_words fs)
      (and_right (eqb (length fs) 9) (param_numbers fs && param_words fs) v.1) in
      let digits : decimal (field 1 fs) ≡ true = and_left (decimal (field 1 fs)) (up_to 65535 (field 2 fs) && up_to 255 (field 3 fs)) numbers in
      let lev : p.level ≡ value 7 (field 1 fs) = v.2 ∙ sym (value_of 7 (field 1 fs) (rw (digits, le-leb (worth 0 (field 1 fs)) 7 small))) in
      let digit : enter f.stood 4 % 8 ≡ worth 0 (field 1 fs) =
      ap (λ (x : ℕ). x % 8) f.enters ∙ level-deep (in_header before) p.level low ∙ v.2 in
      let shown : 0x50 ∷ 0x09 ∷ (0x30 + enter f.stood 4 % 8) ∷ line_from fs (entries_of 4) 2 1 ≡ l =
      ap (λ (x : ℕ). 0x50 ∷ 0x09 ∷ (0x30 + x) ∷ line_from fs (entries_of 4) 2 1) digit ∙ fitted.line ∙ whole in
      record {
        on = λ rest ls s.
            rw v.0
            (says-element (place_of before) f.stood (deep (in_header before) p.level) 4 (depth (place_of before) - (1 + p.level)) p.level fs l rest ls
            (element_is 4 (omega arith)) fitted.fits lev refl f.climbs f.to f.enters (deep_somewhere (in_header before) p.level) refl shown s);
        leads = rw v.0 (rw (← lev) f.leads);
        kept = (low, holds);
        far = rw v.0 f.far;
      }

  pub step_of : (r : Record) → View fs r → over before r ≡ false → lost before r ≡ false → stands (far_of before) (kind_of fs) ≡ true
      → Step before r fs l
  step_of (frequency code key) v o s t = step_f before kept fs l whole code key v
  step_of (base key) v o s t = step_b before kept fs l whole key v
  step_of (header h) v o s t = step_h before kept fs l whole h v
  step_of (param p) v o s t = step_p p v o s t
  step_of (validation path value) v o s t = step_v before kept fs l whole path value v s
  step_of (set name) v o s t = step_d before kept fs l whole name v
  step_of (entry key text) v o s t = step_e before kept fs l whole key text v s

-- ---- all lines
abbrev pub front : List (List ℕ) → List (List ℕ)
front [] = []
front (l ∷ []) = []
front (l ∷ m ∷ ms) = l ∷ front (m ∷ ms)

says_end : (n d : ℕ) → Climbs n d → climb n d ≡ 0 → Says d (0x0a ∷ (closings (suc n) d ++ [])) []
unfolding closings
says_end zero d c e = rw (e, append_assoc (shut 0) [] []) (says-shut 0 14 [] [] (element_is 0 (omega arith)) refl (λ q. omega arith)
    (record { lines = refl; fine = λ place. refl }))
says_end (suc n) d c e =
    rw (append_assoc (shut d) (closings (suc n) (up d)) [])
    (says-shut d (up d) (closings (suc n) (up d) ++ []) [] c.0.element c.0.leads c.0.somewhere (says_end n (up d) c.1 e))

says_last : (before : List Record) → Kept before → Says (place_of before) (0x0a ∷ closings (suc (depth (place_of before))) (place_of before)) []
says_last before kept =
    let o : Out (place_of before) (depth (place_of before)) 0 = out_of before kept in
    rw (append-nil (closings (suc (depth (place_of before))) (place_of before))) at (says_end (depth (place_of before)) (place_of before) o.climbs o.to)

-- the order of a line, and of the lines behind it
pub ordered_line : (b : Bool) (m n : ℕ) → cond b m (suc n) ≡ 0 → (b ≡ true) × (m ≡ 0)
ordered_line true m n e = (refl, e)
ordered_line false m n e = absurd (omega arith)

pub says-body : (before : List Record) (n m : ℕ) (ls : List (List ℕ)) → Kept before → judge rules before n ls ≡ Ok tt
    → misplaced (far_of before) (suc m) ls ≡ 0 → Says (place_of before) (0x0a ∷ body (place_of before) ls) (front ls)
unfolding body
says-body before n m [] kept good ordered = says_last before kept
says-body before n m (l ∷ []) kept good ordered = says_last before kept
says-body before n m (l ∷ k ∷ ks) kept good ordered =
    let a = accepted_line rules before n (form (fields l)) _ good in
    let o : (stands (far_of before) (kind_of (fields l)) ≡ true)
    × (misplaced (farther (far_of before) (kind_of (fields l))) (suc (suc m)) (k ∷ ks) ≡ 0) =
    ordered_line (stands (far_of before) (kind_of (fields l))) (misplaced (farther (far_of before) (kind_of (fields l))) (suc (suc m)) (k ∷ ks)) m ordered in
    let s : Step before a.said (fields l) l =
    step_of before kept (fields l) l (joined-split 0x09 l) a.said (view_of (fields l) a.said a.is) a.within a.owned o.0 in
    rw s.leads
    (s.on (body (place_of (a.said ∷ before)) (k ∷ ks)) (front (k ∷ ks))
    (says-body (a.said ∷ before) (suc n) (suc m) (k ∷ ks) s.kept a.on (rw s.far at o.1)))
