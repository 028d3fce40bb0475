-- D4 and D5 (docs/RULES.md): where offsets by position find what offsets over the answered entries find. Assumes nothing.
use mathlib.Core.Path.{◌≡◌, refl, sym, ap, ◌∙◌}
use mathlib.Core.List.{List, [], ◌∷◌, ◌++◌, append_assoc, map}
use Prim.Native.Nat.{ℕ, ◌+◌}
use native.Mathlib.Nat.{add-zero}
use native.Mathlib.Omega.{arith}
use lib.ListN.{length, length-append}
use Rattle.command_class.specs.Definition.{Parameter, Entry, single, repeated}
use Rattle.command_rules.specs.declared.Earlier.{Earlier}
use Rattle.command_rules.specs.declared.Length.{Length}
use Rattle.command_rules.specs.declared.Offsets.{Offsets}
use Rattle.command_rules.specs.declared.Offsets.TheVariants.{Answered, Position}
use Rattle.command_rules.specs.declared.Row.{Row}
use Rattle.command_rules.specs.Field.{field_of}
use Rattle.command_rules.specs.Param.{size_at, param_rows, param_entry}
use Rattle.command_rules.specs.Walk.{Walked, after, members, outer}
use Rattle.std.specs.Prelude.{Some}

-- each of these Qs exists, one behind the other from a place of the body on, after these entries
unfoldable pub Exist : List ℕ → List Parameter → ℕ → List Earlier → Type 0
Exist body [] at es = Unit {0}
Exist body (q ∷ qs) at es =
    (size : Length) × (size_at body (field_of q) es at ≡ Some size) × Exist body qs (at + size.taken) (es ++ (param_entry body at size.taken ∷ []))

-- what they give: their rows, the place behind them, the entries with theirs, the next row
pub record Front : Type 0 where
  pub rows : List Row
  pub end : ℕ
  pub entries : List Earlier
  pub next : ℕ

abbrev behind : List Row → Front → Front
behind rs f = record { rows = rs ++ f.rows; end = f.end; entries = f.entries; next = f.next }

after_both : (a b : List Row) (w : Walked) → after a (after b w) ≡ after (a ++ b) w
after_both a b w = ap (λ (l : List Row). record { rows = l; end = w.end; times = w.times }) (sym (append_assoc a b w.rows))

-- D4: a front of the outer list that consists of Qs that exist: both ways it has the same rows and the same place, and leaves the same entries
pub record Agree (body : List ℕ) (qs : List Parameter) (at : ℕ) (es : List Earlier) (n : ℕ) : Type 0 where
  pub front : Front
  pub walked : (offsets : Offsets) (ds : List Entry) → outer offsets body (map single qs ++ ds) at es n
      ≡ after front.rows (outer offsets body ds front.end front.entries front.next)

pub front_agrees : (body : List ℕ) (qs : List Parameter) (at : ℕ) (es : List Earlier) (n : ℕ) → Exist body qs at es → Agree body qs at es n
unfolding Exist outer
front_agrees body [] at es n there = record { front = record { rows = []; end = at; entries = es; next = n }; walked = λ offsets ds. refl }
front_agrees body (q ∷ qs) at es n there =
    let size : Length = there.0 in
    let rs : List Row = param_rows body (field_of q) at size n 0 in
    let more : Agree body qs (at + size.taken) (es ++ (param_entry body at size.taken ∷ [])) (n + length rs) =
    front_agrees body qs (at + size.taken) (es ++ (param_entry body at size.taken ∷ [])) (n + length rs) there.2 in
    record {
      front = behind rs more.front;
      walked = λ offsets ds. rw there.1 (ap (after rs) (more.walked offsets ds) ∙ after_both rs more.front.rows _);
    }

-- D4: and the answer for what comes next is the same
pub next_agrees : (body : List ℕ) (d : Entry) (at : ℕ) (es : List Earlier) (n : ℕ)
    → outer Answered body (d ∷ []) at es n ≡ outer Position body (d ∷ []) at es n
unfolding outer
next_agrees body (single q) at es n = refl
next_agrees body (repeated line g qs) at es n = refl

pub modes_agree : (body : List ℕ) (qs : List Parameter) (d : Entry) (at : ℕ) (es : List Earlier) (n : ℕ) → Exist body qs at es
    → outer Answered body (map single qs ++ (d ∷ [])) at es n ≡ outer Position body (map single qs ++ (d ∷ [])) at es n
modes_agree body qs d at es n there =
    let a : Agree body qs at es n = front_agrees body qs at es n there in
    a.walked Answered (d ∷ [])
    ∙ ap (after a.front.rows) (next_agrees body d a.front.end a.front.entries a.front.next)
    ∙ sym (a.walked Position (d ∷ []))

-- D5: inside a repetition all members before one that is read exist, so that each entry stands at its Q's position
pub record InPlace (body : List ℕ) (qs : List Parameter) (at : ℕ) (es : List Earlier) (n parent : ℕ) : Type 0 where
  pub front : Front
  pub walked : (rs : List Parameter) → members body (qs ++ rs) at es n parent
      ≡ after front.rows (members body rs front.end front.entries front.next parent)
  pub each : length front.entries ≡ length es + length qs

pub members_in_place : (body : List ℕ) (qs : List Parameter) (at : ℕ) (es : List Earlier) (n parent : ℕ) → Exist body qs at es
    → InPlace body qs at es n parent
unfolding Exist members
members_in_place body [] at es n parent there =
    record { front = record { rows = []; end = at; entries = es; next = n }; walked = λ rs. refl; each = sym (add-zero (length es)) }
members_in_place body (q ∷ qs) at es n parent there =
    let size : Length = there.0 in
    let here : List Row = param_rows body (field_of q) at size n parent in
    let more : InPlace body qs (at + size.taken) (es ++ (param_entry body at size.taken ∷ [])) (n + length here) parent =
    members_in_place body qs (at + size.taken) (es ++ (param_entry body at size.taken ∷ [])) (n + length here) parent there.2 in
    record {
      front = behind here more.front;
      walked = λ rs. rw there.1 (ap (after here) (more.walked rs) ∙ after_both here more.front.rows _);
      each = more.each ∙ rw (length-append es (param_entry body at size.taken ∷ [])) (omega arith);
    }
