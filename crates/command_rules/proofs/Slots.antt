-- D2 and D3 of every walk: the entries of the outer list, found by the lines of its rows. Assumes nothing.
use mathlib.Core.Path.{◌≡◌, refl, sym, ap, ◌∙◌}
use mathlib.Core.Bool.{Bool, true, false, cond}
use mathlib.Core.List.{List, [], ◌∷◌, ◌++◌, append-nil, map, map-append}
use Prim.Native.Nat.{ℕ, zero, suc, ◌≤◌, ◌<◌}
use native.Mathlib.Omega.{arith}
use lib.Dec.{eqb, ltb}
use lib.ListN.{length, get_or, replicate}
use borrow.Author.Tests.{eq-eqb, ne_eqb}
use Rattle.command_text.specs.Form.{Group, Record, param, group, item}
use Rattle.command_class.specs.Definition.{Parameter, Entry, single, repeated, numbered, under, entries_at}
use Rattle.command_rules.specs.Lengths.{wanted, by_entry}
use Rattle.command_rules.specs.declared.Rule.{Rule}
use Rattle.command_rules.specs.declared.Rule.TheVariants.{Fixed, Open, Counted}
use Rattle.command_rules.specs.declared.Earlier.{Earlier}
use Rattle.command_rules.specs.declared.Earlier.TheVariants.{NoValue, NoEntry}
use Rattle.command_rules.specs.declared.Offsets.{Offsets}
use Rattle.command_rules.specs.declared.Offsets.TheVariants.{Answered, Position}
use Rattle.command_rules.specs.declared.Row.{Row}
use Rattle.command_rules.specs.Limits.{Lined}
use Rattle.command_rules.specs.Sum.{entry_in, slot_at, slots}
use Rattle.command_rules.specs.Walk.{unvalued}

-- ---- rows and Qs by their lines
abbrev pub OnLine : ℕ → List Row → Type 0
OnLine line [] = Unit {0}
OnLine line (r ∷ rs) = (r.line ≡ line) × OnLine line rs

abbrev pub Under : ℕ → List Row → Type 0
Under low [] = Unit {0}
Under low (r ∷ rs) = (r.line < low) × Under low rs

abbrev pub Passed : ℕ → List Entry → Type 0
Passed low [] = Unit {0}
Passed low (single q ∷ ds) = (q.line < low) × Passed low ds
Passed low (repeated line g qs ∷ ds) = Passed low ds

pub under_later : (low high : ℕ) (a b : List Row) → low ≤ high → Under low a → Under high b → Under high (a ++ b)
under_later low high [] b h u v = v
under_later low high (r ∷ a) b h u v = (omega (arith, u.0), under_later low high a b h u.1 v)

pub on-under : (line : ℕ) (rs : List Row) → OnLine line rs → Under (suc line) rs
on-under line [] o = tt
on-under line (r ∷ rs) o = (omega (arith, o.0), on-under line rs o.1)

pub passed_later : (low high : ℕ) (a b : List Entry) → low ≤ high → Passed low a → Passed high b → Passed high (a ++ b)
passed_later low high [] b h p v = v
passed_later low high (single q ∷ a) b h p v = (omega (arith, p.0), passed_later low high a b h p.1 v)
passed_later low high (repeated line g qs ∷ a) b h p v = passed_later low high a b h p v

-- ---- one Q
slot_on : (l m : ℕ) (rs : List Row) → OnLine m rs → l < m → slot_at l rs ≡ NoEntry
slot_on l m [] o h = refl
slot_on l m (r ∷ rs) o h = rw (ne_eqb r.line l (λ z. omega (arith, o.0))) (slot_on l m rs o.1 h)

slot_other : (l m : ℕ) (xs rs : List Row) → OnLine m rs → l < m → slot_at l (xs ++ rs) ≡ slot_at l xs
slot_other l m [] rs o h = slot_on l m rs o h
slot_other l m (x ∷ xs) rs o h = ap (cond (eqb x.line l) (entry_in x)) (slot_other l m xs rs o h)

slot_behind : (low l : ℕ) (xs rs : List Row) → Under low xs → low ≤ l → slot_at l (xs ++ rs) ≡ slot_at l rs
slot_behind low l [] rs u h = refl
slot_behind low l (x ∷ xs) rs u h = rw (ne_eqb x.line l (λ z. omega (arith, u.0))) (slot_behind low l xs rs u.1 h)

slot_none : (low l : ℕ) (xs : List Row) → Under low xs → low ≤ l → slot_at l xs ≡ NoEntry
slot_none low l xs u h = ap (slot_at l) (sym (append-nil xs)) ∙ slot_behind low l xs [] u h

-- ---- all of them
slots-append : (a b : List Entry) (xs : List Row) → slots (a ++ b) xs ≡ slots a xs ++ slots b xs
slots-append [] b xs = refl
slots-append (single q ∷ a) b xs = ap (λ (l : List Earlier). slot_at q.line xs ∷ l) (slots-append a b xs)
slots-append (repeated line g qs ∷ a) b xs = ap (λ (l : List Earlier). NoEntry ∷ l) (slots-append a b xs)

slots-other : (low m : ℕ) (ds : List Entry) (xs rs : List Row) → Passed low ds → low ≤ m → OnLine m rs → slots ds (xs ++ rs) ≡ slots ds xs
slots-other low m [] xs rs p h o = refl
slots-other low m (single q ∷ ds) xs rs p h o =
    let first = slot_other q.line m xs rs o (omega (arith, p.0)) in
    let more = slots-other low m ds xs rs p.1 h o in
    λ i. first i ∷ more i
slots-other low m (repeated line g qs ∷ ds) xs rs p h o = ap (λ (l : List Earlier). NoEntry ∷ l) (slots-other low m ds xs rs p h o)

-- those that no row is yet
slots-none : (low : ℕ) (ds : List Entry) (xs : List Row) → Lined low ds → Under low xs → slots ds xs ≡ replicate (length ds) NoEntry
slots-none low [] xs h u = refl
slots-none low (single q ∷ ds) xs h u =
    let first = slot_none low q.line xs u h.0 in
    let more = slots-none (suc q.line) ds xs h.1 (later xs u) in
    λ i. first i ∷ more i
  where
    later : (rs : List Row) → Under low rs → Under (suc q.line) rs
    later [] v = tt
    later (r ∷ rs) v = (omega (arith, v.0, h.0), later rs v.1)
slots-none low (repeated line g qs ∷ ds) xs h u = ap (λ (l : List Earlier). NoEntry ∷ l) (slots-none (suc line) ds xs h.1 (later xs u))
  where
    later : (rs : List Row) → Under low rs → Under (suc line) rs
    later [] v = tt
    later (r ∷ rs) v = (omega (arith, v.0, h.0), later rs v.1)

-- ---- entries that no offset finds make no difference behind the others
none_there : (m k : ℕ) → get_or (replicate m NoEntry) k NoEntry ≡ NoEntry
none_there zero k = refl
none_there (suc m) zero = refl
none_there (suc m) (suc k) = none_there m k

padded : (es : List Earlier) (m k : ℕ) → get_or es k NoEntry ≡ get_or (es ++ replicate m NoEntry) k NoEntry
padded [] m k = sym (none_there m k)
padded (e ∷ es) m zero = refl
padded (e ∷ es) m (suc k) = padded es m k

wanted_padded : (rule : Rule) (es : List Earlier) (m : ℕ) → wanted rule es ≡ wanted rule (es ++ replicate m NoEntry)
wanted_padded (Fixed n) es m = refl
wanted_padded Open es m = refl
wanted_padded (Counted k mask shift) es m = ap (λ (e : Earlier). by_entry mask shift (cond (ltb k 256) e NoEntry)) (padded es m k)

-- ---- the entries of a walk, over the entries of the definition that it has passed and the outer rows
abbrev pub Kept : Offsets → List Entry → List Earlier → List Row → Type 0
Kept Answered done es tops = es ≡ map entry_in tops
Kept Position done es tops = es ≡ slots done tops

module _ (low : ℕ) (done : List Entry) (es : List Earlier) (tops : List Row) (passed : Passed low done) where
  -- a Q that exists, and its row
  pub kept_own : (o : Offsets) (q : Parameter) (own : Row) (e : Earlier) → Kept o done es tops → Under low tops → low ≤ q.line
      → own.line ≡ q.line
      → entry_in own ≡ e → Kept o (done ++ (single q ∷ [])) (es ++ (e ∷ [])) (tops ++ (own ∷ []))
  kept_own Answered q own e kept under h on is = (λ i. kept i ++ (sym is i ∷ [])) ∙ sym (map-append entry_in tops (own ∷ []))
  kept_own Position q own e kept under h on is =
      let front : slots done (tops ++ (own ∷ [])) ≡ slots done tops = slots-other low q.line done tops (own ∷ []) passed h (on, tt) in
      let here : slot_at q.line (own ∷ []) ≡ e = rw (eq-eqb own.line q.line on) is in
      let last : slot_at q.line (tops ++ (own ∷ [])) ≡ e = slot_behind low q.line tops (own ∷ []) under h ∙ here in
      (λ i. kept i ++ (e ∷ [])) ∙ (λ i. sym front i ++ (sym last i ∷ [])) ∙ sym (slots-append done (single q ∷ []) (tops ++ (own ∷ [])))

  -- a Q that does not exist
  pub kept-none : (o : Offsets) (q : Parameter) → Kept o done es tops → Under low tops → low ≤ q.line
      → Kept o (done ++ (single q ∷ [])) (es ++ unvalued o 0) tops
  kept-none Answered q kept under h = append-nil es ∙ kept
  kept-none Position q kept under h =
      let none : slot_at q.line tops ≡ NoEntry = slot_none low q.line tops under h in
      (λ i. kept i ++ (sym none i ∷ [])) ∙ sym (slots-append done (single q ∷ []) tops)

  -- a group, and the rows of its repetitions
  pub kept_group : (o : Offsets) (line : ℕ) (g : Group) (qs : List Parameter) (times : ℕ) (reps : List Row) → Kept o done es tops → low ≤ line
      → map entry_in reps ≡ replicate times NoValue → OnLine line reps
      → Kept o (done ++ (repeated line g qs ∷ [])) (es ++ unvalued o times) (tops ++ reps)
  kept_group Answered line g qs times reps kept h are on = (λ i. kept i ++ sym are i) ∙ sym (map-append entry_in tops reps)
  kept_group Position line g qs times reps kept h are on =
      let front : slots done (tops ++ reps) ≡ slots done tops = slots-other low line done tops reps passed h on in
      (λ i. kept i ++ (NoEntry ∷ [])) ∙ (λ i. sym front i ++ (NoEntry ∷ [])) ∙ sym (slots-append done (repeated line g qs ∷ []) (tops ++ reps))

  -- an offset finds among the entries by position what it finds among all that there will be
  pub kept-found : (ds : List Entry) (rule : Rule) → es ≡ slots done tops → Lined low ds → Under low tops
      → wanted rule es ≡ wanted rule (slots (done ++ ds) tops)
  kept-found ds rule kept lined under =
      let rest : slots ds tops ≡ replicate (length ds) NoEntry = slots-none low ds tops lined under in
      let all : es ++ replicate (length ds) NoEntry ≡ slots (done ++ ds) tops = (λ i. kept i ++ sym rest i) ∙ sym (slots-append done ds tops) in
      wanted_padded rule es (length ds) ∙ ap (wanted rule) all

-- ---- the entries of a definition stand on rising lines
lined_later : (n : ℕ) (ds : List Entry) → Lined (suc n) ds → Lined n ds
lined_later n [] h = tt
lined_later n (single q ∷ ds) h = (omega (arith, h.0), h.1)
lined_later n (repeated line g qs ∷ ds) h = (omega (arith, h.0), h.1)

pub entries_lined : (n : ℕ) (rs : List Record) → Lined n (entries_at n rs)
entries_lined n [] = tt
entries_lined n (param q ∷ rs) = go (eqb q.level 0) (entries_lined (suc n) rs)
  where
    go : (b : Bool) → Lined (suc n) (entries_at (suc n) rs)
        → Lined n (cond b (single (record { line = n; says = q; items = under (numbered (suc n) rs) }) ∷ entries_at (suc n) rs) (entries_at (suc n) rs))
    go true h = (omega arith, h)
    go false h = lined_later n (entries_at (suc n) rs) h
entries_lined n (group g ∷ rs) = (omega arith, entries_lined (suc n) rs)
entries_lined n (item d ∷ rs) = lined_later n (entries_at (suc n) rs) (entries_lined (suc n) rs)
