-- Laws of the entries that are kept. Assumes nothing.
use mathlib.Core.Path.{◌≡◌, refl, sym, ap, ◌∙◌}
use mathlib.Core.List.{List, [], ◌∷◌, ◌++◌, append-nil, append_assoc}
use Prim.Native.Nat.{ℕ, zero, suc, ◌+◌, ◌-◌, ◌≤◌, ◌<◌}
use native.Mathlib.Nat.{add-zero}
use native.Mathlib.Numerals.{add-one}
use native.Mathlib.Decide.{dec_le, dec_lt}
use native.Mathlib.Omega.{arith}
use lib.ListN.{length, get_or, take, drop, set, replicate, length-append, length-set, length-map, get_or-replicate}
use lib.Seq.{take_all, length-take-le, take-suc-set, drop-set-lt, drop-drop, set_out, set-get_or, get_or-drop, take-append-le}
use borrow.Author.Tests.{le-leb, lt-leb}
use Rattle.command_lengths.specs.Entries.{earlier, entries}
use Rattle.command_rules.specs.Lengths.{least}
use Rattle.command_rules.specs.declared.Earlier.{Earlier}
use Rattle.command_rules.specs.declared.Earlier.TheVariants.{NoValue, NoEntry}
use Rattle.command_rules.specs.declared.Offsets.{Offsets}
use Rattle.command_rules.specs.declared.Offsets.TheVariants.{Answered, Position}
use Rattle.command_rules.specs.Walk.{unvalued}
use Rattle.command_groups.specs.Steps.{unvalued_kept, unvalued_have}

-- the entries so far are es: of them the first 256 are kept
pub record Kept (kept : List ℕ) (have : ℕ) (es : List Earlier) : Type 0 where
  pub size : length kept ≡ 256
  pub most : have ≤ 256
  pub firsts : entries (take have kept) ≡ take 256 es

-- the places after them say that there is no value
pub record Free (kept : List ℕ) (have : ℕ) : Type 0 where
  pub others : drop have kept ≡ replicate (256 - have) 256

-- what `&kept[..have]` asks
pub kept-part : (kept : List ℕ) (es : List Earlier) (have : ℕ) → Kept kept have es → have ≡ length (take have kept)
kept-part kept es have g = let m = g.most in let z = g.size in sym (length-take-le have kept (omega arith))

-- while there is room, all are kept
kept-count : (kept : List ℕ) (es : List Earlier) (have : ℕ) → Kept kept have es → (have < 256 → length es ≡ have)
    × (256 ≤ have → 256 ≤ length es)
kept-count kept es have g = go (dec_le 256 (length es))
  where
    both : have ≡ length (take 256 es)
    both = kept-part kept es have g ∙ sym (length-map (take have kept) earlier) ∙ ap length g.firsts

    go : Dec (256 ≤ length es) → (have < 256 → length es ≡ have) × (256 ≤ have → 256 ≤ length es)
    go (yes h) = let e : have ≡ 256 = both ∙ length-take-le 256 es h in ((λ l. absurd (omega arith)), (λ l. h))
    go (no h) = let e : have ≡ length es = both ∙ ap length (take_all 256 es (omega arith)) in ((λ l. sym e), (λ l. absurd (omega arith)))

pub least_small : (a b : ℕ) → a ≤ b → least a b ≡ a
least_small a b h = rw (le-leb a b h)

pub least_large : (a b : ℕ) → b < a → least a b ≡ b
least_large a b h = rw (lt-leb a b h)

least_top : (a b : ℕ) → b ≤ a → least a b ≡ b
least_top a b h = go (dec_le a b)
  where
    go : Dec (a ≤ b) → least a b ≡ b
    go (yes l) = least_small a b l ∙ omega arith
    go (no l) = least_large a b (omega arith)

entries-append : (xs ys : List ℕ) → entries (xs ++ ys) ≡ entries xs ++ entries ys
entries-append [] ys = refl
entries-append (x ∷ xs) ys = ap (λ (l : List Earlier). earlier x ∷ l) (entries-append xs ys)

-- one entry more
pub kept_push : (kept : List ℕ) (es : List Earlier) (have e : ℕ) (x : Earlier) → earlier e ≡ x → Kept kept have es
    → Kept (set kept have e) (least (have + 1) 256) (es ++ (x ∷ []))
kept_push kept es have e x ex g = go (dec_lt have 256)
  where
    go : Dec (have < 256) → Kept (set kept have e) (least (have + 1) 256) (es ++ (x ∷ []))
    go (yes h) =
        let z = g.size in
        let one : length es ≡ have = (kept-count kept es have g).0 h in
        let all : take 256 es ≡ es = take_all 256 es (omega arith) in
        let sum : length (es ++ (x ∷ [])) ≤ 256 = rw length-append (omega arith) in
        let front : take (have + 1) (set kept have e) ≡ take have kept ++ (e ∷ []) = rw add-one (take-suc-set kept have e (omega arith)) in
        rw (least_small (have + 1) 256 (omega arith))
        (record {
          size = length-set kept have e ∙ z;
          most = omega arith;
          firsts = rw (front, entries-append (take have kept) (e ∷ []), g.firsts, all, take_all 256 (es ++ (x ∷ [])) sum, ← ex) refl;
        })
    go (no h) =
        let z = g.size in
        let m = g.most in
        let full : have ≡ 256 = omega arith in
        let long : 256 ≤ length es = (kept-count kept es have g).1 (omega arith) in
        rw (least_large (have + 1) 256 (omega arith), set_out kept have e (omega arith))
        (record { size = z; most = omega arith; firsts = rw (take-append-le 256 es (x ∷ []) long) (rw full at g.firsts) })

pub free_push : (kept : List ℕ) (es : List Earlier) (have e : ℕ) → Kept kept have es → Free kept have → Free (set kept have e) (least (have + 1) 256)
free_push kept es have e g f = go (dec_lt have 256)
  where
    go : Dec (have < 256) → Free (set kept have e) (least (have + 1) 256)
    go (yes h) =
        let z = g.size in
        let next : 256 - have ≡ suc (256 - (have + 1)) = omega arith in
        let back : drop (have + 1) (set kept have e) ≡ drop 1 (drop have kept) =
        drop-set-lt (have + 1) kept have e (omega arith) ∙ sym (drop-drop 1 have kept) in
        rw (least_small (have + 1) 256 (omega arith)) (record { others = rw (back, f.others, next) refl })
    go (no h) =
        let z = g.size in
        let m = g.most in
        let full : have ≡ 256 = omega arith in
        rw (least_large (have + 1) 256 (omega arith), set_out kept have e (omega arith)) (record { others = rw full at f.others })

-- an entry without value changes no place
none-same : (kept : List ℕ) (es : List Earlier) (have : ℕ) → Kept kept have es → Free kept have → set kept have 256 ≡ kept
none-same kept es have g f = go (dec_lt have 256)
  where
    go : Dec (have < 256) → set kept have 256 ≡ kept
    go (yes h) =
        let v : get_or kept have 0 ≡ 256 = rw (add-zero, f.others) at (sym (get_or-drop have kept 0 0)) ∙ get_or-replicate (256 - have) 0 256 0 (omega arith) in
        rw v at (set-get_or kept have 0)
    go (no h) = let z = g.size in set_out kept have 256 (omega arith)

pub record KeptFree (kept : List ℕ) (have : ℕ) (es : List Earlier) : Type 0 where
  pub kept_are : Kept kept have es
  pub free : Free kept have

-- as many entries without value
pub kept-none : (kept : List ℕ) (es : List Earlier) (have times : ℕ) → KeptFree kept have es
    → KeptFree kept (least (have + times) 256) (es ++ replicate times NoValue)
kept-none kept es have zero g = let m = g.kept_are.most in rw (add-zero, append-nil, least_small have 256 m) g
kept-none kept es have (suc times) g =
    let same_kept : set kept have 256 ≡ kept = none-same kept es have g.kept_are g.free in
    let one : Kept kept (least (have + 1) 256) (es ++ (NoValue ∷ [])) = rw same_kept at (kept_push kept es have 256 NoValue refl g.kept_are) in
    let free_one : Free kept (least (have + 1) 256) = rw same_kept at (free_push kept es have 256 g.kept_are g.free) in
    let more = kept-none kept (es ++ (NoValue ∷ [])) (least (have + 1) 256) times (record { kept_are = one; free = free_one }) in
    let same : least (least (have + 1) 256 + times) 256 ≡ least (have + suc times) 256 = go (dec_lt have 256) in
    rw (← same) (rw append_assoc at more)
  where
    go : Dec (have < 256) → least (least (have + 1) 256 + times) 256 ≡ least (have + suc times) 256
    go (yes h) = let e : have + 1 + times ≡ have + suc times = omega arith in rw (least_small (have + 1) 256 (omega arith), e) refl
    go (no h) =
        let m = g.kept_are.most in
        rw (least_top (have + 1) 256 (omega arith), least_top (256 + times) 256 (omega arith), least_top (have + suc times) 256 (omega arith)) refl

-- what an absent Q or a group adds
pub kept-unvalued : (offsets : Offsets) (kept : List ℕ) (es : List Earlier) (have times : ℕ) → KeptFree kept have es
    → KeptFree (unvalued_kept offsets kept have) (unvalued_have offsets have times) (es ++ unvalued offsets times)
kept-unvalued Answered kept es have times g = kept-none kept es have times g
kept-unvalued Position kept es have times g =
    record { kept_are = kept_push kept es have 257 NoEntry refl g.kept_are; free = free_push kept es have 257 g.kept_are g.free }

-- at the start
pub kept-start : (kept : List ℕ) → length kept ≡ 256 → Kept kept 0 []
kept-start kept h = record { size = h; most = omega arith; firsts = refl }

pub free_start : Free (replicate {A = ℕ} 256 256) 0
free_start = record { others = refl }

-- ---- keep, keep_repetitions
pub keep_more : (have : ℕ) → have < 256 → have + 1 ≡ least (have + 1) 256
keep_more have h = sym (least_small (have + 1) 256 (omega arith))

pub keep_full : (have : ℕ) → have ≤ 256 → 256 ≤ have → have ≡ least (have + 1) 256
keep_full have m h = rw (least_large (have + 1) 256 (omega arith)) (omega arith)

pub keep_same : (kept : List ℕ) (have e : ℕ) → length kept ≡ 256 → 256 ≤ have → kept ≡ set kept have e
keep_same kept have e z h = sym (set_out kept have e (omega arith))

pub times_fit : (have times : ℕ) → have ≤ 256 → times ≤ 256 - have → have + times ≡ least (have + times) 256
times_fit have times m h = sym (least_small (have + times) 256 (omega arith))

pub times-over : (have times : ℕ) → have ≤ 256 → 256 - have < times → 256 ≡ least (have + times) 256
times-over have times m h = sym (least_large (have + times) 256 (omega arith))

module _ (offsets : Offsets) (kept : List ℕ) (have times r : ℕ) where
  pub unvalued-answered : offsets ≡ Answered → r ≡ least (have + times) 256 → r ≡ unvalued_have offsets have times
  unvalued-answered e is = rw e is

  pub unvalued-answered-kept : offsets ≡ Answered → kept ≡ unvalued_kept offsets kept have
  unvalued-answered-kept e = rw e refl

  pub unvalued_position : offsets ≡ Position → r ≡ least (have + 1) 256 → r ≡ unvalued_have offsets have times
  unvalued_position e is = rw e is

  pub unvalued_position_kept : (kept' : List ℕ) → offsets ≡ Position → kept' ≡ set kept have 257 → kept' ≡ unvalued_kept offsets kept have
  unvalued_position_kept kept' e is = rw e is

pub ruleset unvalued_laws = (unvalued-answered, unvalued-answered-kept, unvalued_position, unvalued_position_kept)

pub ruleset keep_laws = (keep_more, keep_full, keep_same, times_fit, times-over)
