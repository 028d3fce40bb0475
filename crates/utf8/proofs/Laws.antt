-- Laws on the first piece of bytes. Assumes nothing.
use mathlib.Core.Path.{◌≡◌, refl, sym, ap}
use mathlib.Core.Bool.{Bool, true, false, ◌&&◌, ◌||◌}
use mathlib.Core.List.{List, [], ◌∷◌}
use Prim.Native.Nat.{ℕ, zero, suc, ◌+◌, ◌-◌, ◌≤◌, ◌<◌, max}
use native.Mathlib.Omega.{arith}
use native.Mathlib.Numerals.{add-one}
use native.Mathlib.Decide.{ℕ_discrete as dec_eq}
use lib.Dec.{leb, eqb}
use lib.ListN.{length, get_or, take, drop}
use lib.Seq.{take_all}
use borrow.Author.Tests.{le-leb, lt-leb, eq-eqb, ne_eqb, leb-true}
use Rattle.laws.proofs.Bools.{and_left, and_right}
use Rattle.laws.proofs.Lists.{next, done}
use Rattle.utf8.specs.declared.Lead.{Lead}
use Rattle.utf8.specs.Table.{Row, table, within, fits, fits_one, agree, longest, begins, cut}
use Rattle.utf8.specs.Lead.{rest, tails, told}
use Rattle.std.specs.Prelude.{Option, Some, None}

pub and_false : (b : Bool) → b && false ≡ false
and_false true = refl
and_false false = refl

or_false : (b : Bool) → b || false ≡ b
or_false true = refl
or_false false = refl

-- ---- rows whose first bytes lie apart and rise
abbrev pub apart : ℕ → List Row → Bool
apart lo [] = true
apart lo ([] ∷ rows) = false
apart lo ((r ∷ rs) ∷ rows) = (leb lo r.0 && leb r.0 r.1) && apart (suc r.1) rows

record Rising (lo : ℕ) (r : ℕ × ℕ) (rows : List Row) : Type 0 where
  from_lo : lo ≤ r.0
  to_most : r.0 ≤ r.1
  then : apart (suc r.1) rows ≡ true

rising : (lo : ℕ) (r : ℕ × ℕ) (rs : Row) (rows : List Row) → apart lo ((r ∷ rs) ∷ rows) ≡ true → Rising lo r rows
rising lo r rs rows a =
    let o : leb lo r.0 && leb r.0 r.1 ≡ true = and_left (leb lo r.0 && leb r.0 r.1) (apart (suc r.1) rows) a in
    record {
      from_lo = leb-true lo r.0 (and_left (leb lo r.0) (leb r.0 r.1) o);
      to_most = leb-true r.0 r.1 (and_right (leb lo r.0) (leb r.0 r.1) o);
      then = and_right (leb lo r.0 && leb r.0 r.1) (apart (suc r.1) rows) a;
    }

record Low (rows : List Row) (x : ℕ) (xs : List ℕ) : Type 0 where
  rest_is : rest rows x ≡ None
  size_is : longest rows (x ∷ xs) ≡ 0
  well_is : begins rows (x ∷ xs) ≡ false
  form_is : fits_one rows (x ∷ xs) ≡ false

-- below them all no row begins
low : (rows : List Row) (lo x : ℕ) (xs : List ℕ) → apart lo rows ≡ true → x < lo → Low rows x xs
low [] lo x xs a h = record { rest_is = refl; size_is = refl; well_is = refl; form_is = refl }
low ([] ∷ rows) lo x xs a h = absurd (let z : ◌≡◌ {A = ℕ} 0 1 = cc in omega arith)
low ((r ∷ rs) ∷ rows) lo x xs a h =
    let g : Rising lo r rows = rising lo r rs rows a in
    let i : Low rows x xs = low rows (suc r.1) x xs g.then (omega arith) in
    let w : leb r.0 x ≡ false = lt-leb r.0 x (omega arith) in
    let z : eqb 0 (suc (length rs)) ≡ false = ne_eqb 0 (suc (length rs)) (λ e. omega arith) in
    record {
      rest_is = rw (w, and_false) i.rest_is;
      size_is = rw (w, and_false, i.size_is);
      well_is = rw (w, and_false, z) i.well_is;
      form_is = rw (w, and_false) i.form_is;
    }

-- what the first byte says decides the first piece
abbrev pub size_by : Option Row → List ℕ → ℕ
size_by None xs = 0
size_by (Some rs) xs = suc (agree rs xs)

abbrev pub well_by : Option Row → List ℕ → Bool
well_by None xs = false
well_by (Some rs) xs = eqb (suc (agree rs xs)) (suc (length rs))

abbrev pub form_by : Option Row → List ℕ → Bool
form_by None xs = false
form_by (Some rs) xs = fits rs xs

pub record Led (rows : List Row) (x : ℕ) (xs : List ℕ) : Type 0 where
  pub size_by_lem : longest rows (x ∷ xs) ≡ size_by (rest rows x) xs
  pub well_by_lem : begins rows (x ∷ xs) ≡ well_by (rest rows x) xs
  pub form_by_lem : fits_one rows (x ∷ xs) ≡ form_by (rest rows x) xs

led : (rows : List Row) (lo x : ℕ) (xs : List ℕ) → apart lo rows ≡ true → Led rows x xs
led [] lo x xs a = record { size_by_lem = refl; well_by_lem = refl; form_by_lem = refl }
led ([] ∷ rows) lo x xs a = absurd (let z : ◌≡◌ {A = ℕ} 0 1 = cc in omega arith)
led ((r ∷ rs) ∷ rows) lo x xs a =
    let g : Rising lo r rows = rising lo r rs rows a in
    go (within r x) refl g.then (led rows (suc r.1) x xs g.then)
  where
    go : (t : Bool) → within r x ≡ t → apart (suc r.1) rows ≡ true → Led rows x xs → Led ((r ∷ rs) ∷ rows) x xs
    go true w b i =
        let u : x ≤ r.1 = leb-true _ _ (and_left (leb x r.1) (leb r.0 x) w) in
        let n : Low rows x xs = low rows (suc r.1) x xs b (omega arith) in
        record { size_by_lem = rw (w, n.size_is) (omega arith); well_by_lem = rw (w, n.well_is, or_false); form_by_lem = rw (w, n.form_is, or_false) }
    go false w b i =
        let z : eqb 0 (suc (length rs)) ≡ false = ne_eqb 0 (suc (length rs)) (λ e. omega arith) in
        record { size_by_lem = rw w (omega (arith, i.size_by_lem)); well_by_lem = rw (w, z) i.well_by_lem; form_by_lem = rw w i.form_by_lem }

pub by_lead : (x : ℕ) (xs : List ℕ) → Led table x xs
by_lead x xs = led table 0 x xs refl

-- ---- what a first byte says of the others
abbrev first_of : Row → ℕ × ℕ
first_of [] = (1, 0)
first_of (r ∷ rs) = r

abbrev others_of : Row → Row
others_of [] = []
others_of (r ∷ rs) = rs

-- a byte that begins row n is no less than the first that begins one, and has to be followed as row n says
record Begun (rows : List Row) (lo x n : ℕ) : Type 0 where
  above : lo ≤ x
  others : rest rows x ≡ Some (others_of (get_or rows n []))

begun : (rows : List Row) (lo x n : ℕ) → apart lo rows ≡ true → (first_of (get_or rows n [])).0 ≤ x → x ≤ (first_of (get_or rows n [])).1
    → Begun rows lo x n
begun [] lo x n a l u = absurd (omega arith)
begun ([] ∷ rows) lo x n a l u = absurd (let z : ◌≡◌ {A = ℕ} 0 1 = cc in omega arith)
begun ((r ∷ rs) ∷ rows) lo x zero a l u =
    let g : Rising lo r rows = rising lo r rs rows a in
    record { above = omega arith; others = rw (le-leb x r.1 u, le-leb r.0 x l) }
begun ((r ∷ rs) ∷ rows) lo x (suc n) a l u =
    let g : Rising lo r rows = rising lo r rs rows a in
    let i : Begun rows (suc r.1) x n = begun rows (suc r.1) x n g.then l u in
    record { above = omega arith; others = rw (lt-leb x r.1 (omega arith)) i.others }

module _ (b : ℕ) where
  row : (n : ℕ) → (first_of (get_or table n [])).0 ≤ b → b ≤ (first_of (get_or table n [])).1 → rest table b ≡ Some (others_of (get_or table n []))
  row n l u = (begun table 0 b n refl l u).others

  pub lead_00 : b ≤ 0x7f → rest table b ≡ told (Some (record { more = 0; low = 0x80; high = 0xbf }))
  lead_00 u = row 0 (omega arith) u

  pub lead_80 : 0x7f < b → b < 0xc2 → rest table b ≡ told None
  lead_80 l u = rw (lt-leb b 0x7f l) (low (drop 1 table) 0xc2 b [] refl u).rest_is

  pub lead_c2 : 0xc2 ≤ b → b ≤ 0xdf → rest table b ≡ told (Some (record { more = 1; low = 0x80; high = 0xbf }))
  lead_c2 l u = row 1 (omega arith) u

  pub lead_e0 : 0xdf < b → b ≤ 0xe0 → rest table b ≡ told (Some (record { more = 2; low = 0xa0; high = 0xbf }))
  lead_e0 l u = row 2 (omega arith) u

  pub lead_e1 : 0xe0 < b → b ≤ 0xec → rest table b ≡ told (Some (record { more = 2; low = 0x80; high = 0xbf }))
  lead_e1 l u = row 3 (omega arith) u

  pub lead_ed : 0xec < b → b ≤ 0xed → rest table b ≡ told (Some (record { more = 2; low = 0x80; high = 0x9f }))
  lead_ed l u = row 4 (omega arith) u

  pub lead_ee : 0xed < b → b ≤ 0xef → rest table b ≡ told (Some (record { more = 2; low = 0x80; high = 0xbf }))
  lead_ee l u = row 5 (omega arith) u

  pub lead_f0 : 0xef < b → b ≤ 0xf0 → rest table b ≡ told (Some (record { more = 3; low = 0x90; high = 0xbf }))
  lead_f0 l u = row 6 (omega arith) u

  pub lead_f1 : 0xf0 < b → b ≤ 0xf3 → rest table b ≡ told (Some (record { more = 3; low = 0x80; high = 0xbf }))
  lead_f1 l u = row 7 (omega arith) u

  pub lead_f4 : 0xf3 < b → b ≤ 0xf4 → rest table b ≡ told (Some (record { more = 3; low = 0x80; high = 0x8f }))
  lead_f4 l u = row 8 (omega arith) u

  pub lead_f5 : 0xf4 < b → rest table b ≡ told None
  lead_f5 l = rw (
    lt-leb b 0x7f (omega arith),
    lt-leb b 0xdf (omega arith),
    lt-leb b 0xe0 (omega arith),
    lt-leb b 0xec (omega arith),
    lt-leb b 0xed (omega arith),
    lt-leb b 0xef (omega arith),
    lt-leb b 0xf0 (omega arith),
    lt-leb b 0xf3 (omega arith),
    lt-leb b 0xf4 (omega arith),
  )

pub ruleset lead_laws = (lead_00, lead_80, lead_c2, lead_e0, lead_e1, lead_ed, lead_ee, lead_f0, lead_f1, lead_f4, lead_f5)

-- ---- how many bytes fit what a first byte says
agree_nil : (rs : Row) → agree rs [] ≡ 0
agree_nil [] = refl
agree_nil (r ∷ rs) = refl

-- not among the laws: its right side holds its left
pub fit_start : (s : List ℕ) (n lo hi : ℕ) → agree (tails n lo hi) s ≡ 0 + agree (tails (n - 0) lo hi) s
fit_start s n lo hi = let z : n - 0 ≡ n = omega arith in rw z (omega arith)

module _ (s : List ℕ) (n lo hi low high k : ℕ) (inv : agree (tails n lo hi) s ≡ k + agree (tails (n - k) low high) (drop k s)) where
  one_less : k < n → n - k ≡ suc (n - (k + 1))
  one_less h = omega arith

  pub fit_end : length s ≤ k → k ≡ agree (tails n lo hi) s
  fit_end h = rw (inv, done s k h, agree_nil) (omega arith)

  pub fit_low : k < n → k < length s → get_or s k 0 < low → k ≡ agree (tails n lo hi) s
  fit_low m h l = rw (inv, next s k h, one_less m, lt-leb _ _ l, and_false) (omega arith)

  pub fit_high : k < n → k < length s → high < get_or s k 0 → k ≡ agree (tails n lo hi) s
  fit_high m h u = rw (inv, next s k h, one_less m, lt-leb _ _ u) (omega arith)

  pub fit_more : k < n → k < length s → low ≤ get_or s k 0 → get_or s k 0 ≤ high
      → agree (tails n lo hi) s ≡ k + 1 + agree (tails (n - (k + 1)) 0x80 0xbf) (drop (k + 1) s)
  fit_more m h l u = rw (inv, next s k h, one_less m, le-leb _ _ u, le-leb _ _ l) (omega arith)

  pub fit_all : n ≤ k → k ≡ agree (tails n lo hi) s
  fit_all h = let z : n - k ≡ 0 = omega arith in rw (inv, z) (omega arith)

pub ruleset fit_laws = (fit_end, fit_low, fit_high, fit_more, fit_all)

-- ---- the first piece
length-tails : (n lo hi : ℕ) → length (tails n lo hi) ≡ n
length-tails zero lo hi = refl
length-tails (suc n) lo hi = ap suc (length-tails n 0x80 0xBF)

pub cut-never : (s : List ℕ) (r : Option Lead) → 1 ≤ length s → rest table (get_or s 0 0) ≡ told r → r ≡ None
    → record { size = 1; well = false } ≡ cut s
unfolding cut
cut-never [] r n t e = absurd (omega arith)
cut-never (x ∷ xs) r n t e =
    let q : rest table x ≡ None = rw e at t in
    rw ((by_lead x xs).size_by_lem, (by_lead x xs).well_by_lem, q)

-- the first piece of a byte that begins a row, by how many bytes behind it fit
pub cut_some : (x : ℕ) (xs : List ℕ) (rs : Row) → rest table x ≡ Some rs
    → cut (x ∷ xs) ≡ record { size = suc (agree rs xs); well = eqb (suc (agree rs xs)) (suc (length rs)) }
unfolding cut
cut_some x xs rs q =
    let m : max 1 (suc (agree rs xs)) ≡ suc (agree rs xs) = omega arith in
    rw ((by_lead x xs).size_by_lem, (by_lead x xs).well_by_lem, q, m)

same_next : (k n : ℕ) → eqb (suc k) (suc n) ≡ eqb k n
same_next k n = go (dec_eq k n)
  where
    go : Dec (k ≡ n) → eqb (suc k) (suc n) ≡ eqb k n
    go (yes e) = rw (eq-eqb k n e, eq-eqb (suc k) (suc n) (ap suc e)) refl
    go (no h) = rw (ne_eqb k n h, ne_eqb (suc k) (suc n) (λ z. h (omega arith))) refl

pub cut-told : (s : List ℕ) (r : Option Lead) (l : Lead) (k : ℕ) → rest table (get_or s 0 0) ≡ told r → r ≡ Some l
    → k ≡ agree (tails l.more l.low l.high) (take (length s - 1) (drop 1 s)) → 1 ≤ length s
    → record { size = k + 1; well = eqb k l.more } ≡ cut s
cut-told [] r l k t e f h = absurd (omega arith)
cut-told (x ∷ xs) r l k t e f h =
    let q : rest table x ≡ Some (tails l.more l.low l.high) = rw e at t in
    let a : agree (tails l.more l.low l.high) xs ≡ k = rw (take_all (length (x ∷ xs) - 1) xs (omega arith)) at (sym f) in
    rw (cut_some x xs (tails l.more l.low l.high) q, a, length-tails, add-one, same_next)

pub ruleset laws = (lead_laws, fit_laws, cut-never, cut-told)
