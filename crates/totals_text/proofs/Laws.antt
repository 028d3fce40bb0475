-- Laws of totals as text. Assumes nothing.
use mathlib.Core.Path.{◌≡◌, refl, sym, ◌∙◌}
use mathlib.Core.Bool.{cond}
use mathlib.Core.List.{List, [], ◌∷◌, ◌++◌, append_assoc, append-nil}
use Prim.Native.Nat.{ℕ, suc, ◌+◌, ◌-◌, ◌*◌, ◌/◌, ◌%◌, ◌≤◌, ◌<◌}
use native.Mathlib.Numerals.{add-one}
use native.Mathlib.Omega.{arith}
use lib.Dec.{eqb}
use lib.ListN.{length, get_or, take, drop, length-append, length-take}
use lib.Seq.{sets, length-sets, length-take-le, get_or-take}
use borrow.Author.Tests.{eq-eqb, ne_eqb}
use Rattle.laws.proofs.Lists.{next, done}
use Rattle.buffer.specs.Buffer.{Writes}
use Rattle.buffer.proofs.Laws.{sets-append, writes_short, writes_room}
use Rattle.refusal.specs.declared.Refusal.TheVariants.{MoreBytes}
use Rattle.numerals.specs.Numerals.{room, decimal, Spells}
use Rattle.numerals.proofs.Laws.{digits_are}
use Rattle.totals.specs.Totals.{size, wrong_at}
use Rattle.totals_text.specs.Text.{item, space, ended, key_word, wrong_word, beams_word, repeats_word, bytes_word, refused_word, key_line, key_lines}
use Rattle.totals_text.specs.Text.{refused_line, sum_lines, refused_lines, text_of}
use Rattle.totals_text.specs.Steps.{Appends}
use Rattle.std.specs.Prelude.{Ok, Err}

-- ---- bytes
module _ (l b : List ℕ) (at : ℕ) (few : length l ≤ room) where
  pub append-none : length b < at + length l → Appends room l b at (at + length l) b
  append-none h = record { next = refl; short = few; fill = λ fits. absurd (omega arith); same = refl }

  pub append-all : (b' : List ℕ) → b' ≡ sets b at l → Appends room l b at (at + length l) b'
  append-all b' e = record { next = refl; short = few; fill = λ fits. e; same = rw e (length-sets b at l) }

-- ---- one after the other
pub appends_both : (j k : ℕ) (l m b b₁ b₂ : List ℕ) (at r q : ℕ) → Appends j l b at r b₁ → Appends k m b₁ r q b₂
    → Appends (j + k) (l ++ m) b at q b₂
appends_both j k l m b b₁ b₂ at r q x y =
    let n : length (l ++ m) ≡ length l + length m = length-append l m in
    record {
      next = omega (arith, x.next, y.next);
      short = omega (arith, x.short, y.short);
      fill = λ fits.
          let first : b₁ ≡ sets b at l = x.fill (omega arith) in
          let second : b₂ ≡ sets b₁ r m = y.fill (omega (arith, x.next, x.same)) in
          second ∙ rw (first, x.next) (sym (sets-append b at l m));
      same = y.same ∙ x.same;
    }

appends_none : (b : List ℕ) (at : ℕ) → Appends 0 [] b at at b
appends_none b at = record { next = omega arith; short = omega arith; fill = λ fits. refl; same = refl }

appends_within : (j k : ℕ) (l b b' : List ℕ) (at r : ℕ) → Appends j l b at r b' → j ≤ k → Appends k l b at r b'
appends_within j k l b b' at r x h = record { next = x.next; short = omega (arith, x.short); fill = x.fill; same = x.same }

-- where the next is written
pub append-low : (j : ℕ) (l b b' : List ℕ) (at r : ℕ) → Appends j l b at r b' → r ≤ at + j
append-low j l b b' at r x = omega (arith, x.next, x.short)

-- ---- numbers
module _ (n at₀ : ℕ) (out : List ℕ) (spells : Spells 2 (decimal n) at₀ out) where
  abbrev digits : List ℕ
  digits = take (room - at₀) (drop at₀ out)

  pub digits_few : length digits ≤ room
  digits_few = omega (arith, length-take (room - at₀) (drop at₀ out))

  pub number-written : (stop at r q : ℕ) (b b₁ b₂ : List ℕ) → Appends room digits b at r b₁ → Appends room (stop ∷ []) b₁ r q b₂
      → Appends (2 * room) (item [] n stop) b at q b₂
  number-written stop at r q b b₁ b₂ x y =
      appends_both room room (decimal n) (stop ∷ []) b b₁ b₂ at r q (rw (digits_are 2 (decimal n) at₀ out spells) at x) y

pub item-written : (word : List ℕ) (n stop at r q : ℕ) (b b₁ b₂ : List ℕ) → Appends room word b at r b₁
    → Appends (2 * room) (item [] n stop) b₁ r q b₂ → Appends (3 * room) (item word n stop) b at q b₂
item-written word n stop at r q b b₁ b₂ x y = appends_both 22 44 word (item [] n stop) b b₁ b₂ at r q x y

-- ---- the line of a count
pub key_none : (n i at : ℕ) (b : List ℕ) → n ≡ 0 → Appends (7 * room) (cond (eqb n 0) [] (key_line i n)) b at at b
key_none n i at b e = rw (eq-eqb n 0 e) (appends_within 0 154 [] b b at at (appends_none b at) (omega arith))

pub key_written : (n i at r q p : ℕ) (b b₁ b₂ b₃ : List ℕ) → Appends (3 * room) (item key_word (i / 4) space) b at r b₁
    → Appends (2 * room) (item [] (i % 4) space) b₁ r q b₂ → Appends (2 * room) (item [] n ended) b₂ q p b₃ → (n ≡ 0 → ⊥)
    → Appends (7 * room) (cond (eqb n 0) [] (key_line i n)) b at p b₃
key_written n i at r q p b b₁ b₂ b₃ x y z some =
    rw (ne_eqb n 0 some)
    (appends_both 66 88 (item key_word (i / 4) space) (item [] (i % 4) space ++ item [] n ended) b b₁ b₃ at r p x
    (appends_both 44 44 (item [] (i % 4) space) (item [] n ended) b₁ b₂ b₃ r q p y z))

-- ---- count by count
pub record Keying (totals b₀ b : List ℕ) (at i : ℕ) : Type 0 where
  pub front : List ℕ
  pub so : key_lines 0 (take wrong_at totals) ≡ front ++ key_lines i (drop i (take wrong_at totals))
  pub wrote : Appends (154 * i) front b₀ 0 at b
  pub within : i ≤ wrong_at

pub keying_starts : (totals b : List ℕ) → Keying totals b b 0 0
keying_starts totals b = record { front = []; so = refl; wrote = appends_none b 0; within = omega arith }

module _ (totals b₀ b : List ℕ) (at i : ℕ) (inv : Keying totals b₀ b at i) (full : length totals ≡ size) where
  pub keying_low : at ≤ 200000
  keying_low = omega (arith, append-low (154 * i) inv.front b₀ b 0 at inv.wrote, inv.within)

  keys_long : length (take wrong_at totals) ≡ wrong_at
  keys_long = length-take-le wrong_at totals (omega arith)

  pub keying_more : (r : ℕ) (b' : List ℕ) → Appends (7 * room) (cond (eqb (get_or totals i 0) 0) [] (key_line i (get_or totals i 0))) b at r b'
      → i < wrong_at
      → Keying totals b₀ b' r (i + 1)
  unfolding key_lines
  keying_more r b' x h =
      let n = get_or totals i 0 in
      let line = cond (eqb n 0) [] (key_line i n) in
      let e : drop i (take wrong_at totals) ≡ n ∷ drop (i + 1) (take wrong_at totals) =
      next (take wrong_at totals) i (omega (arith, keys_long)) ∙ rw (get_or-take wrong_at totals i 0 h) refl in
      let both : Appends (154 * i + 154) (inv.front ++ line) b₀ 0 r b' = appends_both (154 * i) 154 inv.front line b₀ b b' 0 at r inv.wrote x in
      let m : 154 * i + 154 ≡ 154 * (i + 1) = omega arith in
      record {
        front = inv.front ++ line;
        so = inv.so ∙ rw (e, add-one i) (sym (append_assoc inv.front line (key_lines (suc i) (drop (suc i) (take wrong_at totals)))));
        wrote = rw m at both;
        within = omega arith;
      }

  pub keying_done : wrong_at ≤ i → Appends 157696 (key_lines 0 (take wrong_at totals)) b₀ 0 at b
  unfolding key_lines
  keying_done h =
      let i-is : i ≡ wrong_at = omega (arith, inv.within) in
      let none : drop i (take wrong_at totals) ≡ [] = done (take wrong_at totals) i (omega (arith, keys_long)) in
      let all : key_lines 0 (take wrong_at totals) ≡ inv.front = inv.so ∙ rw none (append-nil inv.front) in
      rw all (appends_within (154 * i) 157696 inv.front b₀ b 0 at inv.wrote (omega arith))

-- ---- the other lines
pub sums_written : (totals b b₁ b₂ b₃ b₄ : List ℕ) (at p q r z : ℕ) → Appends (3 * room) (item wrong_word (get_or totals 1024 0) ended) b at p b₁
    → Appends (3 * room) (item beams_word (get_or totals 1025 0) ended) b₁ p q b₂
    → Appends (3 * room) (item repeats_word (get_or totals 1026 0) ended) b₂ q r b₃
    → Appends (3 * room) (item bytes_word (get_or totals 1027 0) ended) b₃ r z b₄ → Appends (12 * room) (sum_lines totals) b at z b₄
sums_written totals b b₁ b₂ b₃ b₄ at p q r z u v x y =
    let wrong = item wrong_word (get_or totals 1024 0) ended in
    let beams = item beams_word (get_or totals 1025 0) ended in
    let repeats = item repeats_word (get_or totals 1026 0) ended in
    let bytes = item bytes_word (get_or totals 1027 0) ended in
    appends_both 66 198 wrong (beams ++ (repeats ++ bytes)) b b₁ b₄ at p z u
    (appends_both 66 132 beams (repeats ++ bytes) b₁ b₂ b₄ p q z v (appends_both 66 66 repeats bytes b₂ b₃ b₄ q r z x y))

pub refusal_written : (k n at r q : ℕ) (b b₁ b₂ : List ℕ) → Appends (3 * room) (item refused_word k space) b at r b₁
    → Appends (2 * room) (item [] n ended) b₁ r q b₂ → Appends (5 * room) (refused_line k n) b at q b₂
refusal_written k n at r q b b₁ b₂ x y = appends_both 66 44 (item refused_word k space) (item [] n ended) b b₁ b₂ at r q x y

pub refused-written : (totals b b₁ b₂ b₃ : List ℕ) (at p q r : ℕ) → Appends (5 * room) (refused_line 5 (get_or totals 1028 0)) b at p b₁
    → Appends (5 * room) (refused_line 6 (get_or totals 1029 0)) b₁ p q b₂ → Appends (5 * room) (refused_line 7 (get_or totals 1030 0)) b₂ q r b₃
    → Appends (15 * room) (refused_lines totals) b at r b₃
refused-written totals b b₁ b₂ b₃ at p q r x y z =
    let five = refused_line 5 (get_or totals 1028 0) in
    let six = refused_line 6 (get_or totals 1029 0) in
    let seven = refused_line 7 (get_or totals 1030 0) in
    appends_both 110 220 five (six ++ seven) b b₁ b₃ at p r x (appends_both 110 110 six seven b₁ b₂ b₃ p q r y z)

-- ---- all of them
pub all-written : (totals b b₁ b₂ b₃ : List ℕ) (p q r : ℕ) → Appends 157696 (key_lines 0 (take wrong_at totals)) b 0 p b₁
    → Appends (12 * room) (sum_lines totals) b₁ p q b₂ → Appends (15 * room) (refused_lines totals) b₂ q r b₃
    → Appends 158290 (text_of totals) b 0 r b₃
unfolding text_of
all-written totals b b₁ b₂ b₃ p q r x y z =
    appends_both 157696 594 (key_lines 0 (take wrong_at totals)) (sum_lines totals ++ refused_lines totals) b b₁ b₃ 0 p r x
    (appends_both 264 330 (sum_lines totals) (refused_lines totals) b₁ b₂ b₃ p q r y z)

module _ (l none none' : List ℕ) (n : ℕ) (counted : Appends 158290 l none 0 n none') where
  length_is : n ≡ length l
  length_is = omega (arith, counted.next)

  pub print-short : (b : List ℕ) → length b < n → Writes l b (Err (MoreBytes n)) b
  print-short b h = writes_short l b n length_is h

  pub print-all : (b b' : List ℕ) (m : ℕ) → Appends 158290 l b 0 m b' → n ≤ length b → Writes l b (Ok n) b'
  print-all b b' m x h = writes_room l b n length_is b' (x.fill (omega (arith, length_is))) h

pub ruleset laws = (
  append-none,
  append-all,
  append-low,
  digits_few,
  number-written,
  item-written,
  key_none,
  key_written,
  keying_starts,
  keying_low,
  keying_more,
  keying_done,
  sums_written,
  refusal_written,
  refused-written,
  all-written,
  print-short,
  print-all,
)
