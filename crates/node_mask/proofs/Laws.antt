-- One law for each way through the code. Assumes nothing.
use mathlib.Core.Path.{◌≡◌, refl, sym, ◌∙◌, ap}
use mathlib.Core.List.{List, [], ◌∷◌, ◌++◌}
use Prim.Native.Nat.{ℕ, suc, ◌+◌, ◌-◌, ◌*◌, ◌/◌, ◌%◌, ◌^◌, ◌≤◌, ◌<◌}
use native.Mathlib.Nat.{add-zero, lt_of_lt_of_le}
use native.Mathlib.Omega.{arith}
use native.Mathlib.Numerals.{add-one}
use mir.Syntax.{w64}
use mir.Val.{Fits}
use lib.Bits.{bit_and}
use lib.Count.{ones, count_trailing_zeros}
use lib.ListN.{length, get_or, take, drop, set, length-set, length-append, length-drop}
use lib.Pow.{pow_mono}
use lib.Seq.{drop-cons, drop-length, take_all, sets, length-sets, sets-eq}
use borrow.Author.Tests.{lt-ltb, le-ltb}
use Rattle.refusal.specs.declared.Refusal.TheVariants.{TooLong, MoreRows}
use Rattle.node_mask.specs.Nodes.{nodes_from, nodes_of, Lists}
use Rattle.node_mask.specs.Words.{little, nodes_in}
use Rattle.node_mask.proofs.Bits.{bits_from, bits_count, bits_none, cleared_less, Next, next}
use Rattle.node_mask.proofs.Words.{word_lt, word_nodes, part-lt}
use Rattle.node_mask.proofs.NodeLaws.{nodes_append, nodes_most, nodes_address}
use Rattle.std.specs.Prelude.{Ok, Err}

-- ---- half_word, word_of
module _ (l : List ℕ) (at a b c d : ℕ) (first : a ≡ get_or l at 0 % 256) (second : b ≡ get_or l (at + 1) 0 % 256) (third : c ≡ get_or l (at + 2) 0 % 256)
    (fourth : d ≡ get_or l (at + 3) 0 % 256) where
  pub half_is : at ≤ 4 → length l ≡ 8 → a + b * 256 + (c + d * 256) * 65536 ≡ little (take 4 (drop at l))
  unfolding little
  half_is h n =
      let s1 : suc (at + 1) ≡ at + 2 = omega arith in
      let s2 : suc (at + 2) ≡ at + 3 = omega arith in
      let s3 : suc (at + 3) ≡ at + 4 = omega arith in
      let d0 : drop at l ≡ get_or l at 0 ∷ drop (at + 1) l = rw add-one (drop-cons l at 0 (omega arith)) in
      let d1 : drop (at + 1) l ≡ get_or l (at + 1) 0 ∷ drop (at + 2) l = drop-cons l (at + 1) 0 (omega arith)
      ∙ ap (λ (x : ℕ). get_or l (at + 1) 0 ∷ drop x l) s1 in
      let d2 : drop (at + 2) l ≡ get_or l (at + 2) 0 ∷ drop (at + 3) l = drop-cons l (at + 2) 0 (omega arith)
      ∙ ap (λ (x : ℕ). get_or l (at + 2) 0 ∷ drop x l) s2 in
      let d3 : drop (at + 3) l ≡ get_or l (at + 3) 0 ∷ drop (at + 4) l = drop-cons l (at + 3) 0 (omega arith)
      ∙ ap (λ (x : ℕ). get_or l (at + 3) 0 ∷ drop x l) s3 in
      rw (d0, d1, d2, d3) (omega arith)

  pub half_lt : a + b * 256 + (c + d * 256) * 65536 < 2 ^ 32
  half_lt = omega arith

little_halves : (l : List ℕ) → little l ≡ little (take 4 l) + little (drop 4 l) * 4294967296
unfolding little
little_halves [] = refl
little_halves (a ∷ []) = omega arith
little_halves (a ∷ b ∷ []) = omega arith
little_halves (a ∷ b ∷ c ∷ []) = omega arith
little_halves (a ∷ b ∷ c ∷ d ∷ l) = omega arith

pub whole_word : (l : List ℕ) (x y : ℕ) → x ≡ little (take 4 (drop 0 l)) → y ≡ little (take 4 (drop 4 l)) → length l ≤ 8
    → x + y * 4294967296 ≡ little l
whole_word l x y low high h =
    let all : take 4 (drop 4 l) ≡ drop 4 l = take_all 4 (drop 4 l) (omega (arith, length-drop 4 l)) in
    rw (low, high, all) (sym (little_halves l))

-- ---- short_word
pub word_starts : (l : List ℕ) → 0 ≡ little (drop (length l) l)
unfolding little
word_starts l = rw (drop-length l)

pub word-ends : (l : List ℕ) (i w : ℕ) → w ≡ little (drop i l) → i ≤ 0 → w ≡ little l
word-ends l i w e h = let z : i ≡ 0 = omega arith in rw z at e

module _ (l : List ℕ) (i w : ℕ) (e : w ≡ little (drop i l)) (inside : i ≤ length l) (few : length l ≤ 8) (some : 0 < i) where
  small : w < 2 ^ 56
  small =
      let n : length (drop i l) ≡ length l - i = length-drop i l in
      rw e (lt_of_lt_of_le (word_lt (drop i l)) (pow_mono {i = 8 * length (drop i l)} {j = 56} (omega arith)))

  pub word_shifts : Fits w64 (w * 256)
  word_shifts = record { fits = omega (arith, small) }

  pub word_fits : (b : ℕ) → b ≡ get_or l (i - 1) 0 % 256 → Fits w64 (w * 256 + b)
  word_fits b is = record { fits = omega (arith, small) }

  pub word_more : (b : ℕ) → b ≡ get_or l (i - 1) 0 % 256 → w * 256 + b ≡ little (drop (i - 1) l)
  unfolding little
  word_more b is =
      let s : suc (i - 1) ≡ i = omega arith in
      let d : drop (i - 1) l ≡ get_or l (i - 1) 0 ∷ drop i l = drop-cons l (i - 1) 0 (omega arith) ∙ ap (λ (x : ℕ). get_or l (i - 1) 0 ∷ drop x l) s in
      rw (d, ← e, is)

-- ---- the nodes of a word, then those of the words behind it
split : (m : List ℕ) (at n : ℕ) → at + n ≤ length m → nodes_in m at (length m - at) ≡ nodes_in m at n ++ nodes_in m (at + n) (length m - (at + n))
split m at n h =
    let a : 8 * (length m - at) ≡ 8 * n + 8 * (length m - (at + n)) = omega arith in
    let b : 8 * at + 8 * n ≡ 8 * (at + n) = omega arith in
    rw (a, ← b) (nodes_append m (8 * at) (8 * n) (8 * (length m - (at + n))))

split-length : (m : List ℕ) (at n : ℕ) → at + n ≤ length m
    → length (nodes_in m at (length m - at)) ≡ length (nodes_in m at n) + length (nodes_in m (at + n) (length m - (at + n)))
split-length m at n h = ap length (split m at n h) ∙ length-append (nodes_in m at n) (nodes_in m (at + n) (length m - (at + n)))

all : (m : List ℕ) → nodes_in m 0 (length m - 0) ≡ nodes_of m
unfolding nodes_of
all m = let a : length m - 0 ≡ length m = omega arith in rw a

none : (m : List ℕ) (at : ℕ) → length m ≤ at → nodes_in m at (length m - at) ≡ []
unfolding nodes_from
none m at h = let a : length m - at ≡ 0 = omega arith in rw a

most : (m : List ℕ) → length (nodes_of m) ≤ 8 * length m
unfolding nodes_of
most m = nodes_most m 0 (8 * length m)

-- `&mask[at..at + n]`
part : (at n : ℕ) → at + n - at ≡ n
part at n = omega arith

ones_word : (m : List ℕ) (at n w : ℕ) → at + n ≤ length m → w ≡ little (take (at + n - at) (drop at m)) → ones w ≡ length (nodes_in m at n)
ones_word m at n w h e =
    let f : w ≡ little (take n (drop at m)) = rw (part at n) at e in
    rw (f, word_nodes m at n) (sym (bits_count (8 * n) (8 * at + 1) (little (take n (drop at m))) (part-lt m at n h)))

-- ---- count_nodes: those counted and those left are all
pub record Counting (m : List ℕ) (at count : ℕ) : Type 0 where
  pub inside : at ≤ length m
  pub short : length m ≤ 8191
  pub total : count + length (nodes_in m at (length m - at)) ≡ length (nodes_of m)

pub count_starts : (m : List ℕ) → length m ≤ 8191 → Counting m 0 0
count_starts m h = record { inside = omega arith; short = h; total = rw (all m) (omega arith) }

module _ (m : List ℕ) (at count : ℕ) (g : Counting m at count) where
  pub ones_fit : (n w : ℕ) → w ≡ little (take (at + n - at) (drop at m)) → n ≤ length m - at → Fits w64 (ones w)
  ones_fit n w e l =
      let a : at + n ≤ length m = omega (arith, g.inside) in
      record { fits = omega (arith, g.short, ones_word m at n w a e, nodes_most m (8 * at) (8 * n)) }

  pub count_fits : (n w : ℕ) → w ≡ little (take (at + n - at) (drop at m)) → n ≤ length m - at → Fits w64 (count + ones w)
  count_fits n w e l =
      let a : at + n ≤ length m = omega (arith, g.inside) in
      record { fits = omega (arith, g.total, g.short, most m, ones_word m at n w a e, split-length m at n a) }

  pub count-more : (n w : ℕ) → w ≡ little (take (at + n - at) (drop at m)) → n ≤ length m - at → Counting m (at + n) (count + ones w)
  count-more n w e l =
      let a : at + n ≤ length m = omega (arith, g.inside) in
      record {
        inside = a;
        short = g.short;
        total = omega (arith, g.total, ones_word m at n w a e, split-length m at n a);
      }

  pub count_is : length m ≤ at → count ≡ length (nodes_of m)
  count_is h = omega (arith, g.total, ap length (none m at h))

  pub count_most : length m ≤ at → count ≤ 8 * length m
  count_most h = omega (arith, count_is h, most m)

-- ---- put_word: the table with the bits that are left written is the table that is asked for
pub record Putting (m : List ℕ) (at n first : ℕ) (t₀ t : List ℕ) (rest i : ℕ) : Type 0 where
  pub rows : sets t i (bits_from (8 * n) (8 * at + 1) rest) ≡ sets t₀ first (nodes_in m at n)
  pub count : i + length (bits_from (8 * n) (8 * at + 1) rest) ≡ first + length (nodes_in m at n)
  pub room : first + length (nodes_in m at n) ≤ length t₀
  pub same : length t ≡ length t₀
  pub small : rest < 2 ^ (8 * n)

pub put_starts : (m : List ℕ) (at n first w : ℕ) (t : List ℕ) → w ≡ little (take (at + n - at) (drop at m)) → at + n ≤ length m
    → first + length (nodes_in m at n) ≤ length t → Putting m at n first t t w first
put_starts m at n first w t e h room =
    let f : w ≡ little (take n (drop at m)) = rw (part at n) at e in
    let g : bits_from (8 * n) (8 * at + 1) w ≡ nodes_in m at n = rw f (sym (word_nodes m at n)) in
    record { rows = rw g; count = rw g; room = room; same = refl; small = rw f (part-lt m at n h) }

module _ (m : List ℕ) (at n first : ℕ) (t₀ t : List ℕ) (rest i : ℕ) (p : Putting m at n first t₀ t rest i) where
  pub put_is : rest ≡ 0 → t ≡ sets t₀ first (nodes_in m at n)
  put_is z = rw (z, bits_none (8 * n) (8 * at + 1)) at p.rows

  pub put_count : rest ≡ 0 → i ≡ first + length (nodes_in m at n)
  put_count z =
      let e : bits_from (8 * n) (8 * at + 1) rest ≡ [] = rw z (bits_none (8 * n) (8 * at + 1)) in
      omega (arith, p.count, ap length e)

  module _ (some : rest ≡ 0 → ⊥) (few : n ≤ 8) where
    found : Next (8 * n) (8 * at + 1) rest (count_trailing_zeros 64 rest) (bits_from (8 * n) (8 * at + 1) rest)
    found = next 64 (8 * n) (8 * at + 1) rest (omega arith) (omega arith) p.small

    pub put-inside : i < length t
    put-inside = omega (arith, p.count, p.room, p.same, ap length found.entry)

    pub zeros_fit : Fits w64 (count_trailing_zeros 64 rest)
    zeros_fit = record { fits = omega (arith, found.low) }

    pub node-inside : at + n ≤ length m → length m ≤ 8191 → at + count_trailing_zeros 64 rest / 8 < 8191
    node-inside h s = omega (arith, found.low)

    pub put_less : bit_and rest (rest - 1) < rest
    put_less = cleared_less rest (omega arith)

    pub put-more : (node : ℕ) → node ≡ at * 8 + count_trailing_zeros 64 rest + 1 → Putting m at n first t₀ (set t i node) (bit_and rest (rest - 1)) (i + 1)
    put-more node is =
        let e : node ≡ 8 * at + 1 + count_trailing_zeros 64 rest = omega arith in
        let s : i + 1 ≡ suc i = omega arith in
        record {
          rows = rw (e, s) (rw found.entry at p.rows);
          count = omega (arith, p.count, ap length found.entry);
          room = p.room;
          same = rw (length-set) p.same;
          small = omega (arith, p.small, cleared_less rest (omega arith));
        }

-- ---- put_nodes: the table with the nodes that are left written is the table that is asked for
pub record Laying (m t₀ t : List ℕ) (at i : ℕ) : Type 0 where
  pub inside : at ≤ length m
  pub rows : sets t i (nodes_in m at (length m - at)) ≡ sets t₀ 0 (nodes_of m)
  pub count : i + length (nodes_in m at (length m - at)) ≡ length (nodes_of m)
  pub room : length (nodes_of m) ≤ length t₀
  pub same : length t ≡ length t₀

pub lay_starts : (m t : List ℕ) → length (nodes_of m) ≤ length t → Laying m t t 0 0
lay_starts m t h = record { inside = omega arith; rows = rw (all m); count = rw (all m) (omega arith); room = h; same = refl }

sets-append : (t : List ℕ) (i : ℕ) (r s : List ℕ) → sets t i (r ++ s) ≡ sets (sets t i r) (i + length r) s
sets-append t i [] s = rw add-zero
sets-append t i (x ∷ r) s =
    let e : suc i + length r ≡ i + suc (length r) = omega arith in
    rw (← e) (sets-append (set t i x) (suc i) r s)

module _ (m t₀ t : List ℕ) (at i : ℕ) (g : Laying m t₀ t at i) where
  pub lay_room : (n : ℕ) → n ≤ length m - at → i + length (nodes_in m at n) ≤ length t
  lay_room n l =
      let a : at + n ≤ length m = omega (arith, g.inside) in
      omega (arith, g.count, g.room, g.same, split-length m at n a)

  pub lay_more : (n r : ℕ) (t' : List ℕ) → r ≡ i + length (nodes_in m at n) → t' ≡ sets t i (nodes_in m at n) → n ≤ length m - at
      → Laying m t₀ t' (at + n) r
  lay_more n r t' is e l =
      let a : at + n ≤ length m = omega (arith, g.inside) in
      record {
        inside = a;
        rows = rw (e, is, ← sets-append t i (nodes_in m at n) (nodes_in m (at + n) (length m - (at + n))), ← split m at n a) g.rows;
        count = omega (arith, g.count, split-length m at n a);
        room = g.room;
        same = rw (e, length-sets) g.same;
      }

  pub lay_done : length m ≤ at → t ≡ sets t₀ 0 (nodes_of m)
  lay_done h = rw (none m at h) at g.rows

-- ---- mask_nodes
pub put_all : (m t : List ℕ) (n : ℕ) (t' : List ℕ) → t' ≡ sets t 0 (nodes_of m) → n ≡ length (nodes_of m) → length m ≤ 8191
    → n ≤ length t
    → Lists m t (Ok n) t'
put_all m t n t' is e short room =
    let z : 0 + length (nodes_of m) ≡ length (nodes_of m) = omega arith in
    record {
      answer = rw (le-ltb 8191 (length m) short, le-ltb (length t) (length (nodes_of m)) (omega arith), e);
      leaves = is ∙ sets-eq (nodes_of m) t 0 (omega arith) ∙ (rw (z, e));
      lists = nodes_address m;
      most = most m;
    }

pub too_short : (m t : List ℕ) (n : ℕ) → n ≡ length (nodes_of m) → length m ≤ 8191 → length t < n → Lists m t (Err (MoreRows n)) t
too_short m t n e short h =
    record {
      answer = rw (le-ltb 8191 (length m) short, lt-ltb (length t) (length (nodes_of m)) (omega arith), e);
      leaves = refl;
      lists = nodes_address m;
      most = most m;
    }

pub too_long : (m t : List ℕ) → 8191 < length m → Lists m t (Err (TooLong (length m))) t
too_long m t h = record { answer = rw (lt-ltb 8191 (length m) h); leaves = refl; lists = nodes_address m; most = most m }

pub ruleset laws = (
  half_is,
  half_lt,
  whole_word,
  word_starts,
  word-ends,
  word_shifts,
  word_fits,
  word_more,
  count_starts,
  ones_fit,
  count_fits,
  count-more,
  count_is,
  count_most,
  put_starts,
  put_is,
  put_count,
  put-inside,
  zeros_fit,
  node-inside,
  put_less,
  put-more,
  lay_starts,
  lay_room,
  lay_more,
  lay_done,
  put_all,
  too_short,
  too_long,
)
