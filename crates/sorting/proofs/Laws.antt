-- Laws of sorting H blocks, a function at a time. Assumes nothing.
use mathlib.Core.Path.{◌≡◌, refl, sym, ap, ◌∙◌, subst}
use mathlib.Core.Bool.{Bool, true, false, cond, ◌||◌}
use mathlib.Core.List.{List, [], ◌∷◌, ◌++◌, append-nil, append_assoc}
use Prim.Native.Nat.{ℕ, ◌+◌, ◌-◌, ◌≤◌, ◌<◌, ◌^◌}
use native.Mathlib.Omega.{arith}
use native.Mathlib.Numerals.{add-one}
use mir.Syntax.{w64}
use mir.Val.{Fits}
use lib.Dec.{eqb, ltb}
use lib.ListN.{length, get_or, set, take, drop, length-set, length-append, length-drop, get_or-append}
use lib.Seq.{sets, length-sets, length-take-le, take-length, drop-length, take-append-le, take-take, take_at, drop_at, get_or-take, set_split}
use lib.Seq.{take-suc-set, drop-set-lt}
use borrow.Author.Tests.{eq-eqb, ne_eqb, le-ltb}
use Rattle.laws.proofs.Lists.{next, done, tail}
use Rattle.refusal.specs.declared.Refusal.{Refusal}
use Rattle.refusal.specs.declared.Refusal.TheVariants.{MoreBytes}
use Rattle.buffer.specs.Buffer.{Writes}
use Rattle.buffer.proofs.Laws.{sets-append, writes_short, writes_room}
use Rattle.text.specs.Text.{field, fields, lines}
use Rattle.text.specs.Scan.{cut}
use Rattle.text.specs.Judge.{Checks}
use Rattle.text.specs.Print.{Every}
use Rattle.text.proofs.Laws.{front_count}
use Rattle.frame_text.specs.Form.{Record}
use Rattle.frame_text.specs.Rules.{rules, verdict}
use Rattle.reorder.specs.Blocks.{only, letter_of, ended}
use Rattle.reorder.specs.Sorted.{up_to, insert_by, sort_by, placed, sorted_text}
use Rattle.sorting.specs.Sorting.{name_at, behind, earlier, is_header, starts_from, starts_at, section_bytes, gathered, Here, Between, Starts}
use Rattle.sorting.specs.Sorting.{Ends, Chooses, Puts, Collects, CollectsSorted, Sorts}
use Rattle.sorting.specs.declared.Chosen.{Chosen}
use Rattle.reorder.proofs.Sorted.{sort_length}
use Rattle.sorting.proofs.Places.{stepped, between_start, reaches_first, reaches_end, reaches_owner, reaches_more}
use Rattle.sorting.proofs.Texts.{sorted_every, headers_64, sorted_is, sorted-long}
use Rattle.std.specs.Prelude.{Option, Result, Ok, Err}

-- ---- names
pub up_done : (a b : List ℕ) (i : ℕ) → up_to a b ≡ up_to (drop i a) (drop i b) → length a ≤ i → true ≡ up_to a b
up_done a b i e h = sym (e ∙ rw (done a i h) refl)

pub up-short : (a b : List ℕ) (i : ℕ) → up_to a b ≡ up_to (drop i a) (drop i b) → i < length a → length b ≤ i → false ≡ up_to a b
up-short a b i e h l = sym (e ∙ rw (next a i h, done b i l) refl)

module _ (a b : List ℕ) (i : ℕ) (e : up_to a b ≡ up_to (drop i a) (drop i b)) (h : i < length a) (l : i < length b) where
  pub up-other : (get_or a i 0 ≡ get_or b i 0 → ⊥) → ltb (get_or a i 0) (get_or b i 0) ≡ up_to a b
  up-other n = sym (e ∙ rw (next a i h, next b i l, ne_eqb (get_or a i 0) (get_or b i 0) n) (or_false (ltb (get_or a i 0) (get_or b i 0))))
    where
      or_false : (x : Bool) → (x || false) ≡ x
      or_false true = refl
      or_false false = refl

  pub up_more : get_or a i 0 ≡ get_or b i 0 → up_to a b ≡ up_to (drop (i + 1) a) (drop (i + 1) b)
  up_more q =
      let z : ltb (get_or a i 0) (get_or b i 0) ≡ false = le-ltb (get_or a i 0) (get_or b i 0) (omega (arith, q)) in
      e ∙ rw (next a i h, next b i l, z, eq-eqb (get_or a i 0) (get_or b i 0) q) refl

pub ruleset up_laws = (up_done, up-short, up-other, up_more)

pub no_name : (t : List ℕ) (at : ℕ) → length t < at → take 0 t ≡ name_at t at
no_name t at h = rw (done t at (omega arith)) refl

pub name_is : (t : List ℕ) (at e : ℕ) (r : List ℕ) → e ≡ cut 10 (take (length t - at) (drop at t))
    → r ≡ field 4 (fields (take e (take (length t - at) (drop at t)))) → r ≡ name_at t at
name_is t at e r f q = q ∙ rw (f, tail t at) refl

pub earlier_is : (t : List ℕ) (a b : ℕ) (x y : List ℕ) (r : Bool) → x ≡ name_at t a → y ≡ name_at t b → r ≡ up_to x y → r ≡ earlier t a b
earlier_is t a b x y r e f q = q ∙ rw (e, f) refl

-- ---- insertion
pub record Inserting (t a₀ a : List ℕ) (k i it : ℕ) : Type 0 where
  pub left : take i a ++ insert_by (earlier t) it (drop (i + 1) a) ≡ take k a₀ ++ insert_by (earlier t) (get_or a₀ k 0) (drop (k + 1) a₀)
  pub same : length a ≡ length a₀
  pub inside : i < length a

pub inserting_starts : (t a : List ℕ) (k it : ℕ) → k < length a → it ≡ get_or a k 0 → Inserting t a a k k it
inserting_starts t a k it h e = record { left = rw e refl; same = refl; inside = h }

module _ (t a₀ a : List ℕ) (k i it : ℕ) (w : Inserting t a₀ a k i it) where
  put_it : set a i it ≡ take i a ++ it ∷ drop (i + 1) a
  put_it = set_split a i it w.inside ∙ ap (λ (n : ℕ). take i a ++ it ∷ drop n a) (sym (add-one i))

  pub insert-last : (m : ℕ) → m ≡ length a₀ - 1 → m ≤ i → set a m it ≡ take k a₀ ++ insert_by (earlier t) (get_or a₀ k 0) (drop (k + 1) a₀)
  insert-last m e h =
      let s : m ≡ i = omega (arith, w.same, w.inside) in
      let n : drop (i + 1) a ≡ [] = done a (i + 1) (omega (arith, w.same, w.inside)) in
      ap (λ (j : ℕ). set a j it) s ∙ put_it ∙ rw n refl ∙ (rw n at w.left)

  module _ (h : i + 1 < length a) where
    pub insert_here : (b : Bool) → b ≡ earlier t it (get_or a (i + 1) 0) → b ≡ true
        → set a i it ≡ take k a₀ ++ insert_by (earlier t) (get_or a₀ k 0) (drop (k + 1) a₀)
    insert_here b e q =
        let n : drop (i + 1) a ≡ get_or a (i + 1) 0 ∷ drop (i + 1 + 1) a = next a (i + 1) h in
        let y : earlier t it (get_or a (i + 1) 0) ≡ true = sym e ∙ q in
        put_it ∙ ap (λ (z : List ℕ). take i a ++ it ∷ z) n
        ∙ ap (λ (b : Bool). take i a ++ cond b (it ∷ get_or a (i + 1) 0 ∷ drop (i + 1 + 1) a)
        (get_or a (i + 1) 0 ∷ insert_by (earlier t) it (drop (i + 1 + 1) a))) (sym y)
        ∙ ap (λ (z : List ℕ). take i a ++ insert_by (earlier t) it z) (sym n)
        ∙ w.left

    pub insert-more : (b : Bool) → b ≡ earlier t it (get_or a (i + 1) 0) → b ≡ false → Inserting t a₀ (set a i (get_or a (i + 1) 0)) k (i + 1) it
    insert-more b e q =
        let x : ℕ = get_or a (i + 1) 0 in
        let n : drop (i + 1) a ≡ get_or a (i + 1) 0 ∷ drop (i + 1 + 1) a = next a (i + 1) h in
        let y : earlier t it (get_or a (i + 1) 0) ≡ false = sym e ∙ q in
        let front : take (i + 1) (set a i x) ≡ take i a ++ (x ∷ []) =
        ap (λ (m : ℕ). take m (set a i x)) (add-one i) ∙ take-suc-set a i x w.inside in
        let back : drop (i + 1 + 1) (set a i x) ≡ drop (i + 1 + 1) a = drop-set-lt (i + 1 + 1) a i x (omega arith) in
        record {
          left =
              (λ j. front j ++ insert_by (earlier t) it (back j))
              ∙ append_assoc (take i a) (x ∷ []) (insert_by (earlier t) it (drop (i + 1 + 1) a))
              ∙ ap (λ (b : Bool). take i a ++ cond b (it ∷ x ∷ drop (i + 1 + 1) a) (x ∷ insert_by (earlier t) it (drop (i + 1 + 1) a))) (sym y)
              ∙ ap (λ (z : List ℕ). take i a ++ insert_by (earlier t) it z) (sym n)
              ∙ w.left;
          same = length-set a i x ∙ w.same;
          inside = rw length-set h;
        }

pub ruleset insert_laws = (inserting_starts, insert-last, insert_here, insert-more)

-- ---- sorting
pub record Sorting (t a₀ a : List ℕ) (k : ℕ) : Type 0 where
  pub sorted : a ≡ take k a₀ ++ sort_by (earlier t) (drop k a₀)
  pub same : length a ≡ length a₀
  pub inside : k ≤ length a₀

pub sorting_starts : (t a : List ℕ) → Sorting t a a (length a)
sorting_starts t a =
    record { sorted = sym (rw (take-length a, drop-length a) (append-nil a)); same = refl; inside = omega arith }

module _ (t a₀ a : List ℕ) (k : ℕ) (w : Sorting t a₀ a k) where
  pub sorting_done : k ≤ 0 → a ≡ sort_by (earlier t) a₀
  sorting_done h = let z : k ≡ 0 = omega arith in rw z at w.sorted

  pub sorting_more : 0 < k → (a' : List ℕ) → a' ≡ take (k - 1) a ++ insert_by (earlier t) (get_or a (k - 1) 0) (drop (k - 1 + 1) a)
      → Sorting t a₀ a' (k - 1)
  sorting_more h a' e =
      let m : k - 1 + 1 ≡ k = omega arith in
      let size : length (take k a₀) ≡ k = length-take-le k a₀ w.inside in
      let front : take (k - 1) a ≡ take (k - 1) a₀ =
      ap (take (k - 1)) w.sorted ∙ take-append-le (k - 1) (take k a₀) (sort_by (earlier t) (drop k a₀)) (omega (arith, size))
      ∙ take-take (k - 1) k a₀ (omega arith) in
      let it : get_or a (k - 1) 0 ≡ get_or a₀ (k - 1) 0 =
      ap (λ (z : List ℕ). get_or z (k - 1) 0) w.sorted
      ∙ get_or-append (take k a₀) (sort_by (earlier t) (drop k a₀)) 0 (k - 1) (omega (arith, size))
      ∙ get_or-take k a₀ (k - 1) 0 (omega arith) in
      let back : drop (k - 1 + 1) a ≡ sort_by (earlier t) (drop k a₀) =
      ap (λ (n : ℕ). drop n a) m ∙ ap (drop k) w.sorted ∙ drop_at (take k a₀) (sort_by (earlier t) (drop k a₀)) k size in
      let whole : drop (k - 1) a₀ ≡ get_or a₀ (k - 1) 0 ∷ drop k a₀ =
      next a₀ (k - 1) (omega (arith, w.inside)) ∙ ap (λ (n : ℕ). get_or a₀ (k - 1) 0 ∷ drop n a₀) m in
      let is : a' ≡ take (k - 1) a₀ ++ sort_by (earlier t) (drop (k - 1) a₀) =
      e ∙ (λ i. front i ++ insert_by (earlier t) (it i) (back i)) ∙ ap (λ (z : List ℕ). take (k - 1) a₀ ++ sort_by (earlier t) z) (sym whole) in
      record {
        sorted = is;
        same =
            let n = ap length is ∙ length-append (take (k - 1) a₀) (sort_by (earlier t) (drop (k - 1) a₀)) in
            let l = length-take-le (k - 1) a₀ (omega (arith, w.inside)) in
            let r = sort_length (earlier t) (drop (k - 1) a₀) in
            let d = length-drop (k - 1) a₀ in
            omega (arith, n, l, r, d, w.inside);
        inside = omega (arith, w.inside);
      }

  pub sorting_inside : 0 < k → k - 1 < length a
  sorting_inside h = omega (arith, w.same, w.inside)

pub ruleset sort_laws = (sorting_starts, sorting_done, sorting_more, sorting_inside)

-- ---- sections
pub line_end_is : (t : List ℕ) (at e : ℕ) → e ≡ cut 10 (take (length t - at) (drop at t)) → at + e + 1 ≡ behind t at
line_end_is t at e f = let z : e ≡ cut 10 (drop at t) = rw (tail t at) at f in omega arith

pub line_end_fits : (t : List ℕ) (at e : ℕ) → Here t at → at < length t → e ≡ cut 10 (take (length t - at) (drop at t)) → length t < 2 ^ 64
    → Fits w64 (at + e + 1)
line_end_fits t at e here inside f l =
    let s = stepped t at here inside in
    omega (arith, line_end_is t at e f, s.within)

pub line_end_sum : (t : List ℕ) (at e : ℕ) → Here t at → at < length t → e ≡ cut 10 (take (length t - at) (drop at t)) → length t < 2 ^ 64
    → Fits w64 (at + e)
line_end_sum t at e here inside f l =
    let s = stepped t at here inside in
    omega (arith, line_end_is t at e f, s.within)

pub ruleset section_laws = (line_end_is, line_end_fits, line_end_sum, reaches_first, reaches_end, reaches_owner, reaches_more)

module _ (t : List ℕ) (p q : ℕ) (ends : Ends t p q) (out : ℕ) (b : List ℕ) where
  size_is : length (section_bytes t p) ≡ q - p
  size_is = ap length ends.bytes ∙ length-take-le (q - p) (drop p t) (omega (arith, length-drop p t, ends.within))

  pub put-room : out + length (section_bytes t p) ≤ length b → out + length (take (q - p) (drop p t)) ≤ length b
  put-room h = subst (λ (z : List ℕ). out + length z ≤ length b) ends.bytes h

  pub put-fits : out + length (section_bytes t p) ≤ length b → length b < 2 ^ 64 → Fits w64 (out + (q - p))
  put-fits h l = omega (arith, size_is)

  pub put_is : (b' : List ℕ) → b' ≡ sets b out (take (q - p) (drop p t))
      → Puts t p b out (out + (q - p)) b'
  put_is b' e = record { buffer = e ∙ ap (sets b out) (sym ends.bytes); end = omega (arith, size_is) }

pub ruleset put_laws = (put-room, put-fits, put_is)

-- ---- blocks
-- the first byte tells whether it is a block
header_byte : (t : List ℕ) (at : ℕ) → Starts t at → is_header t at ≡ eqb (get_or t at 0) 0x48
header_byte t at s =
    let w = stepped t at s.between.here s.inside in
    ap (λ (x : Option Record). eqb (letter_of x) 0x48) w.says ∙ ap (λ (k : ℕ). eqb k 0x48) (sym w.byte)

end_none : (t : List ℕ) (at : ℕ) → length t ≤ at → starts_at t at ≡ []
end_none t at l = ap (λ (s : List ℕ). starts_from at (ended (lines s))) (done t at l)

pub record Collecting (t a : List ℕ) (at n : ℕ) : Type 0 where
  pub left : take n a ++ only (is_header t) (starts_at t at) ≡ only (is_header t) (starts_at t 0)
  pub few : length (only (is_header t) (starts_at t 0)) ≤ 64
  pub size : length a ≡ 64
  pub inside : n ≤ length a
  pub between : Between t at

pub collecting_starts : (t a : List ℕ) → verdict t ≡ Ok tt → length a ≡ 64 → Collecting t a 0 0
collecting_starts t a v h = record { left = refl; few = headers_64 t v; size = h; inside = omega arith; between = between_start t v }

module _ (t a : List ℕ) (at n : ℕ) (w : Collecting t a at n) where
  pub collecting_done : length t ≤ at → Collects t a n
  collecting_done l =
      let e : only (is_header t) (starts_at t at) ≡ [] = ap (only (is_header t)) (end_none t at l) in
      record { first = sym (append-nil (take n a)) ∙ (rw e at w.left); inside = w.inside }

  module _ (inside : at < length t) (end : ℕ) (ends : Ends t at end) where
    one : only (is_header t) (starts_at t at)
        ≡ cond (eqb (get_or t at 0) 0x48) (at ∷ only (is_header t) (starts_at t end)) (only (is_header t) (starts_at t end))
    one =
        ap (only (is_header t)) ends.starts
        ∙ ap (λ (b : Bool). cond b (at ∷ only (is_header t) (starts_at t end)) (only (is_header t) (starts_at t end)))
        (header_byte t at (record { between = w.between; inside = inside }))

    pub collecting_other : (get_or t at 0 ≡ 72 → ⊥) → Collecting t a end n
    collecting_other ne =
        let e : only (is_header t) (starts_at t at) ≡ only (is_header t) (starts_at t end) = one ∙ rw (ne_eqb (get_or t at 0) 72 ne) refl in
        record { left = rw e at w.left; few = w.few; size = w.size; inside = w.inside; between = ends.next }

    abbrev more : List ℕ
    more = only (is_header t) (starts_at t end)

    module _ (is : get_or t at 0 ≡ 72) where
      here : only (is_header t) (starts_at t at) ≡ at ∷ more
      here = one ∙ rw (eq-eqb (get_or t at 0) 72 is) refl

      pub collecting_room : n < length a
      collecting_room =
          let z : length (take n a ++ at ∷ more) ≡ length (only (is_header t) (starts_at t 0)) = ap length (rw here at w.left) in
          let y = length-append (take n a) (at ∷ more) in
          let x = length-take-le n a w.inside in
          omega (arith, z, y, x, w.few, w.size)

      pub collecting_more : Collecting t (set a n at) end (n + 1)
      collecting_more =
          let front : take (n + 1) (set a n at) ≡ take n a ++ (at ∷ []) =
          ap (λ (m : ℕ). take m (set a n at)) (add-one n) ∙ take-suc-set a n at collecting_room in
          let room : n < length a = collecting_room in
          record {
            left = ap (λ (z : List ℕ). z ++ more) front ∙ append_assoc (take n a) (at ∷ []) more ∙ (rw here at w.left);
            few = w.few;
            size = length-set a n at ∙ w.size;
            inside = rw length-set (omega arith);
            between = ends.next;
          }

pub ruleset collect_laws = (collecting_starts, collecting_done, collecting_other, collecting_room, collecting_more)

-- ---- in the places of blocks
placed-other : (test : ℕ → Bool) (ys : List ℕ) (x : ℕ) (xs : List ℕ) → test x ≡ false → placed test ys (x ∷ xs) ≡ x ∷ placed test ys xs
placed-other test [] x xs e = refl
placed-other test (y ∷ ys) x xs e = rw e refl

module _ (t starts : List ℕ) (used at : ℕ) (s : Starts t at) (others : Every (Starts t) (drop used starts)) where
  pub choose_other : (get_or t at 0 ≡ 72 → ⊥) → Chooses t starts used at (record { start = at; used = used })
  choose_other ne =
      record {
        chosen = λ ps. placed-other (is_header t) (drop used starts) at ps (header_byte t at s ∙ ne_eqb (get_or t at 0) 72 ne);
        start = s;
        others = others;
      }

  pub choose_none : length starts ≤ used → Chooses t starts used at (record { start = at; used = used })
  choose_none l = record { chosen = λ ps. rw (done starts used l) refl; start = s; others = others }

  pub choose_next : get_or t at 0 ≡ 72 → used < length starts → Chooses t starts used at (record { start = get_or starts used 0; used = used + 1 })
  choose_next is l =
      let n : drop used starts ≡ get_or starts used 0 ∷ drop (used + 1) starts = next starts used l in
      let a : Every (Starts t) (get_or starts used 0 ∷ drop (used + 1) starts) = rw n at others in
      record {
        chosen = λ ps.
            ap (λ (z : List ℕ). placed (is_header t) z (at ∷ ps)) n
            ∙ ap (λ (b : Bool). cond b (get_or starts used 0 ∷ placed (is_header t) (drop (used + 1) starts) ps)
            (at ∷ placed (is_header t) (get_or starts used 0 ∷ drop (used + 1) starts) ps)) (header_byte t at s ∙ eq-eqb (get_or t at 0) 72 is);
        start = a.0;
        others = a.1;
      }

pub ruleset choose_laws = (choose_other, choose_none, choose_next)

pub record Placing (t starts b₀ b : List ℕ) (at out used : ℕ) : Type 0 where
  pub left : sets b out (gathered t (placed (is_header t) (drop used starts) (starts_at t at)))
      ≡ sets b₀ 0 (gathered t (placed (is_header t) starts (starts_at t 0)))
  pub room : out + length (gathered t (placed (is_header t) (drop used starts) (starts_at t at))) ≤ length b
  pub same : length b ≡ length b₀
  pub between : Between t at
  pub others : Every (Starts t) (drop used starts)

pub placing_starts : (t starts b : List ℕ) → verdict t ≡ Ok tt → Every (Starts t) starts
    → length (gathered t (placed (is_header t) starts (starts_at t 0))) ≤ length b → Placing t starts b b 0 0 0
placing_starts t starts b v a l = record { left = refl; room = omega arith; same = refl; between = between_start t v; others = a }

module _ (t starts b₀ b : List ℕ) (at out used : ℕ) (w : Placing t starts b₀ b at out used) where
  pub placing_done : length t ≤ at → b ≡ sets b₀ 0 (gathered t (placed (is_header t) starts (starts_at t 0)))
  placing_done l = rw (end_none t at l) at w.left

  module _ (end : ℕ) (ends : Ends t at end) (r : Chosen) (c : Chooses t starts used at r) where
    abbrev rest : List ℕ
    rest = gathered t (placed (is_header t) (drop r.used starts) (starts_at t end))

    left_is : gathered t (placed (is_header t) (drop used starts) (starts_at t at)) ≡ section_bytes t r.start ++ rest
    left_is =
        ap (λ (ps : List ℕ). gathered t (placed (is_header t) (drop used starts) ps)) ends.starts ∙ ap (gathered t) (c.chosen (starts_at t end))

    sizes : out + (length (section_bytes t r.start) + length rest) ≤ length b
    sizes =
        let e = ap length left_is ∙ length-append (section_bytes t r.start) rest in
        omega (arith, e, w.room)

    pub placing_room : out + length (section_bytes t r.start) ≤ length b
    placing_room = omega (arith, sizes)

    pub placing_more : (b' : List ℕ) (out' : ℕ) → Puts t r.start b out out' b' → Placing t starts b₀ b' end out' r.used
    placing_more b' out' puts =
        let e : b' ≡ sets b out (section_bytes t r.start) = puts.buffer in
        let f : out' ≡ out + length (section_bytes t r.start) = puts.end in
        let n : length b' ≡ length b = ap length e ∙ length-sets b out (section_bytes t r.start) in
        record {
          left = rw (e, f) (sym (sets-append b out (section_bytes t r.start) rest) ∙ ap (sets b out) (sym left_is) ∙ w.left);
          room = omega (arith, n, f, sizes);
          same = n ∙ w.same;
          between = ends.next;
          others = c.others;
        }

pub ruleset place_laws = (placing_starts, placing_done, placing_room, placing_more)

-- ---- the whole
pub sorted_back : (t a ys : List ℕ) (n : ℕ) → Collects t a n → ys ≡ sort_by (earlier t) (take n a) → CollectsSorted t (ys ++ drop n a) n
sorted_back t a ys n c e =
    let is : ys ≡ sort_by (earlier t) (only (is_header t) (starts_at t 0)) = e ∙ ap (sort_by (earlier t)) c.first in
    let size : length ys ≡ n = ap length e ∙ sort_length (earlier t) (take n a) ∙ length-take-le n a c.inside in
    record {
      first = take_at ys (drop n a) n size ∙ is;
      inside = let s = length-append ys (drop n a) in omega (arith, s, size);
    }

module _ (t a : List ℕ) (n : ℕ) (v : verdict t ≡ Ok tt) (c : CollectsSorted t a n) where
  pub sorted_starts : Every (Starts t) (take n a)
  sorted_starts = subst (Every (Starts t)) (sym c.first) (sorted_every t v)

  placed_is : sorted_text t ≡ gathered t (placed (is_header t) (take n a) (starts_at t 0))
  placed_is = sorted_is t v ∙ ap (λ (ys : List ℕ). gathered t (placed (is_header t) ys (starts_at t 0))) (sym c.first)

  pub sorted-room : (b : List ℕ) → length t ≤ length b → length (gathered t (placed (is_header t) (take n a) (starts_at t 0))) ≤ length b
  sorted-room b h = let e = ap length placed_is in omega (arith, e, sorted-long t v)

  pub sorted_writes : (b b' : List ℕ) (size : ℕ) → size ≡ length t → size ≤ length b
      → b' ≡ sets b 0 (gathered t (placed (is_header t) (take n a) (starts_at t 0))) → Writes (sorted_text t) b (Ok size) b'
  sorted_writes b b' size e h f = writes_room (sorted_text t) b size (e ∙ sym (sorted-long t v)) b' (f ∙ ap (sets b 0) (sym placed_is)) h

pub sorted-short : (t b : List ℕ) (size : ℕ) → verdict t ≡ Ok tt → size ≡ length t → length b < size
    → Writes (sorted_text t) b (Err (MoreBytes size)) b
sorted-short t b size v e h = writes_short (sorted_text t) b size (e ∙ sym (sorted-long t v)) h

module _ (t b : List ℕ) (v : Result (Unit {0}) Refusal) (is : Checks rules t v) where
  pub sorts_accepted : (r : Result ℕ Refusal) (b' : List ℕ) → v ≡ Ok tt → Writes (sorted_text t) b r b' → Sorts t b r b'
  sorts_accepted r b' e w =
      let n : length (sorted_text t) ≡ length t = sorted-long t (sym is.is ∙ e) in
      record { answer = w.answer ∙ rw (← is.is, e, n) refl; buffer = w.buffer }

  pub sorts_refused : (x : Refusal) → v ≡ Err x → Sorts t b (Err x) b
  sorts_refused x e = record { answer = rw (← is.is, e) refl; buffer = refl }

  pub sorts_checked : v ≡ Ok tt → verdict t ≡ Ok tt
  sorts_checked e = sym is.is ∙ e

pub ruleset whole_laws = (sorted_back, sorted_starts, sorted-room, sorted_writes, sorted-short, sorts_accepted, sorts_refused, sorts_checked)

pub ruleset laws = (
  up_laws,
  no_name,
  front_count,
  name_is,
  earlier_is,
  insert_laws,
  sort_laws,
  section_laws,
  put_laws,
  collect_laws,
  choose_laws,
  place_laws,
  whole_laws,
)
