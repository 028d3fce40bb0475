-- The sorted text, by where its sections begin. Assumes nothing.
use mathlib.Core.Path.{◌≡◌, refl, sym, ap, ◌∙◌, subst}
use mathlib.Core.Bool.{Bool, true, false, cond}
use mathlib.Core.List.{List, [], ◌∷◌, ◌++◌, map, append_assoc}
use Prim.Native.Nat.{ℕ, suc, ◌+◌, ◌≤◌, ◌<◌}
use native.Mathlib.Omega.{arith}
use lib.Dec.{eqb, ltb}
use lib.ListN.{length, drop}
use borrow.Author.Tests.{ltb-true, ltb-false}
use Rattle.laws.proofs.Lists.{done}
use Rattle.text.specs.Text.{lines, fields}
use Rattle.text.specs.Scan.{cut}
use Rattle.text.specs.Records.{onto, records}
use Rattle.text.specs.Print.{joined, Every}
use Rattle.text.proofs.Laws.{split-last}
use Rattle.frame_text.specs.Form.{Record, form}
use Rattle.frame_text.specs.Rules.{letter, count, verdict}
use Rattle.frame_definition.proofs.Limits.{accepted-within}
use Rattle.reorder.specs.Blocks.{only, Section, letter_of, owns_more, more, tally, until_next, sections, is_block, lines_of, ended, Line, says_of, sections_of}
use Rattle.reorder.specs.Sorted.{sort_by, placed, name_up_to, by_name, sorted_text}
use Rattle.reorder.proofs.Sections.{bare}
use Rattle.reorder.proofs.Sorted.{sorted-text}
use Rattle.sorting.specs.Sorting.{lines_at, line_at, behind, earlier, is_header, starts_from, starts_at, bytes_of, first_section, section_bytes}
use Rattle.sorting.specs.Sorting.{gathered, Here, Starts}
use Rattle.sorting.proofs.Lists.{only-map, sort_map, placed-map, only_every, sort_every, placed_every}
use Rattle.sorting.proofs.Places.{cut-within, lines_more, line_long, stepped, between_start}
use Rattle.std.specs.Prelude.{Option, Some, None, Ok}

-- ---- bytes of lines
bytes-joined : (ls : List Line) → joined 0x0a (ls ++ ([] ∷ [])) ≡ bytes_of ls
bytes-joined [] = refl
bytes-joined (l ∷ []) = refl
bytes-joined (l ∷ m ∷ ms) = ap (λ (z : List ℕ). l ++ 0x0a ∷ z) (bytes-joined (m ∷ ms))

bytes-append : (ls ms : List Line) → bytes_of (ls ++ ms) ≡ bytes_of ls ++ bytes_of ms
bytes-append [] ms = refl
bytes-append (l ∷ ls) ms =
    ap (λ (z : List ℕ). l ++ 0x0a ∷ z) (bytes-append ls ms) ∙ sym (append_assoc l (0x0a ∷ bytes_of ls) (bytes_of ms))

-- ---- a text's sections, by where they begin
abbrev others : List Line → List Line
others [] = []
others (l ∷ ls) = ls

module _ (t : List ℕ) where
  abbrev section : ℕ → Section Line
  section p = record { headers = 0; params = 0; owner = line_at t p; under = until_next says_of (others (lines_at t p)) }

  -- the first line is that at the place, and the next ones are those behind it
  next_lines : (p : ℕ) (l : Line) (ls : List Line) → lines_at t p ≡ l ∷ ls → (l ≡ line_at t p) × (lines_at t (p + suc (length l)) ≡ ls)
  next_lines p l ls e = go (ltb (cut 10 (drop p t)) (length (drop p t))) refl
    where
      go : (b : Bool) → ltb (cut 10 (drop p t)) (length (drop p t)) ≡ b → (l ≡ line_at t p) × (lines_at t (p + suc (length l)) ≡ ls)
      go true q =
          let h : cut 10 (drop p t) < length (drop p t) = ltb-true (cut 10 (drop p t)) (length (drop p t)) q in
          let z : line_at t p ∷ lines_at t (behind t p) ≡ l ∷ ls = sym (lines_more t p h) ∙ e in
          let is : l ≡ line_at t p = cc in
          let n : length l ≡ cut 10 (drop p t) = ap length is ∙ line_long t p h in
          let m : p + suc (length l) ≡ behind t p = omega (arith, n) in
          (is, ap (λ (k : ℕ). lines_at t k) m ∙ cc)
      go false q =
          let c : cut 10 (drop p t) ≡ length (drop p t) =
          omega (arith, ltb-false (cut 10 (drop p t)) (length (drop p t)) q, cut-within (drop p t)) in
          let z : [] ≡ l ∷ ls = ap ended (sym (split-last 10 (drop p t) c)) ∙ e in
          absurd (let w : ◌≡◌ {A = ℕ} 0 1 = cc in omega arith)

  sections_at : (ls : List Line) (p h n : ℕ) → lines_at t p ≡ ls → map (bare says_of) (sections says_of h n ls) ≡ map section (starts_from p ls)
  sections_at [] p h n e = refl
  sections_at (l ∷ ls) p h n e =
      go (owns_more (says_of l))
      (sections_at ls (p + suc (length l)) (more 0x48 (says_of l) h) (more 0x50 (says_of l) n) (next_lines p l ls e).1)
    where
      rest : List (Section Line)
      rest = sections says_of (more 0x48 (says_of l) h) (more 0x50 (says_of l) n) ls

      go : (b : Bool) → map (bare says_of) rest ≡ map section (starts_from (p + suc (length l)) ls)
          → map (bare says_of) (cond b (record { headers = h; params = n; owner = l; under = until_next says_of ls } ∷ rest) rest)
          ≡ map section (cond b (p ∷ starts_from (p + suc (length l)) ls) (starts_from (p + suc (length l)) ls))
      go true ih =
          λ i. record { headers = 0; params = 0; owner = (next_lines p l ls e).0 i; under = until_next says_of (others (sym e i)) } ∷ ih i
      go false ih = ih

  -- ---- sorted
  lines_bare : (ss : List (Section Line)) → lines_of says_of (map (bare says_of) ss) ≡ lines_of says_of ss
  lines_bare [] = refl
  lines_bare (s ∷ ss) = ap (λ (z : List Line). s.owner ∷ (s.under ++ z)) (lines_bare ss)

  by_name-map : {X : Type 0} (f : X → Section Line) (xs : List X)
      → by_name (map f xs) ≡ map f (placed (λ (x : X). is_block says_of (f x)) (sort_by (λ (x y : X). name_up_to (f x) (f y)) (only (λ
      (x : X). is_block says_of (f x)) xs)) xs)
  by_name-map f xs =
      ap (λ (bs : List (Section Line)). placed (is_block says_of) (sort_by name_up_to bs) (map f xs)) (only-map f (is_block says_of) xs)
      ∙ ap (λ (bs : List (Section Line)). placed (is_block says_of) bs (map f xs)) (sort_map f name_up_to (only (λ x. is_block says_of (f x)) xs))
      ∙ placed-map f (is_block says_of) (sort_by (λ x y. name_up_to (f x) (f y)) (only (λ x. is_block says_of (f x)) xs)) xs

  abbrev places : List ℕ
  places = starts_at t 0

  lines_by_name : lines_of says_of (by_name (sections_of t))
      ≡ lines_of says_of (map section (placed (is_header t) (sort_by (earlier t) (only (is_header t) places)) places))
  lines_by_name =
      sym (lines_bare (by_name (sections_of t)))
      ∙ ap (lines_of says_of) (sym (by_name-map (bare says_of) (sections_of t))
      ∙ ap by_name (sections_at (lines_at t 0) 0 0 0 refl)
      ∙ by_name-map section places)

  gathered-bytes : (ps : List ℕ) → Every (Starts t) ps → bytes_of (lines_of says_of (map section ps)) ≡ gathered t ps
  unfolding section_bytes
  gathered-bytes [] a = refl
  gathered-bytes (p ∷ ps) a =
      ap (λ (z : List Line). bytes_of (line_at t p ∷ (until_next says_of (others z) ++ lines_of says_of (map section ps)))) at_p
      ∙ bytes-append (line_at t p ∷ until_next says_of (lines_at t (behind t p))) (lines_of says_of (map section ps))
      ∙ (λ i. bytes_of (first_section (sym at_p i)) ++ gathered-bytes ps a.1 i)
    where
      at_p : lines_at t p ≡ line_at t p ∷ lines_at t (behind t p)
      at_p = lines_more t p (stepped t p a.0.between.here a.0.inside).is_ended

  -- ---- every place is the start of a section
  every_starts : (ls : List Line) (p : ℕ) → lines_at t p ≡ ls → Here t p → Every (Starts t) (starts_from p ls)
  every_starts [] p e h = tt
  every_starts (l ∷ ls) p e h = go (owns_more (says_of l)) refl (every_starts ls (p + suc (length l)) (next_lines p l ls e).1 next)
    where
      inside : p < length t
      inside = at (ltb p (length t)) refl
        where
          at : (b : Bool) → ltb p (length t) ≡ b → p < length t
          at true q = ltb-true p (length t) q
          at false q =
              let z : [] ≡ l ∷ ls = ap (λ (s : List ℕ). ended (lines s)) (sym (done t p (ltb-false p (length t) q))) ∙ e in
              absurd (let w : ◌≡◌ {A = ℕ} 0 1 = cc in omega arith)

      next : Here t (p + suc (length l))
      next =
          let s = stepped t p h inside in
          let n : length l ≡ cut 10 (drop p t) = ap length (next_lines p l ls e).0 ∙ line_long t p s.is_ended in
          let m : behind t p ≡ p + suc (length l) = omega (arith, n) in
          subst (Here t) m s.next

      go : (b : Bool) → owns_more (says_of l) ≡ b → Every (Starts t) (starts_from (p + suc (length l)) ls)
          → Every (Starts t) (cond b (p ∷ starts_from (p + suc (length l)) ls) (starts_from (p + suc (length l)) ls))
      go false q ih = ih
      go true q ih =
          let none_before : until_next says_of (lines_at t p) ≡ [] = ap (until_next says_of) e ∙ ap (λ (b : Bool). cond b [] (l ∷ until_next says_of ls)) q in
          (record { between = record { here = h; owned = none_before }; inside = inside }, ih)

  -- ---- at most 64 of them are H lines
  headers_few : (ls : List Line) (p : ℕ) → lines_at t p ≡ ls → length (only (is_header t) (starts_from p ls)) ≤ tally says_of 0x48 ls
  headers_few [] p e = omega arith
  headers_few (l ∷ ls) p e =
      go (owns_more (says_of l)) (is_header t p) refl (ap (λ (k : Line). eqb (letter_of (says_of k)) 0x48) (next_lines p l ls e).0)
      (headers_few ls (p + suc (length l)) (next_lines p l ls e).1)
    where
      rest : List ℕ
      rest = starts_from (p + suc (length l)) ls

      count-on : (h : Bool) → length (only (is_header t) rest) ≤ tally says_of 0x48 ls
          → length (cond h (p ∷ only (is_header t) rest) (only (is_header t) rest)) ≤ cond h (suc (tally says_of 0x48 ls)) (tally says_of 0x48 ls)
      count-on true ih = omega arith
      count-on false ih = ih

      skip : (h : Bool) → length (only (is_header t) rest) ≤ tally says_of 0x48 ls
          → length (only (is_header t) rest) ≤ cond h (suc (tally says_of 0x48 ls)) (tally says_of 0x48 ls)
      skip true ih = omega arith
      skip false ih = ih

      go : (b h : Bool) → is_header t p ≡ h → eqb (letter_of (says_of l)) 0x48 ≡ h → length (only (is_header t) rest) ≤ tally says_of 0x48 ls
          → length (only (is_header t) (cond b (p ∷ rest) rest)) ≤ more 0x48 (says_of l) (tally says_of 0x48 ls)
      go false h q r ih = rw r (skip h ih)
      go true h q r ih = rw (q, r) (count-on h ih)

tally-count : (ms : List Line) → tally says_of 0x48 (ended ms) ≡ count 0x48 (records form ms)
unfolding says_of
tally-count [] = refl
tally-count (l ∷ []) = refl
tally-count (l ∷ m ∷ ms) = go (form (fields l)) (tally-count (m ∷ ms))
  where
    go : (x : Option Record) → tally says_of 0x48 (ended (m ∷ ms)) ≡ count 0x48 (records form (m ∷ ms))
        → more 0x48 x (tally says_of 0x48 (ended (m ∷ ms))) ≡ count 0x48 (onto x (records form (m ∷ ms)))
    go None ih = ih
    go (Some r) ih = ap (λ (k : ℕ). cond (eqb (letter r) 0x48) (suc k) k) ih

-- ---- of an accepted text
module _ (t : List ℕ) (v : verdict t ≡ Ok tt) where
  abbrev pub headers : List ℕ
  headers = only (is_header t) (starts_at t 0)

  pub starts_every : Every (Starts t) (starts_at t 0)
  starts_every = every_starts t (lines_at t 0) 0 refl (between_start t v).here

  pub sorted_every : Every (Starts t) (sort_by (earlier t) headers)
  sorted_every = sort_every (Starts t) (earlier t) headers (only_every (Starts t) (is_header t) (starts_at t 0) starts_every)

  pub headers_64 : length headers ≤ 64
  headers_64 =
      let a = headers_few t (lines_at t 0) 0 refl in
      let b = tally-count (lines t) in
      let c = (accepted-within t v).1.headers in
      omega (arith, a, b, c)

  -- O7: the sorted text is the sections, with the sorted blocks in the places of blocks
  pub sorted_is : sorted_text t ≡ gathered t (placed (is_header t) (sort_by (earlier t) headers) (starts_at t 0))
  sorted_is =
      ap (λ (ls : List Line). joined 0x0a (ls ++ ([] ∷ []))) (lines_by_name t)
      ∙ bytes-joined (lines_of says_of (map (section t) order))
      ∙ gathered-bytes t order (placed_every (Starts t) (is_header t) (sort_by (earlier t) headers) (starts_at t 0) sorted_every starts_every)
    where
      order : List ℕ
      order = placed (is_header t) (sort_by (earlier t) headers) (starts_at t 0)

  pub sorted-long : length (sorted_text t) ≡ length t
  sorted-long = (sorted-text t v).long
