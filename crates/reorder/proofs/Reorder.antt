-- W-213: what is answered by a text whose H blocks are in another order. Assumes nothing.
use mathlib.Core.Path.{◌≡◌, refl, sym, ap, ◌∙◌, subst}
use mathlib.Core.Bool.{Bool, true, false, cond}
use mathlib.Core.List.{List, [], ◌∷◌, ◌++◌, map, map-append}
use Prim.Native.Nat.{ℕ, ◌/◌, ◌≤◌, ◌<◌}
use lib.Dec.{eqb}
use lib.ListN.{length, length-map}
use native.Mathlib.Omega.{arith}
use borrow.Author.Tests.{lt-ltb, le-ltb, le-leb}
use Rattle.refusal.specs.declared.Refusal.{Refusal}
use Rattle.refusal.specs.declared.Refusal.TheVariants.{TooLong, TooShort, NoBase, NoCandidate}
use Rattle.text.specs.Place.{part_of}
use Rattle.text.specs.Print.{Every}
use Rattle.frame_text.specs.Rules.{verdict}
use Rattle.frame_definition.specs.Definition.{Frequency, Base, Set, definition, key_for, first_base}
use Rattle.frame_definition.specs.Names.{header_name}
use Rattle.crc.specs.Crc.{right}
use Rattle.header_rules.specs.Data.{P, Field, Candidate}
use Rattle.header_rules.specs.Answer.{answered, refused, answer}
use Rattle.header_rules.specs.Demand.{NoneHold, First}
use Rattle.header_rules.specs.Table.{row_width, table_of}
use Rattle.header_rules.specs.Trees.{trees}
use Rattle.header_rules.proofs.Answer.{answer-only}
use Rattle.header_rules.proofs.Trees.{trees_renumber}
use Rattle.header_rules.specs.Told.{Heading, Told, no_base, no_candidate, more_rows, header, heading_of, of_answer, candidates_of, of_base, told}
use Rattle.header_rules.specs.Says.{NoneHolds}
use Rattle.header_rules.proofs.Told.{told-says}
use Rattle.header_rules.proofs.Run.{every_split}
use Rattle.header_rules.proofs.Named.{Named, candidates-named}
use Rattle.header.specs.declared.DecodedHeader.{DecodedHeader}
use Rattle.header.specs.Decode.{header_of, of_told, key_of, told_of, table_after, Within, Decodes}
use Rattle.reorder.specs.Moved.{Moved}
use Rattle.reorder.specs.Blocks.{sections_of}
use Rattle.reorder.specs.Reorder.{Reordered, new_header, new_param, Follows, renumbered, with_number, Gives, Refuses, Harmless}
use Rattle.reorder.proofs.Follow.{on_some, rebase}
use Rattle.reorder.proofs.Moved.{Among, moved_one}
use Rattle.reorder.proofs.Answers.{none-moved, only-first, only-moved, recandidate, answer-same, reheading, retold, told_same, candidates_in}
use Rattle.reorder.proofs.Answers.{candidates-moved, candidates-same}
use Rattle.reorder.proofs.Foremost.{Rises, candidates_rise, foremost_first, foremost_some}
use Rattle.reorder.proofs.Accepted.{accepted-after}
use Rattle.reorder.proofs.Texts.{follows, frequencies-same, sets_same, bases-same, standing_frames, frames-moved, frames-same}
use Rattle.std.specs.Prelude.{Option, Some, None, Result, Ok, Err}

-- ---- one call
module _ (t d : List ℕ) (region speed : ℕ) (table : List ℕ) (r : Result DecodedHeader Refusal) (table₁ : List ℕ) (w : Within t d)
    (c : Decodes t d region speed table r table₁) where
  abbrev tells : Told
  tells = told_of t d region speed (length table)

  answer_is : (x : Told) → tells ≡ x → r ≡ of_told t (right d speed) x
  answer_is x e =
      c.answer
      ∙ rw (w.accepted, le-ltb 2048 (length d) w.short, le-ltb (length d) 2 w.long) (ap (of_told t (right d speed)) e)

  gives : (k : Heading) → tells ≡ header k → Gives table (header_of t (right d speed) k) k.rows r table₁
  gives k e =
      let a : r ≡ Ok (header_of t (right d speed) k) = answer_is (header k) e in
      record { answer = a; laid_are = c.rows ∙ (λ i. table_after table (e i) (a i)) }

  refuses : (x : Told) (y : Refusal) → tells ≡ x → of_told t (right d speed) x ≡ Err y → Refuses table y r table₁
  refuses x y e q =
      let a : r ≡ Err y = answer_is x e ∙ q in
      record { answer = a; as_it_was = c.rows ∙ (λ i. table_after table (e i) (a i)) }

-- an MPDU of fewer than 2 or of more than 2,048 bytes
module _ (t d : List ℕ) (region speed : ℕ) (table : List ℕ) (r : Result DecodedHeader Refusal) (table₁ : List ℕ) (v : verdict t ≡ Ok tt)
    (c : Decodes t d region speed table r table₁) where
  left : (y : Refusal) → r ≡ Err y → Refuses table y r table₁
  left y a = record { answer = a; as_it_was = c.rows ∙ ap (table_after table (told_of t d region speed (length table))) a }

  pub too_long : 2048 < length d → Refuses table (TooLong (length d)) r table₁
  too_long l = left (TooLong (length d)) (c.answer ∙ rw (v, lt-ltb 2048 (length d) l) refl)

  pub too_short : length d < 2 → Refuses table (TooShort (length d)) r table₁
  too_short l = left (TooShort (length d)) (c.answer ∙ rw (v, le-ltb 2048 (length d) (omega arith), lt-ltb (length d) 2 l) refl)

-- ---- what is told by a definition, for its base header and any candidates
first-told : (sets : List Set) (d : List ℕ) (most : ℕ) (base : List (P 7)) (cs : List (Candidate 7)) (c : Candidate 7) (fs : List (Field 7))
    → First 7 d base cs c fs
    → length (table_of 7 d sets fs) ≤ most → of_answer sets d most (answer 7 d base cs) ≡ header (heading_of sets d c fs)
first-told sets d most base cs c fs f l =
    ap (of_answer sets d most) (sym (answer-only 7 d base cs (answered c fs) f))
    ∙ ap (λ (b : Bool). cond b (header (heading_of sets d c fs)) (more_rows (length (table_of 7 d sets fs)))) (le-leb (length (table_of 7 d sets fs)) most l)

none_told : (sets : List Set) (d : List ℕ) (most : ℕ) (base : List (P 7)) (cs : List (Candidate 7)) → NoneHold 7 d base cs
    → of_answer sets d most (answer 7 d base cs) ≡ no_candidate
none_told sets d most base cs n = ap (of_answer sets d most) (sym (answer-only 7 d base cs (refused 7) (refl, n)))

first_rebase : (h g : ℕ → ℕ) (key : ℕ) (bs : List Base) → first_base key (map (rebase h g) bs) ≡ on_some (rebase h g) (first_base key bs)
first_rebase h g key [] = refl
first_rebase h g key (b ∷ bs) = go (eqb b.key key) (first_rebase h g key bs)
  where
    go : (c : Bool) → first_base key (map (rebase h g) bs) ≡ on_some (rebase h g) (first_base key bs)
        → cond c (Some (rebase h g b)) (first_base key (map (rebase h g) bs)) ≡ on_some (rebase h g) (cond c (Some b) (first_base key bs))
    go true ih = refl
    go false ih = ih

-- ---- two texts, and any numbers that follow their lines
module _ (t t' : List ℕ) (w : Reordered t t') (h g : ℕ → ℕ) (f : Follows h g w.order (sections_of t')) (region speed : ℕ) where
  abbrev pub key : ℕ
  key = key_of t region speed

  pub key_is : key_of t' region speed ≡ key
  key_is = ap (λ (fs : List Frequency). cond (eqb speed 3) 2 (key_for region fs)) (frequencies-same t t' w h g f)

  base_is : (o : Option Base) → first_base key (definition t).bases ≡ o → first_base key (definition t').bases ≡ on_some (rebase h g) o
  base_is o e = ap (first_base key) (bases-same t t' w h g f) ∙ first_rebase h g key (definition t).bases ∙ ap (on_some (rebase h g)) e

  -- the candidates of t as they stand in t'
  abbrev pub stands : List (Candidate 7)
  stands = candidates_in key (standing_frames t t' w h g f)

  pub stands-moved : Moved (candidates_of key (definition t)) stands
  stands-moved = candidates-moved key (definition t).frames (standing_frames t t' w h g f) (frames-moved t t' w h g f)

  stands_same : candidates_of key (definition t') ≡ map (recandidate h g 7) stands
  stands_same = ap (candidates_in key) (frames-same t t' w h g f) ∙ candidates-same key h g (standing_frames t t' w h g f)

  -- a candidate has the same name
  name_is : (xs : List (Candidate 7)) (c : Candidate 7) (ys : List (Candidate 7)) → candidates_of key (definition t) ≡ xs ++ c ∷ ys
      → part_of t' (header_name t' (h c.number)) ≡ part_of t (header_name t c.number)
  name_is xs c ys e =
      let stand : Among (λ (x : Candidate 7). Unit {0}) c stands =
      moved_one (λ (x : Candidate 7). Unit {0}) c xs ys stands (subst (λ (z : List (Candidate 7)). Moved z stands) e stands-moved) (all xs) (all ys) in
      let before : part_of t (header_name t c.number) ≡ c.says.name =
      every_split (Named t) xs c ys (subst (Every (Named t)) e (candidates-named t key)) in
      let after : part_of t' (header_name t' (h c.number)) ≡ c.says.name =
      every_split (Named t') (map (recandidate h g 7) stand.front) (recandidate h g 7 c) (map (recandidate h g 7) stand.back)
      (subst (Every (Named t')) (stands_same ∙ ap (map (recandidate h g 7)) stand.place
      ∙ map-append (recandidate h g 7) stand.front (c ∷ stand.back))
      (candidates-named t' key)) in
      after ∙ sym before
    where
      all : (cs : List (Candidate 7)) → Every (λ (x : Candidate 7). Unit {0}) cs
      all [] = tt
      all (x ∷ xs) = (tt, all xs)

  -- their new numbers rise
  stands_rise : Rises (map (λ (c : Candidate 7). h c.number) stands)
  stands_rise = subst Rises (ap (map (λ (c : Candidate 7). c.number)) stands_same ∙ sym (numbers_of stands)) (candidates_rise key t')
    where
      numbers_of : (cs : List (Candidate 7)) → map (λ c. h c.number) cs ≡ map (λ c. c.number) (map (recandidate h g 7) cs)
      numbers_of [] = refl
      numbers_of (c ∷ cs) = ap (λ (z : List ℕ). h c.number ∷ z) (numbers_of cs)

  module _ (d : List ℕ) (most : ℕ) where
    pub none-told-before : first_base key (definition t).bases ≡ None → told (definition t) d most key ≡ no_base key
    unfolding told
    none-told-before e = ap (of_base (definition t) d most key) e

    pub told_none : first_base key (definition t).bases ≡ None → told (definition t') d most key ≡ no_base key
    unfolding told
    told_none e = ap (of_base (definition t') d most key) (base_is None e)

    module _ (b : Base) (e : first_base key (definition t).bases ≡ Some b) where
      pub told-before : told (definition t) d most key
          ≡ of_answer (definition t).sets d most (answer 7 d (trees b.params) (candidates_of key (definition t)))
      unfolding told
      told-before = ap (of_base (definition t) d most key) e

      pub told-after : told (definition t') d most key ≡ retold h g d (definition t).sets
          (of_answer (definition t).sets d most (answer 7 d (trees b.params) stands))
      unfolding told
      told-after =
          ap (of_base (definition t') d most key) (base_is (Some b) e)
          ∙ (λ i. of_answer (sets_same t t' w h g f i) d most (answer 7 d (trees_renumber g b.params i) (stands_same i)))
          ∙ ap (of_answer (definition t).sets d most) (answer-same h g 7 d (trees b.params) stands)
          ∙ told_same h g d (definition t).sets most (answer 7 d (trees b.params) stands)

  -- ---- two calls
  module _ (d : List ℕ) (table : List ℕ) (w₁ : Within t d) (w₂ : Within t' d)
      (r : Result DecodedHeader Refusal) (table₁ : List ℕ) (c₁ : Decodes t d region speed table r table₁) (r' : Result DecodedHeader Refusal) (table₂ : List ℕ)
      (c₂ : Decodes t' d region speed table r' table₂) where
    abbrev most : ℕ
    most = length table / row_width

    -- by the same key
    tells-after : (x : Told) → told (definition t') d most key ≡ x → told_of t' d region speed (length table) ≡ x
    tells-after x e = ap (told (definition t') d most) key_is ∙ e

    heading-header : (k : Heading) → header_of t' (right d speed) (reheading h g d (definition t).sets k)
        ≡ with_number h t' (header_of t (right d speed) k)
    heading-header k =
        λ i. record {
          number = h k.number;
          key = k.key;
          flags = record { ack = k.ack; routed = k.routed; multicast = k.multicast; error = k.error };
          name = header_name t' (h k.number);
          payload = k.offset;
          right = right d speed;
          rows = length-map k.rows (renumbered g) i;
        }

    module _ (b : Base) (e : first_base key (definition t).bases ≡ Some b) where
      first-after : (c : Candidate 7) (fs : List (Field 7)) → First 7 d (trees b.params) stands c fs
          → length (table_of 7 d (definition t).sets fs) ≤ most
          → Gives table (with_number h t' (header_of t (right d speed) (heading_of (definition t).sets d c fs)))
          (map (renumbered g) (table_of 7 d (definition t).sets fs)) r' table₂
      first-after c fs first l =
          subst (λ (x : DecodedHeader). Gives table x (map (renumbered g) (table_of 7 d (definition t).sets fs)) r' table₂)
          (heading-header (heading_of (definition t).sets d c fs))
          (gives t' d region speed table r' table₂ w₂ c₂ (reheading h g d (definition t).sets (heading_of (definition t).sets d c fs))
          (tells-after _ (told-after d most b e ∙ ap (retold h g d (definition t).sets)
          (first-told (definition t).sets d most (trees b.params) stands c fs first l))))

      first-before : (c : Candidate 7) (fs : List (Field 7)) → First 7 d (trees b.params) (candidates_of key (definition t)) c fs
          → length (table_of 7 d (definition t).sets fs) ≤ most
          → Gives table (header_of t (right d speed) (heading_of (definition t).sets d c fs)) (table_of 7 d (definition t).sets fs) r table₁
      first-before c fs first l =
          gives t d region speed table r table₁ w₁ c₁ (heading_of (definition t).sets d c fs)
          (told-before d most b e ∙ first-told (definition t).sets d most (trees b.params) (candidates_of key (definition t)) c fs first l)

      none_after : NoneHold 7 d (trees b.params) (candidates_of key (definition t)) → told (definition t') d most key ≡ no_candidate
      none_after n =
          told-after d most b e
          ∙ ap (retold h g d (definition t).sets)
          (none_told (definition t).sets d most (trees b.params) stands
          (none-moved 7 d (trees b.params) (candidates_of key (definition t)) stands stands-moved n))

      none_before : NoneHold 7 d (trees b.params) (candidates_of key (definition t)) → told (definition t) d most key ≡ no_candidate
      none_before n = told-before d most b e ∙ none_told (definition t).sets d most (trees b.params) (candidates_of key (definition t)) n

    pub any_harmless : Harmless t t' d region speed table h g r table₁ r' table₂
    any_harmless =
        record {
          key_same = key_is;
          name-same = name_is;
          no_base = λ e. (
            refuses t d region speed table r table₁ w₁ c₁ (no_base key) (NoBase key) (none-told-before d most e) refl,
            refuses t' d region speed table r' table₂ w₂ c₂ (no_base key) (NoBase key) (tells-after (no_base key) (told_none d most e)) refl,
          );
          none-holds = λ b e n. (
            subst (NoneHolds (definition t') d) (sym key_is) (told-says (definition t') d most key no_candidate (sym (none_after b e n))),
            refuses t d region speed table r table₁ w₁ c₁ no_candidate NoCandidate (none_before b e n) refl,
            refuses t' d region speed table r' table₂ w₂ c₂ no_candidate NoCandidate (tells-after no_candidate (none_after b e n)) refl,
          );
          one_holds = λ b e c fs o l. (
            first-before b e c fs (only-first 7 d (trees b.params) (candidates_of key (definition t)) c fs o) l,
            first-after b e c fs (only-first 7 d (trees b.params) stands c fs
                (only-moved 7 d (trees b.params) (candidates_of key (definition t)) stands c fs stands-moved o)) l,
          );
          some_hold = λ b e s. foremost_some 7 d (trees b.params) h (candidates_of key (definition t)) stands stands-moved stands_rise s;
          more_hold = λ b e c fs o l.
              first-after b e c fs (foremost_first 7 d (trees b.params) h (candidates_of key (definition t)) stands stands-moved stands_rise c fs o) l;
        }

-- W-213: the numbers are the places of the lines in t', and follow them; that t' is accepted follows from t's being so
module _ (t t' : List ℕ) (w : Reordered t t') (region speed : ℕ) (d table : List ℕ) (within : Within t d) where
  within-after : Within t' d
  within-after = record { accepted = accepted-after t t' w within.accepted; long = within.long; short = within.short }

  pub harmless : (r : Result DecodedHeader Refusal) (table₁ : List ℕ) → Decodes t d region speed table r table₁
      → (r' : Result DecodedHeader Refusal) (table₂ : List ℕ) → Decodes t' d region speed table r' table₂
      → Follows (new_header w.order) (new_param w.order) w.order (sections_of t')
      × Harmless t t' d region speed table (new_header w.order) (new_param w.order) r table₁ r' table₂
  harmless r table₁ c₁ r' table₂ c₂ = (
    follows t t' w,
    any_harmless t t' w (new_header w.order) (new_param w.order) (follows t t' w) region speed
        d table within within-after r table₁ c₁ r' table₂ c₂,
  )
