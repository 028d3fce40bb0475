-- A text whose headers are all apart: no order of its H blocks matters, for any MPDU. Assumes nothing.
use mathlib.Core.Path.{◌≡◌, refl, sym, ap, ◌∙◌}
use mathlib.Core.Bool.{Bool, true, false, cond}
use mathlib.Core.List.{List, ◌∷◌, ◌++◌, map}
use Prim.Native.Nat.{ℕ, ◌/◌}
use lib.Dec.{ltb}
use lib.ListN.{length, length-map}
use Rattle.refusal.specs.declared.Refusal.TheVariants.{TooLong, TooShort}
use Rattle.frame_text.specs.Rules.{verdict}
use Rattle.frame_definition.specs.Definition.{Base, definition, first_base}
use Rattle.frame_definition.specs.Names.{header_name}
use Rattle.crc.specs.Crc.{right}
use Rattle.header_rules.specs.Data.{P, Field, Candidate}
use Rattle.header_rules.specs.Answer.{Answer, answered, refused, answer}
use Rattle.header_rules.specs.Demand.{Holds, First, Answers}
use Rattle.header_rules.specs.Table.{row_width}
use Rattle.header_rules.specs.Told.{Told, no_base, no_candidate, more_rows, header, candidates_of, of_answer, told}
use Rattle.header_rules.specs.Trees.{trees}
use Rattle.header_rules.proofs.Answer.{answer-says, answer-only}
use Rattle.header.specs.Decode.{of_told, sized, key_of, told_of, decoded, rows_of, table_after, Decodes}
use Rattle.reorder.specs.Moved.{Moved}
use Rattle.reorder.specs.Reorder.{Reordered, new_header, new_param, renumbered, Only}
use Rattle.reorder.proofs.Accepted.{accepted-after}
use Rattle.reorder.proofs.Answers.{none-moved, only-first, only-moved, retold}
use Rattle.reorder.proofs.Reorder.{key_is, stands, stands-moved, none-told-before, told_none, told-before, told-after}
use Rattle.reorder.proofs.Texts.{follows}
use Rattle.overlaps.specs.Overlaps.{harmless}
use Rattle.overlaps.specs.Answers.{with_numbers, table_of, SameBut}
use Rattle.overlaps.proofs.Apart.{only_one}
use Rattle.std.specs.Prelude.{Option, Some, None, Result, Ok, Err}
use Rattle.header.specs.declared.DecodedHeader.{DecodedHeader}
use Rattle.refusal.specs.declared.Refusal.{Refusal}

-- ---- at most one holds
-- whichever candidate holds is the only one
abbrev pub AtMostOne : (d : List ℕ) → List (P 7) → List (Candidate 7) → Type 0
AtMostOne d base cs =
    (xs : List (Candidate 7)) (c : Candidate 7) (ys : List (Candidate 7)) → cs ≡ xs ++ c ∷ ys → (fs : List (Field 7)) → Holds 7 d base c fs
    → Only 7 d base cs c fs

-- OV5: by a text that is harmless, at most one candidate holds for an MPDU, whatever its base key and base header
pub one_at_most : (t : List ℕ) → harmless t ≡ true → (key : ℕ) (d : List ℕ) (base : List (P 7))
    → AtMostOne d base (candidates_of key (definition t))
unfolding harmless
one_at_most t e key d base = only_one key d base (definition t).frames e

-- then their order does not matter
answer-moved : (d : List ℕ) (base : List (P 7)) (cs ds : List (Candidate 7)) → AtMostOne d base cs → Moved cs ds
    → answer 7 d base ds ≡ answer 7 d base cs
answer-moved d base cs ds one m = go (answer 7 d base cs) refl (answer-says 7 d base cs)
  where
    go : (a : Answer 7) → answer 7 d base cs ≡ a → Answers 7 d base cs a → answer 7 d base ds ≡ answer 7 d base cs
    go (answered c fs) e f =
        let o : Only 7 d base cs c fs = one f.front c f.back f.place fs f.holds in
        let g : First 7 d base ds c fs = only-first 7 d base ds c fs (only-moved 7 d base cs ds c fs m o) in
        sym (answer-only 7 d base ds (answered c fs) g) ∙ sym e
    go (refused k) e f = sym (answer-only 7 d base ds (refused k) (f.0, none-moved 7 d base cs ds m f.1)) ∙ sym e

-- ---- two texts
module _ (t t' : List ℕ) (e : harmless t ≡ true) (w : Reordered t t') (region speed : ℕ) where
  abbrev h : ℕ → ℕ
  h = new_header w.order

  abbrev g : ℕ → ℕ
  g = new_param w.order

  abbrev k : ℕ
  k = key_of t region speed

  -- what is told is the same but for the numbers
  told_follows : (d : List ℕ) (most : ℕ) → told (definition t') d most k ≡ retold h g d (definition t).sets (told (definition t) d most k)
  told_follows d most = go (first_base k (definition t).bases) refl
    where
      go : (o : Option Base) → first_base k (definition t).bases ≡ o
          → told (definition t') d most k ≡ retold h g d (definition t).sets (told (definition t) d most k)
      go None q =
          told_none t t' w h g (follows t t' w) region speed d most q
          ∙ ap (retold h g d (definition t).sets) (sym (none-told-before t t' w h g (follows t t' w) region speed d most q))
      go (Some b) q =
          told-after t t' w h g (follows t t' w) region speed d most b q
          ∙ ap (λ (a : Answer 7). retold h g d (definition t).sets (of_answer (definition t).sets d most a))
          (answer-moved d (trees b.params) (candidates_of k (definition t)) (stands t t' w h g (follows t t' w) region speed)
          (one_at_most t e k d (trees b.params)) (stands-moved t t' w h g (follows t t' w) region speed))
          ∙ ap (retold h g d (definition t).sets) (sym (told-before t t' w h g (follows t t' w) region speed d most b q))

  -- ---- two calls
  module _ (v : verdict t ≡ Ok tt) (d table : List ℕ) where
    abbrev tells : Told
    tells = told_of t d region speed (length table)

    tells-after : told_of t' d region speed (length table) ≡ retold h g d (definition t).sets tells
    tells-after =
        ap (told (definition t') d (length table / row_width)) (key_is t t' w h g (follows t t' w) region speed)
        ∙ told_follows d (length table / row_width)

    rows-after : (x : Told) → rows_of (retold h g d (definition t).sets x) ≡ map (renumbered g) (rows_of x)
    rows-after (no_base key) = refl
    rows-after no_candidate = refl
    rows-after (more_rows n) = refl
    rows-after (header x) = refl

    of_told_lem : (x : Told) → of_told t' (right d speed) (retold h g d (definition t).sets x) ≡ with_numbers h t' (of_told t (right d speed) x)
    of_told_lem (no_base key) = refl
    of_told_lem no_candidate = refl
    of_told_lem (more_rows n) = refl
    of_told_lem (header x) =
        λ i. Ok (record {
          number = h x.number;
          key = x.key;
          flags = record { ack = x.ack; routed = x.routed; multicast = x.multicast; error = x.error };
          name = header_name t' (h x.number);
          payload = x.offset;
          right = right d speed;
          rows = length-map x.rows (renumbered g) i;
        })

    sizes : (a b : Result DecodedHeader Refusal) → a ≡ with_numbers h t' b → sized d a ≡ with_numbers h t' (sized d b)
    sizes a b q = go (ltb 2048 (length d)) (ltb (length d) 2)
      where
        go : (m n : Bool) → cond m (Err (TooLong (length d))) (cond n (Err (TooShort (length d))) a)
            ≡ with_numbers h t' (cond m (Err (TooLong (length d))) (cond n (Err (TooShort (length d))) b))
        go true n = refl
        go false true = refl
        go false false = q

    after_is : decoded t' d region speed (length table) ≡ with_numbers h t' (decoded t d region speed (length table))
    after_is =
        rw (v, accepted-after t t' w v)
        (sizes (of_told t' (right d speed) (told_of t' d region speed (length table))) (of_told t (right d speed) tells)
        (ap (of_told t' (right d speed)) tells-after ∙ of_told_lem tells))

    left_is : (x : Told) (r : Result DecodedHeader Refusal) → table_after table x r ≡ table_of table (rows_of x) r
    left_is x (Ok a) = refl
    left_is x (Err y) = refl

    -- OV6: by a rearrangement of a harmless text, every MPDU gets the same answer and rows, but for the numbers of H and P lines
    pub same_answers : (r : Result DecodedHeader Refusal) (table₁ : List ℕ) → Decodes t d region speed table r table₁
        → (r' : Result DecodedHeader Refusal) (table₂ : List ℕ) → Decodes t' d region speed table r' table₂ → SameBut t' table h g r table₁ r' table₂
    same_answers r table₁ c₁ r' table₂ c₂ =
        record {
          answer = c₂.answer ∙ after_is ∙ ap (with_numbers h t') (sym c₁.answer);
          rows = rows_of tells;
          before = c₁.rows ∙ left_is tells r;
          after = c₂.rows ∙ left_is (told_of t' d region speed (length table)) r'
              ∙ ap (λ (rs : List (List ℕ)). table_of table rs r') (ap rows_of tells-after ∙ rows-after tells);
        }
