-- Laws of a listing's form. Assumes nothing.
use mathlib.Core.Path.{◌≡◌, refl, sym, ap, ◌∙◌}
use mathlib.Core.Bool.{Bool, true, false, cond, not, ◌&&◌}
use mathlib.Core.List.{List, [], ◌∷◌}
use Prim.Native.Nat.{ℕ, zero, suc, ◌+◌, ◌-◌, ◌≤◌, ◌<◌}
use native.Mathlib.Omega.{arith}
use lib.Dec.{eqb}
use lib.ListN.{length, take, drop, length-drop}
use lib.Seq.{take_all, drop-drop}
use borrow.Author.Tests.{eqb-true, eqb-false, ne_eqb}
use Rattle.laws.proofs.Lists.{done, tail}
use Rattle.text.specs.Text.{onto, split, lines, fields, up_to}
use Rattle.text.specs.Scan.{cut}
use Rattle.text.specs.declared.Place.{Place}
use Rattle.text.proofs.Laws.{split-last, split-more}
use Rattle.text.proofs.Judging.{split_some}
use Rattle.numerals.specs.Numbers.{most, value_of}
use Rattle.numerals.proofs.Decimals.{value_is, value_not}
use Rattle.listing_text.specs.Listing.{row_width, numbers_in, at_end, names, last_of, form_of}
use Rattle.listing_text.specs.declared.form.Named.{Named}
use Rattle.std.specs.Prelude.{Option, Some, None, is_some, Result, Err}

-- ---- the numbers of a line, field by field
pub record Counting (s : List ℕ) (at more : ℕ) : Type 0 where
  pub within : at ≤ length s
  pub so : numbers_in row_width (fields s) ≡ numbers_in more (fields (drop at s))

pub counting_starts : (s : List ℕ) → Counting s 0 row_width
counting_starts s = record { within = omega arith; so = refl }

pub counting_done : (s : List ℕ) (at more : ℕ) → Counting s at more → more ≤ 0 → false ≡ numbers_in row_width (fields s)
counting_done s at more w h =
    let z : more ≡ 0 = omega arith in
    sym (w.so ∙ rw z (some_field (fields (drop at s)) (split_some 9 (drop at s))))
  where
    some_field : (fs : List (List ℕ)) → (fs ≡ [] → ⊥) → numbers_in 0 fs ≡ false
    some_field [] n = absurd (n refl)
    some_field (f ∷ fs) n = refl

counted : (l : List ℕ) (e more : ℕ) (fs : List (List ℕ)) → 0 < more → fields l ≡ take e l ∷ fs
    → numbers_in more (fields l) ≡ (up_to most (take e l) && numbers_in (more - 1) fs)
counted l e more fs some is =
    let m : more ≡ suc (more - 1) = omega arith in
    rw is (ap (λ (k : ℕ). numbers_in k (take e l ∷ fs)) m)

no_number : (r : Option ℕ) → is_some r ≡ false → r ≡ None
no_number None e = refl
no_number (Some v) e = absurd (let z : ◌≡◌ {A = ℕ} 0 1 = cc in omega arith)

some_number : (r : Option ℕ) → is_some r ≡ true → (v : ℕ) × (r ≡ Some v)
some_number None e = absurd (let z : ◌≡◌ {A = ℕ} 0 1 = cc in omega arith)
some_number (Some v) e = (v, refl)

module _ (s : List ℕ) (at more : ℕ) (w : Counting s at more) (some : 0 < more) (e : ℕ)
    (is_cut : e ≡ cut 9 (take (length s - at) (drop at s))) where
  abbrev rest : List ℕ
  rest = take (length s - at) (drop at s)

  left : rest ≡ drop at s
  left = tail s at

  -- the first field and what follows
  module _ (fs : List (List ℕ)) (is : fields rest ≡ take e rest ∷ fs) where
    counts : numbers_in row_width (fields s) ≡ (up_to most (take e rest) && numbers_in (more - 1) fs)
    counts = w.so ∙ ap (λ (l : List ℕ). numbers_in more (fields l)) (sym left) ∙ counted rest e more fs some is

  last-field : e ≡ length rest → fields rest ≡ take e rest ∷ []
  last-field h = split-last 9 rest (sym is_cut ∙ h) ∙ ap (λ (l : List ℕ). l ∷ []) (sym (take_all e rest (omega arith)))

  further-field : e ≤ length rest → (e ≡ length rest → ⊥) → fields rest ≡ take e rest ∷ fields (drop (e + 1) rest)
  further-field l h =
      split-more 9 rest (omega (arith, is_cut)) ∙ ap (λ (k : ℕ). take k rest ∷ fields (drop (k + 1) rest)) (sym is_cut)

  module _ (r : Option ℕ) (reads : r ≡ value_of (take e rest)) (none : Bool) (is_none : is_some r ≡ not none) where
    pub counting_wrong : e ≤ length rest → none ≡ true → false ≡ numbers_in row_width (fields s)
    counting_wrong l q = go (eqb e (length rest)) refl
      where
        wrong : up_to most (take e rest) ≡ false
        wrong = value_not (take e rest) r reads (no_number r (rw q at is_none))

        go : (b : Bool) → eqb e (length rest) ≡ b → false ≡ numbers_in row_width (fields s)
        go true t = sym (counts [] (last-field (eqb-true e (length rest) t)) ∙ rw wrong refl)
        go false t = sym (counts (fields (drop (e + 1) rest)) (further-field l (eqb-false e (length rest) t)) ∙ rw wrong refl)

    module _ (q : none ≡ false) where
      number : up_to most (take e rest) ≡ true
      number = let n = some_number r (rw q at is_none) in (value_is (take e rest) r reads n.0 n.1).0

      pub counting_last : e ≡ length rest → eqb (more - 1) 0 ≡ numbers_in row_width (fields s)
      counting_last h = sym (counts [] (last-field h) ∙ rw number (go (more - 1)))
        where
          go : (k : ℕ) → numbers_in k [] ≡ eqb k 0
          go zero = refl
          go (suc k) = rw (ne_eqb (suc k) 0 (λ z. omega arith))

      pub counting_more : e ≤ length rest → (e ≡ length rest → ⊥) → Counting s (at + e + 1) (more - 1)
      counting_more l h =
          let n : length rest ≡ length s - at = ap length left ∙ length-drop at s in
          let d : at + (e + 1) ≡ at + e + 1 = omega arith in
          record {
            within = omega (arith, w.within);
            so = counts (fields (drop (e + 1) rest)) (further-field l h)
                ∙ ap (λ (t : Bool). t && numbers_in (more - 1) (fields (drop (e + 1) rest))) number
                ∙ ap (λ (l : List ℕ). numbers_in (more - 1) (fields l))
                (ap (drop (e + 1)) left ∙ drop-drop (e + 1) at s ∙ ap (λ (k : ℕ). drop k s) d);
          }

-- ---- the last line
module _ (s : List ℕ) (line : ℕ) (r : Option ℕ) (reads : r ≡ value_of s) where
  pub last-names : (v : ℕ) → r ≡ Some v → names v line ≡ last_of line s
  last-names v q = let i = value_is s r reads v q in rw (i.0, i.1) refl

  pub last_wrong : r ≡ None → Err line ≡ last_of line s
  last_wrong q = rw (value_not s r reads q) refl

-- ---- line by line
pub form_line : (n : ℕ) (l : List ℕ) (ls : List (List ℕ)) → (ls ≡ [] → ⊥)
    → form_of n (l ∷ ls) ≡ cond (at_end ls) (last_of n l) (cond (numbers_in row_width (fields l)) (form_of (n + 1) ls) (Err n))
form_line n l [] h = absurd (h refl)
form_line n l (m ∷ ms) h = refl

end_some : (ls : List (List ℕ)) → (ls ≡ [] → ⊥) → at_end ([] ∷ ls) ≡ false
end_some [] h = absurd (h refl)
end_some (m ∷ ms) h = refl

end_onto : (x : ℕ) (ls : List (List ℕ)) → at_end (onto x ls) ≡ false
end_onto x [] = refl
end_onto x (m ∷ ms) = refl

pub end_not : (s : List ℕ) → 0 < length s → at_end (lines s) ≡ false
end_not [] h = absurd (omega arith)
end_not (x ∷ xs) h = go (eqb x 10)
  where
    go : (b : Bool) → at_end (cond b ([] ∷ split 10 xs) (onto x (split 10 xs))) ≡ false
    go true = end_some (split 10 xs) (split_some 10 xs)
    go false = end_onto x (split 10 xs)

pub record Forming (listing : List ℕ) (p : Place) : Type 0 where
  pub within : p.at ≤ length listing
  pub line_in : p.line ≤ p.at + 1
  pub so : form_of 1 (lines listing) ≡ form_of p.line (lines (drop p.at listing))

pub forming_starts : (listing : List ℕ) (p : Place) → p ≡ record { at = 0; line = 1 } → Forming listing p
forming_starts listing p e = rw e (record { within = omega arith; line_in = omega arith; so = refl })

module _ (listing : List ℕ) (p : Place) (w : Forming listing p) (e : ℕ)
    (is_cut : e ≡ cut 10 (take (length listing - p.at) (drop p.at listing))) where
  abbrev text : List ℕ
  text = take (length listing - p.at) (drop p.at listing)

  text_is : text ≡ drop p.at listing
  text_is = tail listing p.at

  size : length text ≡ length listing - p.at
  size = ap length text_is ∙ length-drop p.at listing

  pub forming_open : e ≡ length text → Err p.line ≡ form_of 1 (lines listing)
  forming_open h =
      sym (w.so ∙ ap (λ (l : List ℕ). form_of p.line (lines l)) (sym text_is) ∙ ap (form_of p.line) (split-last 10 text (sym is_cut ∙ h)))

  module _ (l : e ≤ length text) (h : e ≡ length text → ⊥) where
    here : form_of 1 (lines listing)
        ≡ cond (at_end (lines (drop (p.at + e + 1) listing))) (last_of p.line (take e text))
        (cond (numbers_in row_width (fields (take e text))) (form_of (p.line + 1) (lines (drop (p.at + e + 1) listing))) (Err p.line))
    here =
        let d : p.at + (e + 1) ≡ p.at + e + 1 = omega arith in
        let s : lines (drop p.at listing) ≡ take e text ∷ lines (drop (p.at + e + 1) listing) =
        ap (split 10) (sym text_is) ∙ split-more 10 text (omega (arith, is_cut))
        ∙ ap (λ (k : ℕ). take k text ∷ lines (drop (k + 1) text)) (sym is_cut)
        ∙ ap (λ (z : List ℕ). take e text ∷ lines z)
        (ap (drop (e + 1)) text_is ∙ drop-drop (e + 1) p.at listing ∙ ap (λ (k : ℕ). drop k listing) d) in
        w.so ∙ ap (form_of p.line) s ∙ (form_line p.line (take e text) (lines (drop (p.at + e + 1) listing))
        (split_some 10 (drop (p.at + e + 1) listing)))

    pub forming_last : (r : Result Named ℕ) → p.at + e + 1 ≡ length listing → r ≡ last_of p.line (take e text) → r ≡ form_of 1 (lines listing)
    forming_last r n q = q ∙ sym (here ∙ rw (done listing (p.at + e + 1) (omega arith)) refl)

    module _ (n : p.at + e + 1 ≡ length listing → ⊥) (b : Bool) (row : b ≡ numbers_in row_width (fields (take e text))) where
      further : at_end (lines (drop (p.at + e + 1) listing)) ≡ false
      further = end_not (drop (p.at + e + 1) listing) (omega (arith, length-drop (p.at + e + 1) listing, size, w.within))

      pub forming_wrong : b ≡ false → Err p.line ≡ form_of 1 (lines listing)
      forming_wrong q = sym (here ∙ rw (further, sym row ∙ q) refl)

      pub forming_more : b ≡ true → Forming listing (record { at = p.at + e + 1; line = p.line + 1 })
      forming_more q =
          record {
            within = omega (arith, size, w.within);
            line_in = omega (arith, w.line_in);
            so = here ∙ rw (further, sym row ∙ q) refl;
          }

pub ruleset laws = (
  counting_starts,
  counting_done,
  counting_wrong,
  counting_last,
  counting_more,
  last-names,
  last_wrong,
  forming_starts,
  forming_open,
  forming_last,
  forming_wrong,
  forming_more,
)
