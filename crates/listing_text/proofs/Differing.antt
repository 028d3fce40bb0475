-- Laws of the first line that differs. Assumes nothing.
use mathlib.Core.Path.{◌≡◌, refl, sym, ap, ◌∙◌}
use mathlib.Core.Bool.{Bool, true, false}
use mathlib.Core.List.{List, [], ◌∷◌}
use Prim.Native.Nat.{ℕ, ◌+◌, ◌-◌, ◌*◌, ◌≤◌, ◌<◌}
use native.Mathlib.Omega.{arith}
use lib.ListN.{length, take, drop, length-append, length-drop}
use lib.Seq.{take_all, drop-drop, length-take-le}
use Rattle.laws.proofs.Lists.{done, tail}
use Rattle.std.specs.Prelude.{Option, Some, None}
use Rattle.text.specs.Text.{same}
use Rattle.text.specs.Print.{shown}
use Rattle.text.proofs.Laws.{same_lengths}
use Rattle.listing_text.specs.Listing.{row_width, stop_of, line_of, closed, begins, differs}
use Rattle.listing_text.specs.Steps.{Writes, Passes, rows_in}
use Rattle.listing_text.proofs.Lining.{line_front, rows_next, rows_none}

-- a line has a byte
pub line_some : (numbers : List ℕ) → 1 ≤ length numbers → 1 ≤ length (line_of numbers)
line_some [] h = absurd (omega arith)
line_some (x ∷ xs) h = omega (arith, length-append (shown x) (stop_of xs ∷ line_of xs))

-- ---- one line
module _ (s numbers line₀ : List ℕ) (n : ℕ) (line : List ℕ) (w : Writes numbers line₀ n line) where
  pub pass_short : length s < n → Passes numbers s None
  pass_short h =
      let e : take (length (line_of numbers)) s ≡ s = take_all (length (line_of numbers)) s (omega (arith, w.count)) in
      record {
        says = rw (e, ← same_lengths s (line_of numbers) (λ q. omega (arith, w.count))) refl;
        within = λ m q. absurd (let z : ◌≡◌ {A = ℕ} 0 1 = cc in omega arith);
      }

  module _ (b : Bool) (test : b ≡ same (take n s) (take n line)) (size : length line₀ ≡ row_width * 21) where
    is_test : b ≡ begins (line_of numbers) s
    is_test = test ∙ rw (line_front numbers line₀ n line w size, w.count) refl

    pub pass_same : n ≤ length s → b ≡ true → Passes numbers s (Some n)
    pass_same h q = record { says = rw (sym is_test ∙ q) (ap Some w.count); within = λ m e. let z : n ≡ m = cc in omega arith }

    pub pass_other : b ≡ false → Passes numbers s None
    pass_other q = record { says = rw (sym is_test ∙ q) refl; within = λ m e. absurd (let z : ◌≡◌ {A = ℕ} 0 1 = cc in omega arith) }

-- ---- line by line
pub record Comparing (listing rows : List ℕ) (count number at k : ℕ) : Type 0 where
  pub within : at ≤ length listing
  pub most : k ≤ count
  pub so : differs 1 (closed (rows_in count rows) number) listing
      ≡ differs (k + 1) (closed (rows_in (count - k) (drop (k * row_width) rows)) number) (drop at listing)

pub comparing_starts : (listing rows : List ℕ) (count number : ℕ) → Comparing listing rows count number 0 0
comparing_starts listing rows count number =
    let e : count - 0 ≡ count = omega arith in
    record { within = omega arith; most = omega arith; so = rw e refl }

-- the line of a row, or not
by_line : (k : ℕ) (r : List ℕ) (rs : List (List ℕ)) (s : List ℕ) (x : Option ℕ) → Passes r s x
    → ((x ≡ None → differs k (r ∷ rs) s ≡ Some k) × ((n : ℕ) → x ≡ Some n → differs k (r ∷ rs) s ≡ differs (k + 1) rs (drop n s)))
by_line k r rs s x p = go (begins (line_of r) s) refl
  where
    go : (b : Bool) → begins (line_of r) s ≡ b
        → ((x ≡ None → differs k (r ∷ rs) s ≡ Some k) × ((n : ℕ) → x ≡ Some n → differs k (r ∷ rs) s ≡ differs (k + 1) rs (drop n s)))
    go true e =
        let z : x ≡ Some (length (line_of r)) = p.says ∙ rw e refl in
        (λ h. absurd (let u : ◌≡◌ {A = ℕ} 0 1 = cc in omega arith), λ n h. let m : n ≡ length (line_of r) = cc in rw (e, m) refl)
    go false e =
        let z : x ≡ None = p.says ∙ rw e refl in
        (λ h. rw e refl, λ n h. absurd (let u : ◌≡◌ {A = ℕ} 0 1 = cc in omega arith))

module _ (listing rows : List ℕ) (count number at k : ℕ) (w : Comparing listing rows count number at k) (x : Option ℕ) where
  abbrev text : List ℕ
  text = take (length listing - at) (drop at listing)

  abbrev row : List ℕ
  row = take (k * row_width + row_width - k * row_width) (drop (k * row_width) rows)

  size : length text ≡ length listing - at
  size = ap length (tail listing at) ∙ length-drop at listing

  behind : (n : ℕ) → drop n (drop at listing) ≡ drop (at + n) listing
  behind n = drop-drop n at listing

  module _ (p : Passes row text x) (h : k < count) (room : count * row_width ≤ length rows) where
    seven : take row_width (drop (k * row_width) rows) ≡ row
    seven = let s : k * row_width + row_width - k * row_width ≡ row_width = omega arith in rw s refl

    abbrev further : List (List ℕ)
    further = closed (rows_in (count - (k + 1)) (drop ((k + 1) * row_width) rows)) number

    here : differs 1 (closed (rows_in count rows) number) listing ≡ differs (k + 1) (row ∷ further) text
    here =
        w.so ∙ ap (λ (rs : List (List ℕ)). differs (k + 1) (closed rs number) (drop at listing)) (rows_next rows count k h)
        ∙ ap (λ (r : List ℕ). differs (k + 1) (r ∷ further) (drop at listing)) seven
        ∙ ap (differs (k + 1) (row ∷ further)) (sym (tail listing at))

    pub comparing_here : x ≡ None → Some (k + 1) ≡ differs 1 (closed (rows_in count rows) number) listing
    comparing_here z = sym (here ∙ (by_line (k + 1) row further text x p).0 z)

    module _ (n : ℕ) (z : x ≡ Some n) where
      pub comparing_more : Comparing listing rows count number (at + n) (k + 1)
      comparing_more =
          record {
            within = omega (arith, p.within n z, size, w.within);
            most = omega arith;
            so = here ∙ (by_line (k + 1) row further text x p).1 n z
                ∙ ap (differs (k + 1 + 1) further) (ap (drop n) (tail listing at) ∙ behind n);
          }

      pub comparing_room : at + n ≤ length listing
      comparing_room = omega (arith, p.within n z, size, w.within)

  module _ (p : Passes (number ∷ []) text x) (h : count ≤ k) where
    last : differs 1 (closed (rows_in count rows) number) listing ≡ differs (count + 1) ((number ∷ []) ∷ []) text
    last =
        let e : k ≡ count = omega (arith, w.most) in
        w.so ∙ ap (λ (rs : List (List ℕ)). differs (k + 1) (closed rs number) (drop at listing)) (rows_none rows count k h)
        ∙ ap (λ (m : ℕ). differs (m + 1) ((number ∷ []) ∷ []) (drop at listing)) e
        ∙ ap (differs (count + 1) ((number ∷ []) ∷ [])) (sym (tail listing at))

    pub comparing_last : x ≡ None → Some (count + 1) ≡ differs 1 (closed (rows_in count rows) number) listing
    comparing_last z = sym (last ∙ (by_line (count + 1) (number ∷ []) [] text x p).0 z)

    module _ (n : ℕ) (z : x ≡ Some n) where
      past : differs 1 (closed (rows_in count rows) number) listing ≡ differs (count + 1 + 1) [] (drop (at + n) listing)
      past =
          last ∙ (by_line (count + 1) (number ∷ []) [] text x p).1 n z
          ∙ ap (differs (count + 1 + 1) []) (ap (drop n) (tail listing at) ∙ behind n)

      pub comparing_same : at + n ≡ length listing → None ≡ differs 1 (closed (rows_in count rows) number) listing
      comparing_same e = sym (past ∙ rw (done listing (at + n) (omega arith)) refl)

      pub comparing_longer : (at + n ≡ length listing → ⊥) → Some (count + 2) ≡ differs 1 (closed (rows_in count rows) number) listing
      comparing_longer e =
          let f : same (drop (at + n) listing) [] ≡ false =
          sym (same_lengths (drop (at + n) listing) [] (λ q. omega (arith, length-drop (at + n) listing, p.within n z, size, w.within))) in
          let m : count + 1 + 1 ≡ count + 2 = omega arith in
          sym (past ∙ rw f (ap Some m))

      pub comparing_end : at + n ≤ length listing
      comparing_end = omega (arith, p.within n z, size, w.within)

pub ruleset laws = (
  pass_short,
  pass_same,
  pass_other,
  comparing_starts,
  comparing_here,
  comparing_more,
  comparing_room,
  comparing_last,
  comparing_same,
  comparing_longer,
  comparing_end,
)
