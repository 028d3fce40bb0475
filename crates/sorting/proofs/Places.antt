-- Places in an accepted text: the line there, and where the next begins. Assumes nothing.
use mathlib.Core.Path.{◌≡◌, refl, sym, ap, ◌∙◌, subst}
use mathlib.Core.Bool.{Bool, true, false, cond}
use mathlib.Core.List.{List, [], ◌∷◌, ◌++◌, append_assoc, append-nil}
use Prim.Native.Nat.{ℕ, suc, ◌+◌, ◌-◌, ◌≤◌, ◌<◌}
use native.Mathlib.Omega.{arith}
use native.Mathlib.Nat.{add-zero}
use lib.Dec.{eqb, ltb}
use lib.ListN.{length, get_or, take, drop, length-drop}
use lib.Seq.{drop-drop, length-take-le, take-add, get_or-take, get_or-drop}
use borrow.Author.Tests.{eqb-true, ltb-true, ltb-false}
use Rattle.laws.proofs.Lists.{next, done}
use Rattle.refusal.specs.declared.Refusal.TheVariants.{Form}
use Rattle.text.specs.Text.{split, lines, fields}
use Rattle.text.specs.Scan.{cut}
use Rattle.text.specs.Records.{Readable}
use Rattle.text.specs.declared.Place.{Place}
use Rattle.text.specs.Judge.{judge, sentence}
use Rattle.text.proofs.Laws.{split-more, split-last}
use Rattle.text.proofs.Judging.{split_some, judge_open, judge_line}
use Rattle.text.proofs.Reading.{accepted_line, accepted-lines, readable-start}
use Rattle.text.proofs.Passing.{kind_byte}
use Rattle.frame_text.specs.Form.{Record, form}
use Rattle.frame_text.specs.Rules.{letter, rules, verdict}
use Rattle.frame_definition.specs.Find.{owner_kind}
use Rattle.frame_definition.proofs.Views.{View, view}
use Rattle.frame_definition.proofs.Finding.{some_letter, owner_kind_lem}
use Rattle.reorder.specs.Blocks.{owns_more, until_next, ended, Line, says_of}
use Rattle.reorder.proofs.Whole.{none_first}
use Rattle.sorting.specs.Sorting.{lines_at, line_at, behind, starts_from, starts_at, bytes_of, first_section, section_bytes, Here, Between, Starts, Ends}
use Rattle.std.specs.Prelude.{Some, Ok, Err}

-- ---- lines of any text
ended-more : (l : Line) (ms : List Line) → (ms ≡ [] → ⊥) → ended (l ∷ ms) ≡ l ∷ ended ms
ended-more l [] h = absurd (h refl)
ended-more l (m ∷ ms) h = refl

drop-on : (t : List ℕ) (p n : ℕ) → drop n (drop p t) ≡ drop (p + n) t
drop-on t p n = drop-drop n p t

-- ---- bytes
pub cut-within : (l : List ℕ) → cut 0x0a l ≤ length l
cut-within [] = omega arith
cut-within (x ∷ xs) = go (eqb x 0x0a) (cut-within xs)
  where
    go : (t : Bool) → cut 0x0a xs ≤ length xs → cond t 0 (suc (cut 0x0a xs)) ≤ suc (length xs)
    go true ih = omega arith
    go false ih = omega arith

cut_byte : (l : List ℕ) → cut 0x0a l < length l → get_or l (cut 0x0a l) 0 ≡ 0x0a
cut_byte [] h = absurd (omega arith)
cut_byte (x ∷ xs) h = go (eqb x 0x0a) refl h (cut_byte xs)
  where
    go : (t : Bool) → eqb x 0x0a ≡ t → cond t 0 (suc (cut 0x0a xs)) < suc (length xs) → (cut 0x0a xs < length xs → get_or xs (cut 0x0a xs) 0 ≡ 0x0a)
        → get_or (x ∷ xs) (cond t 0 (suc (cut 0x0a xs))) 0 ≡ 0x0a
    go true q l ih = eqb-true x 0x0a q
    go false q l ih = ih (omega arith)

take_more : (l : List ℕ) (n : ℕ) → n < length l → take (n + 1) l ≡ take n l ++ (get_or l n 0 ∷ [])
take_more l n h =
    take-add n 1 l ∙ ap (λ (z : List ℕ). take n l ++ z) (rw (next l n h) refl)

-- ---- lines of any text, by place
pub lines_more : (t : List ℕ) (p : ℕ) → cut 0x0a (drop p t) < length (drop p t) → lines_at t p ≡ line_at t p ∷ lines_at t (behind t p)
lines_more t p h =
    ap ended (split-more 10 (drop p t) h)
    ∙ ended-more (line_at t p) (split 10 (drop (cut 10 (drop p t) + 1) (drop p t))) (split_some 10 (drop (cut 10 (drop p t) + 1) (drop p t)))
    ∙ ap (λ (s : List ℕ). line_at t p ∷ ended (lines s)) (drop-on t p (cut 10 (drop p t) + 1))

pub line_long : (t : List ℕ) (p : ℕ) → cut 0x0a (drop p t) < length (drop p t) → length (line_at t p) ≡ cut 0x0a (drop p t)
line_long t p h = length-take-le (cut 10 (drop p t)) (drop p t) (omega arith)

-- ---- a line of an accepted text
pub record Stepped (t : List ℕ) (p : ℕ) : Type 0 where
  pub said : Record
  pub says : says_of (line_at t p) ≡ Some said
  pub byte : get_or t p 0 ≡ letter said
  pub is_ended : cut 0x0a (drop p t) < length (drop p t)
  pub within : behind t p ≤ length t
  pub next : Here t (behind t p)

module _ (t : List ℕ) (π : Place) (readable : Readable rules t π) (inside : π.at < length t) where
  abbrev here : List ℕ
  here = drop π.at t

  long : 0 < length here
  long = omega (arith, length-drop π.at t)

  ended_here : cut 0x0a here < length here
  ended_here = go (ltb (cut 10 here) (length here)) refl
    where
      go : (b : Bool) → ltb (cut 10 here) (length here) ≡ b → cut 10 here < length here
      go true q = ltb-true (cut 10 here) (length here) q
      go false q =
          let c : cut 10 here ≡ length here = omega (arith, ltb-false (cut 10 here) (length here) q, cut-within here) in
          let z : Err (Form π.line) ≡ (Ok tt) =
          sym (judge_open rules readable.before π.line here long) ∙ (rw (split-last 10 here c) at readable.good) in
          absurd (let w : ◌≡◌ {A = ℕ} 0 1 = cc in omega arith)

  abbrev line : Line
  line = line_at t π.at

  judged : judge rules readable.before π.line (lines here)
      ≡ sentence rules readable.before π.line (form (fields line))
      (λ x. judge rules (x ∷ readable.before) (suc π.line) (lines (drop (behind t π.at) t)))
  judged =
      ap (judge rules readable.before π.line) (split-more 10 here ended_here)
      ∙ judge_line rules readable.before π.line line (split 10 (drop (cut 10 here + 1) here)) (split_some 10 (drop (cut 10 here + 1) here))
      ∙ ap (λ (z : List ℕ). sentence rules readable.before π.line (form (fields line))
      (λ x. judge rules (x ∷ readable.before) (suc π.line) (lines z))) (drop-on t π.at (cut 10 here + 1))

  stepped_at : Stepped t π.at
  unfolding says_of
  stepped_at =
      let a = accepted_line rules readable.before π.line (form (fields line)) _ (sym judged ∙ readable.good) in
      let v : View (fields line) a.said = view (fields line) a.said a.is in
      let k : (get_or line 0 0 ≡ letter a.said) × (0 < length line) = kind_byte line (letter a.said) v.kind (some_letter a.said) in
      let first : get_or t π.at 0 ≡ get_or line 0 0 =
      let n : length line ≡ cut 10 here = line_long t π.at ended_here in
      rw (get_or-take (cut 10 here) here 0 0 (omega (arith, k.1)), get_or-drop π.at t 0 0, add-zero) refl in
      let w : behind t π.at ≤ length t = omega (arith, ended_here, length-drop π.at t) in
      record {
        said = a.said;
        says = a.is;
        byte = first ∙ k.0;
        is_ended = ended_here;
        within = w;
        next = record {
          place = record { at = behind t π.at; line = suc π.line };
          at_is = refl;
          readable = record {
            inn = record { at_in = w; line_in = omega (arith, readable.inn.line_in) };
            before = a.said ∷ readable.before;
            good = a.on;
          };
        };
      }

pub stepped : (t : List ℕ) (p : ℕ) → Here t p → p < length t → Stepped t p
stepped t p h inside =
    subst (Stepped t) h.at_is (stepped_at t h.place h.readable (subst (λ (k : ℕ). k < length t) (sym h.at_is) inside))

-- ---- the text's start
pub between_start : (t : List ℕ) → verdict t ≡ Ok tt → Between t 0
between_start t v =
    record {
      here = record { place = record { at = 0; line = 1 }; at_is = refl; readable = readable-start rules t (record { at = 0; line = 1 }) v refl };
      owned = none_first (lines t) 1 (accepted-lines rules t v);
    }

-- ---- the section at a place
-- with the lines up to a place: what is left of the section, and of the sections
pub record Reaches (t : List ℕ) (p q : ℕ) : Type 0 where
  pub bytes : section_bytes t p ≡ take (q - p) (drop p t) ++ bytes_of (until_next says_of (lines_at t q))
  pub starts : starts_at t p ≡ p ∷ starts_at t q
  pub here : Here t q
  pub on : p < q
  pub within : q ≤ length t

module _ (t : List ℕ) (p : ℕ) where
  line_bytes_lem : cut 0x0a (drop p t) < length (drop p t) → take (behind t p - p) (drop p t) ≡ line_at t p ++ (0x0a ∷ [])
  line_bytes_lem h =
      let n : behind t p - p ≡ cut 10 (drop p t) + 1 = omega arith in
      rw n (take_more (drop p t) (cut 10 (drop p t)) h ∙ ap (λ (x : ℕ). line_at t p ++ (x ∷ [])) (cut_byte (drop p t) h))

  pub owned-owns : (s : Stepped t p) → until_next says_of (lines_at t p) ≡ [] → owns_more (says_of (line_at t p)) ≡ true
  owned-owns s e = go (owns_more (says_of (line_at t p))) refl (ap (until_next says_of) (sym (lines_more t p s.is_ended)) ∙ e)
    where
      go : (b : Bool) → owns_more (says_of (line_at t p)) ≡ b → cond b [] (line_at t p ∷ until_next says_of (lines_at t (behind t p))) ≡ []
          → b ≡ true
      go true q f = refl
      go false q f = absurd (let z : ◌≡◌ {A = ℕ} 0 1 = cc in omega arith)

  pub starts_step : (s : Stepped t p) → starts_at t p ≡ cond (owns_more (says_of (line_at t p))) (p ∷ starts_at t (behind t p)) (starts_at t (behind t p))
  starts_step s =
      ap (starts_from p) (lines_more t p s.is_ended)
      ∙ ap (λ (k : ℕ). cond (owns_more (says_of (line_at t p))) (p ∷ starts_from k (lines_at t (behind t p))) (starts_from k (lines_at t (behind t p))))
      (let n : length (line_at t p) ≡ cut 10 (drop p t) = line_long t p s.is_ended in omega (arith, n))

  pub reaches_first : Starts t p → (q : ℕ) → q ≡ behind t p → Reaches t p q
  unfolding section_bytes
  reaches_first w q e =
      let s = stepped t p w.between.here w.inside in
      subst (Reaches t p) (sym e)
      (record {
        bytes =
            ap (λ (ls : List Line). bytes_of (first_section ls)) (lines_more t p s.is_ended)
            ∙ sym (append_assoc (line_at t p) (0x0a ∷ []) (bytes_of (until_next says_of (lines_at t (behind t p)))))
            ∙ ap (λ (z : List ℕ). z ++ bytes_of (until_next says_of (lines_at t (behind t p)))) (sym (line_bytes_lem s.is_ended));
        starts = starts_step s ∙ ap (λ (b : Bool). cond b (p ∷ starts_at t (behind t p)) (starts_at t (behind t p))) (owned-owns s w.between.owned);
        here = s.next;
        on = omega arith;
        within = s.within;
      })

module _ (t : List ℕ) (p q : ℕ) (w : Reaches t p q) where
  -- at the end of the text
  pub reaches_end : length t ≤ q → Ends t p q
  reaches_end l =
      let e : drop q t ≡ [] = done t q l in
      let none_left : until_next says_of (lines_at t q) ≡ [] = ap (λ (z : List ℕ). until_next says_of (ended (lines z))) e in
      record {
        bytes = w.bytes ∙ ap (λ (ls : List Line). take (q - p) (drop p t) ++ bytes_of ls) none_left ∙ append-nil (take (q - p) (drop p t));
        starts = w.starts;
        next = record { here = w.here; owned = none_left };
        on = w.on;
        within = w.within;
      }

  module _ (inside : q < length t) (b : Bool) (is : b ≡ owner_kind (get_or t q 0)) where
    it : Stepped t q
    it = stepped t q w.here inside

    owns_is : owns_more (says_of (line_at t q)) ≡ b
    owns_is = ap owns_more it.says ∙ owner_kind_lem it.said ∙ ap owner_kind (sym it.byte) ∙ sym is

    -- at the next owner
    pub reaches_owner : b ≡ true → Ends t p q
    reaches_owner e =
        let none_left : until_next says_of (lines_at t q) ≡ [] =
        ap (until_next says_of) (lines_more t q it.is_ended)
        ∙ ap (λ (x : Bool). cond x [] (line_at t q ∷ until_next says_of (lines_at t (behind t q)))) (owns_is ∙ e) in
        record {
          bytes = w.bytes ∙ ap (λ (ls : List Line). take (q - p) (drop p t) ++ bytes_of ls) none_left ∙ append-nil (take (q - p) (drop p t));
          starts = w.starts;
          next = record { here = w.here; owned = none_left };
          on = w.on;
          within = w.within;
        }

    -- past a line that owns nothing
    pub reaches_more : b ≡ false → (r : ℕ) → r ≡ behind t q → Reaches t p r
    reaches_more e r f =
        let more : until_next says_of (lines_at t q) ≡ line_at t q ∷ until_next says_of (lines_at t (behind t q)) =
        ap (until_next says_of) (lines_more t q it.is_ended)
        ∙ ap (λ (x : Bool). cond x [] (line_at t q ∷ until_next says_of (lines_at t (behind t q)))) (owns_is ∙ e) in
        subst (Reaches t p) (sym f)
        (record {
          bytes =
              w.bytes
              ∙ ap (λ (ls : List Line). take (q - p) (drop p t) ++ bytes_of ls) more
              ∙ ap (λ (z : List ℕ). take (q - p) (drop p t) ++ z)
              (sym (append_assoc (line_at t q) (0x0a ∷ []) (bytes_of (until_next says_of (lines_at t (behind t q))))))
              ∙ sym (append_assoc (take (q - p) (drop p t)) (line_at t q ++ (0x0a ∷ [])) (bytes_of (until_next says_of (lines_at t (behind t q)))))
              ∙ ap (λ (z : List ℕ). z ++ bytes_of (until_next says_of (lines_at t (behind t q)))) joins;
          starts = w.starts ∙ ap (λ (ps : List ℕ). p ∷ ps) (starts_step t q it
              ∙ ap (λ (x : Bool). cond x (q ∷ starts_at t (behind t q)) (starts_at t (behind t q))) (owns_is ∙ e));
          here = it.next;
          on = omega (arith, w.on);
          within = it.within;
        })
      where
        joins : take (q - p) (drop p t) ++ (line_at t q ++ (0x0a ∷ [])) ≡ take (behind t q - p) (drop p t)
        joins =
            let n : behind t q - p ≡ q - p + (behind t q - q) = omega (arith, w.on) in
            let m : p + (q - p) ≡ q = omega (arith, w.on) in
            ap (λ (z : List ℕ). take (q - p) (drop p t) ++ z) (sym (line_bytes_lem t q it.is_ended))
            ∙ ap (λ (k : ℕ). take (q - p) (drop p t) ++ take (behind t q - q) (drop k t)) (sym m)
            ∙ ap (λ (z : List ℕ). take (q - p) (drop p t) ++ take (behind t q - q) z) (sym (drop-on t p (q - p)))
            ∙ sym (take-add (q - p) (behind t q - q) (drop p t))
            ∙ ap (λ (k : ℕ). take k (drop p t)) (sym n)
