-- Laws of looking up the lines that a row of a command names. Assumes nothing.
use mathlib.Core.Path.{◌≡◌, refl, sym, ap, ◌∙◌}
use mathlib.Core.Bool.{Bool, true, false, cond, not, ◌&&◌, ◌||◌}
use mathlib.Core.List.{List, [], ◌∷◌}
use Prim.Native.Nat.{ℕ, ◌≤◌, ◌<◌}
use native.Mathlib.Omega.{arith}
use lib.Dec.{eqb}
use lib.ListN.{length}
use borrow.Author.Tests.{eq-eqb, ne_eqb}
use Rattle.text.specs.Place.{Passes}
use Rattle.text.specs.Records.{Readable}
use Rattle.text.specs.declared.Place.{Place}
use Rattle.text.proofs.Reading.{readable-start, rest_end}
use Rattle.text.proofs.Passing.{passing}
use Rattle.command_text.specs.Form.{Record, param, group, item, variant, array, bit_flag, bit_field, const, bitmask}
use Rattle.command_text.specs.Rules.{begins, rules, verdict}
use Rattle.command_class.specs.Definition.{Item, numbered, under, letter, const_in}
use Rattle.command_class.specs.Find.{from, among, Says, IsRead, Begins, Follows}
use Rattle.command_class.specs.declared.Row.{Row}
use Rattle.command_class.specs.declared.Read.{Read}
use Rattle.command_class.proofs.Beginning.{follows_at, follows_less}
use Rattle.command_class.proofs.Finding.{same_line, begins_kind}
use Rattle.command_rules.specs.Field.{first, as_array, as_variant, array_ascii, variant_ascii}
use Rattle.command_value.specs.Params.{lines_of, since, behind, is_ascii, flag_in, is_flag}
use Rattle.command_value.specs.Lookup.{Stands, Behind, ascii_of, first_ascii, ascii_here, NamedAt, IsShown, kept_in, ascii_by, name_by, Placed}
use Rattle.command_value.specs.declared.lookup.Shown.{Shown}
use Rattle.command_value.specs.declared.lookup.Shown.TheVariants.{Ascii, Named, Plain}
use Rattle.std.specs.Prelude.{Ok}

-- no line is left at the end of the text
none_left : (t : List ℕ) (p : Place) → length t ≤ p.at → from t p ≡ []
none_left t p e = ap (numbered p.line) (rest_end rules t p e)

-- ---- find_line
pub record Lining (t : List ℕ) (n : ℕ) (p : Place) : Type 0 where
  pub readable : Readable rules t p
  pub so : since n (from t p) ≡ since n (lines_of t)

pub line_start : (t : List ℕ) (n : ℕ) (p : Place) → verdict t ≡ Ok tt → p ≡ record { at = 0; line = 1 } → Lining t n p
line_start t n p a e = rw e (record { readable = readable-start rules t _ a refl; so = refl })

module _ (t : List ℕ) (n : ℕ) (p : Place) (g : Lining t n p) where
  pub line_end : length t ≤ p.at → Stands t n p
  unfolding since
  line_end e = record { lines = none_left t p e ∙ (rw (none_left t p e) at g.so); readable = g.readable }

  pub line_hit : p.at < length t → p.line ≡ n → Stands t n p
  unfolding since
  line_hit inside e =
      let w : (q : Place) × Passes t p q = passing rules t p g.readable inside in
      let f : Follows t p w.0 = follows_at t p w.0 g.readable inside w.1 in
      let here : since n (from t p) ≡ from t p = rw (f.lines, eq-eqb p.line n e) in
      record { lines = sym here ∙ g.so; readable = g.readable }

  pub line_next : (q : Place) → Follows t p q → (p.line ≡ n → ⊥) → Lining t n q
  unfolding since
  line_next q f e = record { readable = f.readable; so = rw (f.lines, ne_eqb p.line n e) at g.so }

pub ruleset line_laws = (line_start, line_end, line_hit, line_next, follows_less)

-- ---- find_items, is_flag: behind the place p that find_line answers
module _ (t : List ℕ) (n : ℕ) (p : Place) (s : Stands t n p) where
  pub stands-readable : Readable rules t p
  stands-readable = s.readable

  pub items-behind : (q : Place) → Follows t p q → Behind t n q
  items-behind q f = record { lines = ap behind (sym f.lines ∙ s.lines); readable = f.readable }

  pub items-none : length t ≤ p.at → Behind t n p
  items-none e = record { lines = none_left t p e ∙ ap behind (sym (none_left t p e) ∙ s.lines); readable = s.readable }

  pub flag_is : (kind : ℕ) → Begins t p kind → eqb kind 84 ≡ is_flag t n
  flag_is kind b = ap (λ (k : ℕ). eqb k 84) b.kind ∙ ap flag_in (sym b.lines ∙ s.lines)

  pub flag-none : length t ≤ p.at → false ≡ is_flag t n
  flag-none e = ap flag_in (sym (none_left t p e) ∙ s.lines)

pub ruleset stand_laws = (stands-readable, items-behind, items-none, flag_is, flag-none)

-- ---- is_ascii_at, is_seen, keep
-- what an A or an R says of it
ascii_said : (x : Record) (r : Row) → Says x r → among 65 82 82 (letter x) ≡ true → r.ascii ≡ ascii_of x
ascii_said (param q) r s e = absurd (let z : ◌≡◌ {A = ℕ} 0 1 = cc in omega arith)
ascii_said (group g) r s e = absurd (let z : ◌≡◌ {A = ℕ} 0 1 = cc in omega arith)
ascii_said (item (variant v)) r s e = s.3
ascii_said (item (array n a)) r s e = s.1
ascii_said (item (bit_flag m n)) r s e = absurd (let z : ◌≡◌ {A = ℕ} 0 1 = cc in omega arith)
ascii_said (item (bit_field b)) r s e = absurd (let z : ◌≡◌ {A = ℕ} 0 1 = cc in omega arith)
ascii_said (item (const v n)) r s e = absurd (let z : ◌≡◌ {A = ℕ} 0 1 = cc in omega arith)
ascii_said (item (bitmask n)) r s e = absurd (let z : ◌≡◌ {A = ℕ} 0 1 = cc in omega arith)

module _ (t : List ℕ) (p : Place) (k : ℕ) (seen : Bool) where
  pub here_seen : seen ≡ true → false ≡ ascii_here k seen (from t p)
  here_seen e = rw e (go (from t p))
    where
      go : (is : List Item) → false ≡ ascii_here k true is
      go [] = refl
      go (i ∷ is) = refl

  module _ (kind : ℕ) (begin : Begins t p kind) (new : seen ≡ false) where
    pub here_other : (kind ≡ k → ⊥) → false ≡ ascii_here k seen (from t p)
    here_other h = rw (begin.lines, new, ne_eqb (letter begin.said) k (λ e. h (begin.kind ∙ e)))

    pub here_read : (r : Read) → IsRead t p r → among 65 82 82 k ≡ true → kind ≡ k → r.row.ascii ≡ ascii_here k seen (from t p)
    here_read r read a h =
        let s : begin.said ≡ read.said = (same_line p.line _ _ begin.others (from t r.next) (sym begin.lines ∙ read.lines)).0 in
        let l : letter read.said ≡ k = ap letter (sym s) ∙ sym begin.kind ∙ h in
        ascii_said read.said r.row read.says (rw l a) ∙ rw (read.lines, new, eq-eqb (letter read.said) k l) refl

pub seen_before : (seen : Bool) (kind letter : ℕ) → seen ≡ true → true ≡ (seen || eqb kind letter)
seen_before seen kind letter e = rw e refl

pub seen_now : (seen : Bool) (kind letter : ℕ) → seen ≡ false → eqb kind letter ≡ (seen || eqb kind letter)
seen_now seen kind letter e = rw e refl

module _ (s : Shown) (n : ℕ) (p : Place) where
  pub kept_hit : s ≡ Plain → p.line ≡ n → Named p ≡ kept_in s n p
  kept_hit e h = rw (e, eq-eqb p.line n h) refl

  pub kept-not : s ≡ Plain → (p.line ≡ n → ⊥) → Plain ≡ kept_in s n p
  kept-not e h = rw (e, ne_eqb p.line n h) refl

  pub kept_ascii : s ≡ Ascii → Ascii ≡ kept_in s n p
  kept_ascii e = rw e refl

  pub kept-named : (q : Place) → s ≡ Named q → Named q ≡ kept_in s n p
  kept-named q e = rw e refl

pub ruleset here_laws = (here_seen, here_other, here_read, seen_before, seen_now, kept_hit, kept-not, kept_ascii, kept-named)

-- ---- shown_by
-- the first line with a letter, if none was seen before
abbrev first_new : ℕ → Bool → List Item → Bool
first_new k seen is = not seen && first_ascii k is

first_step : (k : ℕ) (seen : Bool) (i : Item) (is : List Item)
    → first_new k seen (i ∷ is) ≡ cond (ascii_here k seen (i ∷ is)) true (first_new k (seen || eqb (letter i.says) k) is)
unfolding first_ascii
first_step k true i is = refl
first_step k false i is = go (eqb (letter i.says) k) (ascii_of i.says)
  where
    go : (e a : Bool) → cond e a (first_ascii k is) ≡ cond (e && a) true (not e && first_ascii k is)
    go true true = refl
    go true false = refl
    go false a = refl

first_array : (is : List Item) → first_ascii 65 is ≡ array_ascii (first as_array is)
unfolding first_ascii
first_array [] = refl
first_array (i ∷ is) = go i.says (first_array is)
  where
    go : (x : Record) → first_ascii 65 is ≡ array_ascii (first as_array is)
        → cond (eqb (letter x) 65) (ascii_of x) (first_ascii 65 is) ≡ array_ascii (first as_array (record { line = i.line; says = x } ∷ is))
    go (param q) e = e
    go (group g) e = e
    go (item (variant s)) e = e
    go (item (array n a)) e = refl
    go (item (bit_flag m n)) e = e
    go (item (bit_field b)) e = e
    go (item (const v n)) e = e
    go (item (bitmask n)) e = e

first_variant : (is : List Item) → first_ascii 82 is ≡ variant_ascii (first as_variant is)
unfolding first_ascii
first_variant [] = refl
first_variant (i ∷ is) = go i.says (first_variant is)
  where
    go : (x : Record) → first_ascii 82 is ≡ variant_ascii (first as_variant is)
        → cond (eqb (letter x) 82) (ascii_of x) (first_ascii 82 is) ≡ variant_ascii (first as_variant (record { line = i.line; says = x } ∷ is))
    go (param q) e = e
    go (group g) e = e
    go (item (variant s)) e = refl
    go (item (array n a)) e = e
    go (item (bit_flag m n)) e = e
    go (item (bit_field b)) e = e
    go (item (const v n)) e = e
    go (item (bitmask n)) e = e

-- what is known of the name so far: the lines `is` are under the Q, of which those from the place p on are left
abbrev Known : List ℕ → ℕ → List Item → Place → Shown → Type 0
Known t n is p Ascii = ⊥
Known t n is p (Named q) = NamedAt t n is q
Known t n is p Plain = since n is ≡ since n (under (from t p))

pub record Showing (t : List ℕ) (p₀ : Place) (n : ℕ) (array variant : Bool) (s : Shown) (p : Place) : Type 0 where
  pub readable : Readable rules t p
  pub ascii : is_ascii (under (from t p₀)) ≡ (first_new 65 array (under (from t p)) || first_new 82 variant (under (from t p)))
  pub name : Known t n (under (from t p₀)) p s

pub show_start : (t : List ℕ) (p : Place) (n : ℕ) → Readable rules t p → Showing t p n false false Plain p
unfolding is_ascii
show_start t p n r =
    record { readable = r; ascii = rw (first_array (under (from t p)), first_variant (under (from t p))) refl; name = refl }

-- none of the lines is left
known_end : (t : List ℕ) (n : ℕ) (is : List Item) (p : Place) (s : Shown) → Known t n is p s → is_ascii is ≡ false
    → under (from t p) ≡ [] → IsShown t n is s
unfolding since
known_end t n is p Ascii k a e = absurd k
known_end t n is p (Named q) k a e = (a, k)
known_end t n is p Plain k a e = (a, rw (k, e) refl)

module _ (t : List ℕ) (p₀ : Place) (n : ℕ) (array variant : Bool) (s : Shown) (p : Place) (g : Showing t p₀ n array variant s p) where
  abbrev items : List Item
  items = under (from t p₀)

  no_more : (seen : Bool) (k : ℕ) → first_new k seen [] ≡ false
  unfolding first_ascii
  no_more true k = refl
  no_more false k = refl

  shown-none : under (from t p) ≡ [] → IsShown t n items s
  shown-none e =
      let a : is_ascii items ≡ false = g.ascii ∙ rw (e, no_more array 65, no_more variant 82) refl in
      known_end t n items p s g.name a e

  pub show_end : length t ≤ p.at → IsShown t n items s
  show_end h = shown-none (ap under (none_left t p h))

  module _ (kind : ℕ) (begin : Begins t p kind) (x : Bool) (is_x : x ≡ among 81 71 71 kind) where
    begins_is : x ≡ begins begin.said
    begins_is = is_x ∙ ap (among 81 71 71) begin.kind ∙ sym (begins_kind begin.said)

    pub show_stop : x ≡ true → IsShown t n items s
    show_stop e = shown-none (rw (begin.lines, sym begins_is ∙ e) refl)

    module _ (plain : x ≡ false) (a : Bool) (is-a : a ≡ ascii_here 65 array (from t p)) where
      abbrev here : Item
      here = record { line = p.line; says = begin.said }

      under_here : under (from t p) ≡ here ∷ under begin.others
      under_here = rw (begin.lines, sym begins_is ∙ plain) refl

      array_step : first_new 65 array (under (from t p)) ≡ cond a true (first_new 65 (array || eqb kind 65) (under begin.others))
      array_step = rw (under_here, begin.kind) (first_step 65 array here (under begin.others) ∙ rw (is-a, begin.lines) refl)

      pub show_array : a ≡ true → IsShown t n items Ascii
      show_array e = g.ascii ∙ rw (array_step, e) refl

      module _ (no-a : a ≡ false) (b : Bool) (is_b : b ≡ ascii_here 82 variant (from t p)) where
        variant_step : first_new 82 variant (under (from t p)) ≡ cond b true (first_new 82 (variant || eqb kind 82) (under begin.others))
        variant_step = rw (under_here, begin.kind) (first_step 82 variant here (under begin.others) ∙ rw (is_b, begin.lines) refl)

        or_true : (y : Bool) → (y || true) ≡ true
        or_true true = refl
        or_true false = refl

        pub show_variant : b ≡ true → IsShown t n items Ascii
        show_variant e = g.ascii ∙ rw (variant_step, e) (or_true (first_new 65 array (under (from t p))))

        module _ (no-b : b ≡ false) (q : Place) (f : Follows t p q) (inside : p.at < length t) where
          rest_is : begin.others ≡ from t q
          rest_is = (same_line p.line _ _ begin.others (from t q) (sym begin.lines ∙ f.lines)).1

          known_step : (s : Shown) → Known t n items p s → Known t n items q (kept_in s n p)
          unfolding since
          known_step Ascii k = k
          known_step (Named r) k = k
          known_step Plain k = go (eqb p.line n) refl
            where
              told : since n items ≡ cond (eqb p.line n) (here ∷ under (from t q)) (since n (under (from t q)))
              told =
                  k ∙ ap (since n) under_here
                  ∙ ap (λ (os : List Item). cond (eqb p.line n) (here ∷ under os) (since n (under os))) rest_is

              named : eqb p.line n ≡ true → since n items ≡ here ∷ under (from t q)
              named e = told ∙ rw e refl

              go : (e : Bool) → eqb p.line n ≡ e → Known t n items q (cond e (Named p) Plain)
              go true e = record { readable = g.readable; inside = inside; name = ap const_in begin.lines ∙ sym (ap const_in (named e)) }
              go false e = told ∙ rw e refl

          pub show_next : (array' variant' : Bool) (s' : Shown) → array' ≡ (array || eqb kind 65) → variant' ≡ (variant || eqb kind 82)
              → s' ≡ kept_in s n p → Showing t p₀ n array' variant' s' q
          show_next array' variant' s' ea ev es = record {
            readable = f.readable;
            ascii = g.ascii ∙ rw (array_step, variant_step, no-a, no-b, rest_is, ea, ev) refl;
            name = rw es (known_step s g.name);
          }

pub ruleset show_laws = (show_start, show_end, show_stop, show_array, show_variant, show_next)

-- ---- is_ascii, name_by
module _ (s : Shown) where
  pub by_ascii : s ≡ Ascii → true ≡ ascii_by s
  by_ascii e = rw e refl

  pub by_named : (p : Place) → s ≡ Named p → false ≡ ascii_by s
  by_named p e = rw e refl

  pub by_plain : s ≡ Plain → false ≡ ascii_by s
  by_plain e = rw e refl

module _ (t : List ℕ) where
  pub unnamed_ascii : (s : Shown) → s ≡ Ascii → [] ≡ name_by t s
  unnamed_ascii s e = rw e refl

  pub unnamed_plain : (s : Shown) → s ≡ Plain → [] ≡ name_by t s
  unnamed_plain s e = rw e refl

  module _ (s : Shown) (p : Place) (e : s ≡ Named p) where
    pub named_is : (l : List ℕ) → l ≡ const_in (from t p) → l ≡ name_by t s
    named_is l is = rw e is

    module _ (placed : Placed t s) where
      pub placed-readable : Readable rules t p
      placed-readable = (rw e at placed).0

      pub placed-inside : p.at < length t
      placed-inside = (rw e at placed).1

  pub shown-placed : (n : ℕ) (is : List Item) (s : Shown) → IsShown t n is s → Placed t s
  shown-placed n is Ascii k = tt
  shown-placed n is (Named p) k = (k.1.readable, k.1.inside)
  shown-placed n is Plain k = tt

pub ruleset by_laws = (by_ascii, by_named, by_plain, unnamed_ascii, unnamed_plain, named_is, placed-readable, placed-inside, shown-placed)

pub ruleset lookup_laws = (line_laws, stand_laws, here_laws, show_laws, by_laws)
