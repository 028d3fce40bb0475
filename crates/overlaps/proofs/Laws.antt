-- Laws of telling headers apart, a function at a time. Assumes nothing.
use mathlib.Core.Path.{◌≡◌, refl, sym, ap, ◌∙◌, subst}
use mathlib.Core.Bool.{Bool, true, false, cond, not, ◌&&◌, ◌||◌, true≢false, false≢true}
use mathlib.Core.List.{List, [], ◌∷◌, map}
use Prim.Native.Nat.{ℕ, zero, suc, ◌+◌, ◌-◌, ◌≤◌, ◌<◌, ◌^◌}
use native.Mathlib.Omega.{arith}
use mir.Syntax.{w64}
use mir.Val.{Fits}
use lib.Dec.{eqb, leb, ltb}
use lib.ListN.{length, get_or, take, drop, length-drop}
use lib.Seq.{drop-drop, take_all}
use borrow.Author.Tests.{eq-eqb, ne_eqb, ltb-true, ltb-false, lt-ltb, le-ltb, le-leb, lt-leb, leb-true, leb-false}
use Rattle.laws.proofs.Lists.{tail}
use Rattle.laws.proofs.Bools.{and_left, and_right}
use Rattle.refusal.specs.declared.Refusal.{Refusal}
use Rattle.text.specs.Text.{same, lines, field, missing, worth, optional, optional_up_to}
use Rattle.text.specs.Text as text
use Rattle.text.specs.Scan.{cut}
use Rattle.text.specs.Judge.{Checks}
use Rattle.text.specs.Place.{part_of, cells, Steps, Passes, Has}
use Rattle.text.specs.Records.{Readable, records}
use Rattle.text.specs.declared.Line.{Line}
use Rattle.text.specs.declared.Number.TheVariants.{Is, Over as TooHigh, Not}
use Rattle.text.specs.declared.Optional.{Optional}
use Rattle.text.specs.declared.Optional.TheVariants.{Given, Missing, Wrong}
use Rattle.text.specs.declared.Part.{Part}
use Rattle.text.specs.declared.Place.{Place}
use Rattle.text.proofs.Laws.{front_count, split-last, split-more}
use Rattle.text.proofs.Printing.{same_is, joined-split}
use Rattle.text.specs.Print.{joined}
use Rattle.text.proofs.Reading.{readable-start, rest_end}
use Rattle.frame_text.specs.Form.{Path, Param, Record, frequency, base, header, param, validation, set, entry, names, given, header_form, header_of, form}
use Rattle.frame_text.specs.Rules.{letter, rules, verdict}
use Rattle.frame_definition.specs.Definition.{Validation, below, params, validations, frames, is_key, some?}
use Rattle.frame_definition.specs.Find.{from, Good, heard, meant, IsParam, FindsParam, IsValidation, FindsValidation}
use Rattle.frame_definition.specs.declared.Field.{Field}
use Rattle.frame_definition.specs.declared.NextValidation.{NextValidation}
use Rattle.frame_definition.specs.declared.NextValidation.TheVariants as nextValidation
use Rattle.frame_definition.proofs.Candidates.{header-has}
use Rattle.frame_definition.proofs.Finding.{Lined, lined, good_line, Over, over_line, kind_at, over_less, said_good}
use Rattle.header_fields.specs.Fields.{type_number}
use Rattle.overlaps.specs.Overlaps.{same_option, same_path, greater, same_numbers, same_names, same_paths, alike, has_outer, clear_of, straight}
use Rattle.overlaps.specs.Overlaps.{leads, Head, said_by}
use Rattle.overlaps.specs.Overlaps.{head_of, of_one_base, together, first_name, decides, tell_one, tell_each, tell_all, tell, apart_from_all}
use Rattle.overlaps.specs.Overlaps.{all_apart, heads_of, harmless, head_of_number, tell_numbers}
use Rattle.overlaps.specs.Read.{said_at, valids_at, base_of, head_at, heads_in, heads_at, IsHead, FindsHead, IsNumbered, FindsNumbered, IsMet, Meets}
use Rattle.overlaps.specs.Calls.{overlap_of, TellsApart, TellsHarmless}
use Rattle.overlaps.specs.declared.headers.Head as declared
use Rattle.overlaps.specs.declared.Overlap.{Overlap}
use Rattle.overlaps.specs.declared.Overlap.TheVariants as overlap
use Rattle.overlaps.proofs.Alike.{path_is}
use Rattle.std.specs.Prelude.{Option, Some, None, Result, Ok, Err}

cut-within : (l : List ℕ) → cut 46 l ≤ length l
cut-within [] = omega arith
cut-within (x ∷ xs) = go (eqb x 46) (cut-within xs)
  where
    go : (t : Bool) → cut 46 xs ≤ length xs → cond t 0 (suc (cut 46 xs)) ≤ suc (length xs)
    go true ih = omega arith
    go false ih = omega arith

-- a test that is turned round
pub not_true : (b : Bool) → not b ≡ true → b ≡ false
not_true true e = absurd (false≢true e)
not_true false e = refl

pub not_false : (b : Bool) → not b ≡ false → b ≡ true
not_false true e = refl
not_false false e = absurd (true≢false e)

-- ---- parts of the text
same_refl : (l : List ℕ) → same l l ≡ true
same_refl [] = refl
same_refl (x ∷ xs) = rw (eq-eqb x x refl) (same_refl xs)

path_refl : (p : Path) → same_path p p ≡ true
path_refl [] = refl
path_refl (x ∷ xs) = rw (same_refl x) (path_refl xs)

-- paths are the same if their bytes are
pub same_names_lem : (x y : List ℕ) → same_path (names x) (names y) ≡ same x y
same_names_lem x y = go (same x y) refl (same_path (names x) (names y)) refl
  where
    go : (a : Bool) → same x y ≡ a → (b : Bool) → same_path (names x) (names y) ≡ b → b ≡ a
    go true e true f = refl
    go false e false f = refl
    go true e false f = sym f ∙ subst (λ (z : List ℕ). same_path (names x) (names z) ≡ true) (same_is x y e) (path_refl (names x))
    go false e true f =
        let z : x ≡ y = sym (joined-split 0x2e x) ∙ ap (joined 0x2e) (path_is (names x) (names y) f) ∙ joined-split 0x2e y in
        sym (sym e ∙ subst (λ (l : List ℕ). same x l ≡ true) z (same_refl x))

pub part_same : (t : List ℕ) (a b : Part) (x y : List ℕ) (r : Bool) → x ≡ take a.len (drop a.start t)
    → y ≡ take b.len (drop b.start t)
    → r ≡ same x y → r ≡ same (part_of t a) (part_of t b)
part_same t a b x y r e f q = q ∙ (λ i. same (e i) (f i))

module _ (t : List ℕ) (a b : Part) where
  abbrev Given' : Bool → Type 0
  Given' r = r ≡ same_option same (heard (λ l. l) t a) (heard (λ l. l) t b)

  pub given-none : a.len ≡ 0 → Given' (eqb b.len 0)
  given-none e = rw (eq-eqb a.len 0 e) (go (eqb b.len 0))
    where
      go : (m : Bool) → m ≡ same_option same None (cond m None (Some (part_of t b)))
      go true = refl
      go false = refl

  pub given_one : (a.len ≡ 0 → ⊥) → b.len ≡ 0 → Given' false
  given_one n e = rw (ne_eqb a.len 0 n, eq-eqb b.len 0 e) refl

  pub given_both : (a.len ≡ 0 → ⊥) → (b.len ≡ 0 → ⊥) → (r : Bool) → r ≡ same (part_of t a) (part_of t b) → Given' r
  given_both n m r e = rw (ne_eqb a.len 0 n, ne_eqb b.len 0 m) e

-- and paths
given_paths : (t : List ℕ) (a b : Part) → same_option same_path (heard names t a) (heard names t b)
    ≡ same_option same (heard (λ l. l) t a) (heard (λ l. l) t b)
given_paths t a b = go (eqb a.len 0) (eqb b.len 0)
  where
    go : (m n : Bool) → same_option same_path (cond m None (Some (names (part_of t a)))) (cond n None (Some (names (part_of t b))))
        ≡ same_option same (cond m None (Some (part_of t a))) (cond n None (Some (part_of t b)))
    go true true = refl
    go true false = refl
    go false true = refl
    go false false = same_names_lem (part_of t a) (part_of t b)

pub ruleset part_laws = (part_same, given-none, given_one, given_both)

-- ---- two P lines
module _ (t : List ℕ) (f g : Field) where
  abbrev Numbers : Bool → Type 0
  Numbers r = r ≡ same_numbers (meant t f) (meant t g)

  pub numbers-level : (f.level ≡ g.level → ⊥) → Numbers false
  numbers-level n = rw (ne_eqb f.level g.level n) refl

  pub numbers-order : f.level ≡ g.level → (f.order ≡ g.order → ⊥) → Numbers false
  numbers-order l n = rw (eq-eqb f.level g.level l, ne_eqb f.order g.order n) refl

  pub numbers_bits : f.level ≡ g.level → f.order ≡ g.order → (f.bits ≡ g.bits → ⊥) → Numbers false
  numbers_bits l o n = rw (eq-eqb f.level g.level l, eq-eqb f.order g.order o, ne_eqb f.bits g.bits n) refl

  pub numbers_type : f.level ≡ g.level → f.order ≡ g.order → f.bits ≡ g.bits → (a b : ℕ) → a ≡ type_number f.kind
      → b ≡ type_number g.kind
      → Numbers (eqb a b)
  numbers_type l o w a b x y =
      rw (eq-eqb f.level g.level l, eq-eqb f.order g.order o, eq-eqb f.bits g.bits w, x, y) refl

  abbrev Names : Bool → Type 0
  Names r = r ≡ same_names (meant t f) (meant t g)

  module _ (a : Bool) (is-a : a ≡ same (part_of t f.name) (part_of t g.name)) where
    pub names-other : a ≡ false → Names false
    names-other q = rw (sym is-a ∙ q) refl

    pub names-set : a ≡ true → (b : Bool) → b ≡ same_option same (heard (λ l. l) t f.set) (heard (λ l. l) t g.set) → Names b
    names-set q b is_b = rw (sym is-a ∙ q) is_b

  abbrev Paths : Bool → Type 0
  Paths r = r ≡ same_paths (meant t f) (meant t g)

  module _ (c : Bool) (is_c : c ≡ same_option same (heard (λ l. l) t f.optional) (heard (λ l. l) t g.optional)) where
    optionals : same_option same_path (heard names t f.optional) (heard names t g.optional) ≡ c
    optionals = given_paths t f.optional g.optional ∙ sym is_c

    pub paths_other : c ≡ false → Paths false
    paths_other q = rw (optionals ∙ q) refl

    pub paths_size : c ≡ true → (d : Bool) → d ≡ same_option same (heard (λ l. l) t f.size) (heard (λ l. l) t g.size) → Paths d
    paths_size q d is-d = rw (optionals ∙ q) (is-d ∙ sym (given_paths t f.size g.size))

  module _ (a : Bool) (is-a : Numbers a) where
    pub alike-numbers : a ≡ false → false ≡ alike (meant t f) (meant t g)
    alike-numbers q = rw (sym is-a ∙ q) refl

    module _ (yes-a : a ≡ true) (b : Bool) (is_b : Names b) where
      pub alike-names : b ≡ false → false ≡ alike (meant t f) (meant t g)
      alike-names q = rw (sym is-a ∙ yes-a, sym is_b ∙ q) refl

      pub alike_paths : b ≡ true → (c : Bool) → Paths c → c ≡ alike (meant t f) (meant t g)
      alike_paths q c is_c = rw (sym is-a ∙ yes-a, sym is_b ∙ q) is_c

pub ruleset alike_laws = (
  numbers-level,
  numbers-order,
  numbers_bits,
  numbers_type,
  names-other,
  names-set,
  paths_other,
  paths_size,
  alike-numbers,
  alike-names,
  alike_paths,
)

-- ---- P line by P line: what is left decides
said_any : (n m : ℕ) (rs : List Record) → said_by (params n rs) ≡ said_by (params m rs)
said_any n m [] = refl
said_any n m (frequency code key ∷ rs) = said_any n m rs
said_any n m (base key ∷ rs) = said_any n m rs
said_any n m (header h ∷ rs) = said_any n m rs
said_any n m (param p ∷ rs) = ap (λ (z : List Param). p ∷ z) (said_any (suc n) (suc m) rs)
said_any n m (validation path value ∷ rs) = said_any n m rs
said_any n m (set name ∷ rs) = said_any n m rs
said_any n m (entry key text ∷ rs) = said_any n m rs

module _ (t : List ℕ) (p : Place) (r : Option (Field × Place)) (found : FindsParam t p 0 r) where
  pub said-none : r ≡ None → said_at t p ≡ []
  unfolding said_at
  said-none e = ap said_by (rw e at found)

  module _ (f : Field) (q : Place) (e : r ≡ Some (f, q)) where
    is_param : IsParam t p q 0 f
    is_param = rw e at found

    pub said_next : said_at t p ≡ meant t f ∷ said_at t q
    unfolding said_at
    said_next = ap said_by is_param.first ∙ ap (λ (z : List Param). meant t f ∷ z) (said_any 1 0 (below (from t q)))

    pub said-readable : Readable rules t q
    said-readable = is_param.readable

    pub said_less : length t - q.at < length t - p.at
    said_less = omega (arith, is_param.on, is_param.readable.inn.at_in)

-- a test of the P lines, of which those from a place on are left
pub record Left (test : List Param → Bool) (t : List ℕ) (start place : Place) : Type 0 where
  pub left : test (said_at t start) ≡ test (said_at t place)
  pub readable : Readable rules t place

pub left_starts : (test : List Param → Bool) (t : List ℕ) (start : Place) → Readable rules t start → Left test t start start
left_starts test t start h = record { left = refl; readable = h }

module _ (x : List ℕ) (t : List ℕ) (start p : Place) (w : Left (has_outer x) t start p) (r : Option (Field × Place)) (found : FindsParam t p 0 r) where
  pub outer-none : r ≡ None → false ≡ has_outer x (said_at t start)
  outer-none e = sym (w.left ∙ ap (has_outer x) (said-none t p r found e))

  module _ (f : Field) (q : Place) (e : r ≡ Some (f, q)) where
    one : has_outer x (said_at t start) ≡ ((eqb f.level 0 && same (part_of t f.name) x) || has_outer x (said_at t q))
    one = w.left ∙ ap (has_outer x) (said_next t p r found f q e)

    pub outer_inner : (f.level ≡ 0 → ⊥) → Left (has_outer x) t start q
    outer_inner n = record { left = one ∙ rw (ne_eqb f.level 0 n) refl; readable = said-readable t p r found f q e }

    module _ (l : f.level ≡ 0) (part : List ℕ) (is : part ≡ take f.name.len (drop f.name.start t)) (b : Bool) (says : b ≡ same part x) where
      named : same (part_of t f.name) x ≡ b
      named = ap (λ (z : List ℕ). same z x) (sym is) ∙ sym says

      pub outer_hit : b ≡ true → true ≡ has_outer x (said_at t start)
      outer_hit y = sym (one ∙ rw (eq-eqb f.level 0 l, named ∙ y) refl)

      pub outer-other : b ≡ false → Left (has_outer x) t start q
      outer-other y = record { left = one ∙ rw (eq-eqb f.level 0 l, named ∙ y) refl; readable = said-readable t p r found f q e }

pub ruleset outer_laws = (left_starts, said_less, outer-none, outer_inner, outer_hit, outer-other)

module _ (level order : ℕ) (name : List ℕ) (t : List ℕ) (start p : Place) (w : Left (clear_of level order name) t start p) (r : Option (Field × Place))
    (found : FindsParam t p 0 r) where
  pub clear_none : r ≡ None → true ≡ clear_of level order name (said_at t start)
  clear_none e = sym (w.left ∙ ap (clear_of level order name) (said-none t p r found e))

  module _ (f : Field) (q : Place) (e : r ≡ Some (f, q)) where
    next : clear_of level order name (said_at t start)
        ≡ cond (ltb f.level level) true
        (cond (eqb f.level level) ((leb order f.order && not (same (part_of t f.name) name)) && clear_of level order name (said_at t q))
        (clear_of level order name (said_at t q)))
    next = w.left ∙ ap (clear_of level order name) (said_next t p r found f q e)

    pub clear_lower : f.level < level → true ≡ clear_of level order name (said_at t start)
    clear_lower l = sym (next ∙ rw (lt-ltb f.level level l) refl)

    pub clear_deeper : level < f.level → Left (clear_of level order name) t start q
    clear_deeper l =
        record {
          left = next ∙ rw (le-ltb f.level level (omega arith), ne_eqb f.level level (λ z. omega arith)) refl;
          readable = said-readable t p r found f q e;
        }

    module _ (l : level ≤ f.level) (h : f.level ≤ level) where
      here : clear_of level order name (said_at t start)
          ≡ ((leb order f.order && not (same (part_of t f.name) name)) && clear_of level order name (said_at t q))
      here = next ∙ rw (le-ltb f.level level l, eq-eqb f.level level (omega arith)) refl

      pub clear_order : f.order < order → false ≡ clear_of level order name (said_at t start)
      clear_order k = sym (here ∙ rw (lt-leb order f.order k) refl)

      module _ (k : order ≤ f.order) (b : Bool) (says : b ≡ same (part_of t f.name) name) where
        pub clear_name : b ≡ true → false ≡ clear_of level order name (said_at t start)
        clear_name y = sym (here ∙ rw (le-leb order f.order k, sym says ∙ y) refl)

        pub clear_more : b ≡ false → Left (clear_of level order name) t start q
        clear_more y =
            record { left = here ∙ rw (le-leb order f.order k, sym says ∙ y) refl; readable = said-readable t p r found f q e }

pub ruleset clear_laws = (clear_none, clear_lower, clear_deeper, clear_order, clear_name, clear_more)

module _ (t : List ℕ) (start p : Place) (w : Left straight t start p) (r : Option (Field × Place)) (found : FindsParam t p 0 r) where
  pub straight_none : r ≡ None → true ≡ straight (said_at t start)
  straight_none e = sym (w.left ∙ ap straight (said-none t p r found e))

  module _ (f : Field) (q : Place) (e : r ≡ Some (f, q)) (b : Bool) (says : b
      ≡ clear_of f.level f.order (part_of t f.name) (said_at t q)) where
    one_more : straight (said_at t start) ≡ (b && straight (said_at t q))
    one_more = w.left ∙ ap straight (said_next t p r found f q e) ∙ ap (λ (x : Bool). x && straight (said_at t q)) (sym says)

    pub straight-not : b ≡ false → false ≡ straight (said_at t start)
    straight-not y = sym (one_more ∙ rw y refl)

    pub straight-more : b ≡ true → Left straight t start q
    straight-more y = record { left = one_more ∙ rw y refl; readable = said-readable t p r found f q e }

pub ruleset straight_laws = (said-readable, straight_none, straight-not, straight-more)

-- ---- two headers' P lines
pub named-level : (t : List ℕ) (f : Field) (level : ℕ) (x : List ℕ) → (f.level ≡ level → ⊥)
    → false ≡ (eqb f.level level && same (part_of t f.name) x)
named-level t f level x n = rw (ne_eqb f.level level n) refl

pub named-name : (t : List ℕ) (f : Field) (level : ℕ) (x part : List ℕ) (b : Bool) → f.level ≡ level
    → part ≡ take f.name.len (drop f.name.start t) → b ≡ same part x → b ≡ (eqb f.level level && same (part_of t f.name) x)
named-name t f level x part b l is says = rw (eq-eqb f.level level l) (says ∙ ap (λ (z : List ℕ). same z x) is)

pub ruleset named_laws = (named-level, named-name)

pub record Meeting (t : List ℕ) (one other : Place) (level : ℕ) (x : List ℕ) (a b : Place) : Type 0 where
  pub led : (path : Path) → leads level (x ∷ path) (said_at t one) (said_at t other) ≡ leads level (x ∷ path) (said_at t a) (said_at t b)
  pub first : Readable rules t a
  pub second : Readable rules t b

pub meeting_starts : (t : List ℕ) (one other : Place) (level : ℕ) (x : List ℕ) → Readable rules t one → Readable rules t other
    → Meeting t one other level x one other
meeting_starts t one other level x h k = record { led = λ path. refl; first = h; second = k }

leads-none : (level : ℕ) (x : List ℕ) (path : Path) (ps : List Param) → leads level (x ∷ path) ps [] ≡ false
leads-none level x path [] = refl
leads-none level x path (p ∷ ps) = refl

module _ (t : List ℕ) (one other : Place) (level : ℕ) (x : List ℕ) (a b : Place) (w : Meeting t one other level x a b) (r s : Option (Field × Place))
    (found : FindsParam t a 0 r) (beside : FindsParam t b 0 s) where
  module _ (f : Field) (p : Place) (e : r ≡ Some (f, p)) (g : Field) (q : Place) (h : s ≡ Some (g, q)) (c : Bool)
      (says : c ≡ alike (meant t f) (meant t g)) where
    step : (path : Path) → leads level (x ∷ path) (said_at t one) (said_at t other)
        ≡ (c && cond (ltb f.level level) false
        (cond (eqb f.level level && same (part_of t f.name) x) (leads (suc level) path (said_at t p) (said_at t q))
        (leads level (x ∷ path) (said_at t p) (said_at t q))))
    step path =
        w.led path
        ∙ (λ i. leads level (x ∷ path) (said_next t a r found f p e i) (said_next t b s beside g q h i))
        ∙ ap (λ (y : Bool). y && cond (ltb f.level level) false
        (cond (eqb f.level level && same (part_of t f.name) x) (leads (suc level) path (said_at t p) (said_at t q))
        (leads level (x ∷ path) (said_at t p) (said_at t q)))) (sym says)

    pub meet_other : c ≡ false → Meets t one other level x None
    meet_other y = λ path. step path ∙ rw y refl

    pub meet_lower : c ≡ true → f.level < level → Meets t one other level x None
    meet_lower y l = λ path. step path ∙ rw (y, lt-ltb f.level level l) refl

    module _ (y : c ≡ true) (l : level ≤ f.level) (d : Bool) (names-it : d ≡ (eqb f.level level && same (part_of t f.name) x)) where
      pub meet_hit : d ≡ true → Meets t one other level x (Some (p, q))
      meet_hit z =
          record {
            led = λ path. step path ∙ rw (y, le-ltb f.level level l, sym names-it ∙ z) refl;
            one = said-readable t a r found f p e;
            other = said-readable t b s beside g q h;
          }

      pub meet_more : d ≡ false → Meeting t one other level x p q
      meet_more z =
          record {
            led = λ path. step path ∙ rw (y, le-ltb f.level level l, sym names-it ∙ z) refl;
            first = said-readable t a r found f p e;
            second = said-readable t b s beside g q h;
          }

pub meet_none : (t : List ℕ) (one other : Place) (level : ℕ) (x : List ℕ) (a b : Place) → Meeting t one other level x a b → (r : Option (Field × Place))
    → FindsParam t a 0 r → r ≡ None → Meets t one other level x None
meet_none t one other level x a b w r found e =
    λ path. w.led path ∙ ap (λ (ps : List Param). leads level (x ∷ path) ps (said_at t b)) (said-none t a r found e)

pub meet_short : (t : List ℕ) (one other : Place) (level : ℕ) (x : List ℕ) (a b : Place) → Meeting t one other level x a b → (s : Option (Field × Place))
    → FindsParam t b 0 s → s ≡ None → Meets t one other level x None
meet_short t one other level x a b w s beside e =
    λ path. w.led path ∙ ap (leads level (x ∷ path) (said_at t a)) (said-none t b s beside e) ∙ leads-none level x path (said_at t a)

pub ruleset meet_laws = (not_true, not_false, meeting_starts, meet_none, meet_short, meet_other, meet_lower, meet_hit, meet_more, said_less)

-- ---- a path, name by name
pub record Leading (t : List ℕ) (one other : Place) (path : List ℕ) (a b : Place) (level at : ℕ) : Type 0 where
  pub led : leads 0 (names path) (said_at t one) (said_at t other) ≡ leads level (names (drop at path)) (said_at t a) (said_at t b)
  pub first : Readable rules t a
  pub second : Readable rules t b
  pub within : at ≤ length path
  pub few : level ≤ at

pub leading_starts : (t : List ℕ) (one other : Place) (path : List ℕ) → Readable rules t one → Readable rules t other
    → Leading t one other path one other 0 0
leading_starts t one other path h k = record { led = refl; first = h; second = k; within = omega arith; few = omega arith }

module _ (t : List ℕ) (one other : Place) (path : List ℕ) (a b : Place) (level at e : ℕ) (w : Leading t one other path a b level at)
    (cuts : e ≡ cut 46 (take (length path - at) (drop at path))) (r : Option (Place × Place))
    (met_is : Meets t a b level (take e (take (length path - at) (drop at path))) r) where
  abbrev rest : List ℕ
  rest = drop at path

  rest-cut : e ≡ cut 46 rest
  rest-cut = rw (tail path at) at cuts

  met-rest : Meets t a b level (take e rest) r
  met-rest = subst (λ (l : List ℕ). Meets t a b level (take e l) r) (tail path at) met_is

  last : e ≡ length (take (length path - at) (drop at path)) → names rest ≡ take e rest ∷ []
  last l =
      let long : e ≡ length rest = l ∙ ap length (tail path at) in
      split-last 46 rest (sym rest-cut ∙ long) ∙ ap (λ (z : List ℕ). z ∷ []) (sym (take_all e rest (omega (arith, long))))

  parted : e < length rest → names rest ≡ take e rest ∷ names (drop (e + 1) rest)
  parted l = subst (λ (k : ℕ). names rest ≡ take k rest
      ∷ names (drop (k + 1) rest)) (sym rest-cut) (split-more 46 rest (subst (λ (k : ℕ). k < length rest) rest-cut l))

  some_names : e ≤ length (take (length path - at) (drop at path)) → (more : Path) × (names rest ≡ take e rest ∷ more)
  some_names l = go (ltb e (length rest)) refl
    where
      go : (c : Bool) → ltb e (length rest) ≡ c → (more : Path) × (names rest ≡ take e rest ∷ more)
      go true q = (names (drop (e + 1) rest), parted (ltb-true e (length rest) q))
      go false q =
          let long : e ≤ length rest = subst (λ (z : List ℕ). e ≤ length z) (tail path at) l in
          let same-long : e ≡ length rest = omega (arith, long, ltb-false e (length rest) q) in
          ([], last (same-long ∙ ap length (sym (tail path at))))

  pub led-none : e ≤ length (take (length path - at) (drop at path)) → r ≡ None
      → false ≡ leads 0 (names path) (said_at t one) (said_at t other)
  led-none l q =
      let m = some_names l in
      let none-met : (ps : Path) → leads level (take e rest ∷ ps) (said_at t a) (said_at t b) ≡ false = rw q at met-rest in
      sym (w.led ∙ ap (λ (ps : Path). leads level ps (said_at t a) (said_at t b)) m.1 ∙ none-met m.0)

  module _ (p q : Place) (is : r ≡ Some (p, q)) where
    is_met : IsMet t a b level (take e rest) p q
    is_met = rw is at met-rest

    pub led-last : e ≡ length (take (length path - at) (drop at path)) → true ≡ leads 0 (names path) (said_at t one) (said_at t other)
    led-last l = sym (w.led ∙ ap (λ (ps : Path). leads level ps (said_at t a) (said_at t b)) (last l) ∙ is_met.led [] ∙ refl)

    module _ (n : e ≡ length (take (length path - at) (drop at path)) → ⊥) (l : e ≤ length (take (length path - at) (drop at path))) where
      short : e < length path - at
      short =
          let z : length (take (length path - at) (drop at path)) ≡ length path - at = ap length (tail path at) ∙ length-drop at path in
          omega (arith, n, z)

      pub led-more : Leading t one other path p q (level + 1) (at + e + 1)
      led-more =
          let s : e < length rest = omega (arith, short, length-drop at path) in
          let z : at + (e + 1) ≡ at + e + 1 = omega arith in
          let y : suc level ≡ level + 1 = omega arith in
          record {
            led =
                w.led
                ∙ ap (λ (ps : Path). leads level ps (said_at t a) (said_at t b)) (parted s)
                ∙ is_met.led (names (drop (e + 1) rest))
                ∙ (λ i. leads (y i) (names ((drop-drop (e + 1) at path ∙ ap (λ (k : ℕ). drop k path) z) i)) (said_at t p) (said_at t q));
            first = is_met.one;
            second = is_met.other;
            within = omega (arith, short, w.within);
            few = omega (arith, w.few);
          }

      pub led-fits : length path < 2 ^ 64 → Fits w64 (level + 1)
      led-fits k = omega (arith, short, w.within, w.few)

      pub led_at : length path < 2 ^ 64 → Fits w64 (at + e + 1)
      led_at k = omega (arith, short, w.within)

      pub led-sum : length path < 2 ^ 64 → Fits w64 (at + e)
      led-sum k = omega (arith, short, w.within)

      pub led_less : length path + 1 - (at + e + 1) < length path + 1 - at
      led_less = omega (arith, short, w.within)

pub ruleset led_laws = (front_count, leading_starts, led-none, led-last, led-more, led-fits, led_at, led-sum, led_less)

-- ---- what decides
module _ (t : List ℕ) (one other : Place) (path : List ℕ) where
  first_of : first_name (names path) ≡ take (cut 46 path) path
  first_of = go (ltb (cut 46 path) (length path)) refl
    where
      go : (c : Bool) → ltb (cut 46 path) (length path) ≡ c → first_name (names path) ≡ take (cut 46 path) path
      go true q = ap first_name (split-more 46 path (ltb-true (cut 46 path) (length path) q))
      go false q =
          let l : length path ≤ cut 46 path = ltb-false (cut 46 path) (length path) q in
          ap first_name (split-last 46 path (omega (arith, cut-within path))) ∙ sym (take_all (cut 46 path) path l)

  module _ (e : ℕ) (cuts : e ≡ cut 46 path) (m : Bool) (is_m : m ≡ has_outer (take e path) (said_at t one)) where
    outer_one : has_outer (first_name (names path)) (said_at t one) ≡ m
    outer_one = ap (λ (x : List ℕ). has_outer x (said_at t one)) (first_of ∙ ap (λ (k : ℕ). take k path) (sym cuts)) ∙ sym is_m

    pub decided_first : m ≡ false → true ≡ decides (said_at t one) (said_at t other) (names path)
    decided_first q = rw (outer_one ∙ q) refl

    module _ (yes-m : m ≡ true) (k : Bool) (is-k : k ≡ has_outer (take e path) (said_at t other)) where
      outer_other' : has_outer (first_name (names path)) (said_at t other) ≡ k
      outer_other' = ap (λ (x : List ℕ). has_outer x (said_at t other)) (first_of ∙ ap (λ (n : ℕ). take n path) (sym cuts)) ∙ sym is-k

      pub decided_second : k ≡ false → true ≡ decides (said_at t one) (said_at t other) (names path)
      decided_second q = rw (outer_one ∙ yes-m, outer_other' ∙ q) refl

      module _ (yes-k : k ≡ true) (c : Bool) (is_c : c ≡ leads 0 (names path) (said_at t one) (said_at t other)) where
        pub decided_not : c ≡ false → false ≡ decides (said_at t one) (said_at t other) (names path)
        decided_not q = rw (outer_one ∙ yes-m, outer_other' ∙ yes-k, sym is_c ∙ q) refl

        module _ (yes-c : c ≡ true) (x : Bool) (is_x : x ≡ straight (said_at t one)) where
          pub decided_bent : x ≡ false → false ≡ decides (said_at t one) (said_at t other) (names path)
          decided_bent q = rw (outer_one ∙ yes-m, outer_other' ∙ yes-k, sym is_c ∙ yes-c, sym is_x ∙ q) refl

          pub decided_straight : x ≡ true → (y : Bool) → y ≡ straight (said_at t other) → y ≡ decides (said_at t one) (said_at t other) (names path)
          decided_straight q y is_y = rw (outer_one ∙ yes-m, outer_other' ∙ yes-k, sym is_c ∙ yes-c, sym is_x ∙ q) is_y

pub ruleset decided_laws = (not_true, not_false, front_count, decided_first, decided_second, decided_not, decided_bent, decided_straight)

-- ---- headers
heads-frames : (h n : ℕ) (rs : List Record) → map head_of (frames h n rs) ≡ heads_in rs
heads-frames h n [] = refl
heads-frames h n (frequency code key ∷ rs) = heads-frames h n rs
heads-frames h n (base key ∷ rs) = heads-frames h n rs
heads-frames h n (header says ∷ rs) =
    λ i. record { base = says.base; params = said_any n 0 (below rs) i; validations = validations (below rs) } ∷ heads-frames (suc h) n rs i
heads-frames h n (param p ∷ rs) = heads-frames h (suc n) rs
heads-frames h n (validation path value ∷ rs) = heads-frames h n rs
heads-frames h n (set name ∷ rs) = heads-frames h n rs
heads-frames h n (entry key text ∷ rs) = heads-frames h n rs

heads-start : (t : List ℕ) → heads_at t (record { at = 0; line = 1 }) ≡ heads_of t
unfolding heads_at
heads-start t = sym (heads-frames 0 0 (records form (lines t)))

heads-other : (r : Record) (rs : List Record) → (letter r ≡ 72 → ⊥) → heads_in (r ∷ rs) ≡ heads_in rs
heads-other (frequency code key) rs n = refl
heads-other (base key) rs n = refl
heads-other (header h) rs n = absurd (n refl)
heads-other (param p) rs n = refl
heads-other (validation path value) rs n = refl
heads-other (set name) rs n = refl
heads-other (entry key text) rs n = refl

base_is : (l : List ℕ) → optional_up_to 255 l ≡ true → base_of (optional 255 l) ≡ given (worth 0) l
base_is l e = go (missing l) (text.decimal l) (leb (worth 0 l) 255) e
  where
    go : (m d u : Bool) → (m || (d && u)) ≡ true
        → base_of (cond m Missing (text.given (cond d (cond u (Is (worth 0 l)) TooHigh) Not))) ≡ cond m None (Some (worth 0 l))
    go true d u q = refl
    go false true true q = refl
    go false true false q = absurd (false≢true q)
    go false false u q = absurd (false≢true q)

pub record Looking (t : List ℕ) (start place : Place) : Type 0 where
  pub same-heads : heads_at t start ≡ heads_at t place
  pub readable : Readable rules t place
  pub after : start.at ≤ place.at

pub looking_starts : (t : List ℕ) (start : Place) → Readable rules t start → Looking t start start
looking_starts t start h = record { same-heads = refl; readable = h; after = omega arith }

module _ (t : List ℕ) (start q : Place) (w : Looking t start q) where
  pub looking_end : length t ≤ q.at → FindsHead t start None
  unfolding heads_at
  looking_end l = w.same-heads ∙ ap heads_in (rest_end rules t q l)

  module _ (inside : q.at < length t) where
    pub looking_over : (get_or t q.at 0 ≡ 72 → ⊥) → (r : Place) → Passes t q r → Looking t start r
    unfolding heads_at
    looking_over n r pass =
        let o : Over t q r = over_line t q r w.readable inside pass in
        record {
          same-heads =
              w.same-heads ∙ ap heads_in o.rest_is ∙ heads-other o.said (from t r) (λ z. n (o.byte ∙ o.view.kind ∙ z));
          readable = o.next;
          after = omega (arith, w.after, pass.on);
        }

    module _ (is : get_or t q.at 0 ≡ 72) (l : Line) (step : Steps t q l) where
      good : Good t l
      good = good_line t q l w.readable inside step

      kind_is : l.kind ≡ 72
      kind_is = kind_at t q l w.readable inside step ∙ is

      pub looking_has : Has t l 2
      looking_has = header-has t l good kind_is 2 (omega arith)

      says-header : (header_form (cells t l) ≡ true) × (form (cells t l) ≡ Some (header (header_of (cells t l))))
      says-header = said_good (cells t l) (header_form (cells t l)) _ (rw (sym good.kind_is ∙ kind_is)) good.allowed

      pub looking_hit : (r : Optional) → r ≡ optional 255 (field 2 (cells t l))
          → FindsHead t start (Some (record { base = r; place = l.next }))
      unfolding heads_at said_at valids_at
      looking_hit r e =
          let h : Lined t q l = lined t q l w.readable inside step in
          let said_is : h.said ≡ header (header_of (cells t l)) =
          let z : Some h.said ≡ Some (header (header_of (cells t l))) = sym h.form_is ∙ says-header.1 in cc in
          let wide = and_right (eqb (length (cells t l)) 5) _ says-header.0 in
          let based : optional_up_to 255 (field 2 (cells t l)) ≡ true =
          and_left (optional_up_to 255 (field 2 (cells t l))) _ (and_right (text.up_to 255 (field 1 (cells t l))) _ wide) in
          record {
            first =
                w.same-heads
                ∙ ap heads_in (h.rest_is ∙ ap (λ (x : Record). x ∷ from t l.next) said_is)
                ∙ ap (λ (b : Option ℕ). record {
                  base = b;
                  params = said_by (params 0 (below (from t l.next)));
                  validations = validations (below
                      (from t l.next));
                }
                ∷ heads_in (from t l.next)) (sym (ap base_of e ∙ base_is (field 2 (cells t l)) based));
            readable = h.next;
            on = omega (arith, w.after, step.passes.on);
          }

pub ruleset looking_laws = (looking_starts, looking_end, looking_over, looking_has, looking_hit, over_less)

pub head_less : (t : List ℕ) (p : Place) (r : Option declared.Head) (h : declared.Head) → FindsHead t p r → r ≡ Some h
    → length t - h.place.at < length t - p.at
head_less t p r h found e = let is : IsHead t p h = rw e at found in omega (arith, is.on, is.readable.inn.at_in)

pub head-readable : (t : List ℕ) (p : Place) (r : Option declared.Head) (h : declared.Head) → FindsHead t p r → r ≡ Some h
    → Readable rules t h.place
head-readable t p r h found e = let is : IsHead t p h = rw e at found in is.readable

pub record Counting (t : List ℕ) (number left : ℕ) (place : Place) : Type 0 where
  pub counted : head_of_number number (heads_of t) ≡ head_of_number left (heads_at t place)
  pub readable : Readable rules t place

pub counting_starts : (t : List ℕ) (number : ℕ) (p : Place) → verdict t ≡ Ok tt → p ≡ record { at = 0; line = 1 }
    → Counting t number number p
counting_starts t number p v e =
    record { counted = ap (head_of_number number) (sym (ap (heads_at t) e ∙ heads-start t)); readable = readable-start rules t p v e }

module _ (t : List ℕ) (number left : ℕ) (p : Place) (w : Counting t number left p) (r : Option declared.Head) (found : FindsHead t p r) where
  pub counting_none : r ≡ None → FindsNumbered t number None
  counting_none e =
      let z : heads_at t p ≡ [] = rw e at found in
      w.counted ∙ ap (head_of_number left) z ∙ nobody left
    where
      nobody : (n : ℕ) → head_of_number n [] ≡ None
      nobody zero = refl
      nobody (suc n) = refl

  module _ (h : declared.Head) (e : r ≡ Some h) where
    is_head : IsHead t p h
    is_head = rw e at found

    pub counting_found : left ≡ 0 → FindsNumbered t number (Some h)
    counting_found q = record { is = w.counted ∙ ap (head_of_number left) is_head.first ∙ rw q refl; readable = is_head.readable }

    pub counting_more : (left ≡ 0 → ⊥) → Counting t number (left - 1) h.place
    counting_more n =
        record {
          counted =
              w.counted ∙ ap (head_of_number left) is_head.first
              ∙ ap (λ (k : ℕ). head_of_number k (head_at t h ∷ heads_at t h.place)) (let z : left ≡ suc (left - 1) = omega (arith, n) in z);
          readable = is_head.readable;
        }

pub ruleset counting_laws = (counting_starts, counting_none, counting_found, counting_more, head_less, head-readable)

-- ---- what V lines tell
pub greater-right : (a b : ℕ) → a ≤ b → b ≡ greater a b
greater-right a b h = rw (le-leb a b h) refl

pub greater-left : (a b : ℕ) → b < a → a ≡ greater a b
greater-left a b h = rw (lt-leb a b h) refl

greater_assoc : (a b c : ℕ) → greater a (greater b c) ≡ greater (greater a b) c
greater_assoc a b c = go (leb b c) refl (leb a b) refl
  where
    go : (x : Bool) → leb b c ≡ x → (y : Bool) → leb a b ≡ y → greater a (cond x c b) ≡ greater (cond y b a) c
    go true p true q = let u = leb-true b c p in let v = leb-true a b q in rw (le-leb a c (omega arith), p) refl
    go true p false q = refl
    go false p true q = rw (q, p) refl
    go false p false q = let u = leb-false b c p in let v = leb-false a b q in rw (q, lt-leb a c (omega arith)) refl

greater-none : (a : ℕ) → greater a 0 ≡ a
greater-none zero = refl
greater-none (suc a) = rw (lt-leb (suc a) 0 (omega arith)) refl

greater-first : (a : ℕ) → a ≡ greater 0 a
greater-first a = rw (le-leb 0 a (omega arith)) refl

module _ (t : List ℕ) (one other : Place) (path : Part) (value : ℕ) (beside : Part) (another : ℕ) (b : Bool)
    (says : b ≡ same (part_of t path) (part_of t beside)) where
  abbrev Tells : ℕ → Type 0
  Tells r = r ≡ tell_one (said_at t one) (said_at t other) (record { path = names (part_of t path); value = value })
      (record { path = names (part_of t beside); value = another })

  paths_same : same_path (names (part_of t path)) (names (part_of t beside)) ≡ b
  paths_same = same_names_lem (part_of t path) (part_of t beside) ∙ sym says

  pub tell-other : b ≡ false → Tells 0
  tell-other q = rw (paths_same ∙ q) refl

  module _ (yes : b ≡ true) where
    pub tell-same : value ≡ another → Tells 1
    tell-same q = rw (paths_same ∙ yes, eq-eqb value another q) refl

    module _ (n : value ≡ another → ⊥) (part : List ℕ) (is : part ≡ take path.len (drop path.start t)) (d : Bool)
        (decided : d ≡ decides (said_at t one) (said_at t other) (names part)) where
      decided_is : decides (said_at t one) (said_at t other) (names (part_of t path)) ≡ d
      decided_is = ap (λ (z : List ℕ). decides (said_at t one) (said_at t other) (names z)) (sym is) ∙ sym decided

      pub tell-apart : d ≡ true → Tells 3
      tell-apart q = rw (paths_same ∙ yes, ne_eqb value another n, decided_is ∙ q) refl

      pub tell_own : d ≡ false → Tells 2
      tell_own q = rw (paths_same ∙ yes, ne_eqb value another n, decided_is ∙ q) refl

pub ruleset one_laws = (greater-right, greater-left, tell-other, tell-same, tell-apart, tell_own)

module _ (t : List ℕ) (p : Place) (r : NextValidation) (found : FindsValidation t p r) where
  pub valids_none : r ≡ nextValidation.Nothing → valids_at t p ≡ []
  unfolding valids_at
  valids_none e = rw e at found

  module _ (path : Part) (v : ℕ) (q : Place) (e : r ≡ nextValidation.At path v q) where
    is_valid : IsValidation t p q path v
    is_valid = rw e at found

    pub valids_next : valids_at t p ≡ record { path = names (part_of t path); value = v } ∷ valids_at t q
    unfolding valids_at
    valids_next = is_valid.first

    pub valids_readable : Readable rules t q
    valids_readable = is_valid.readable

    pub valids_less : length t - q.at < length t - p.at
    valids_less = omega (arith, is_valid.on, is_valid.readable.inn.at_in)

-- the most so far, and what the V lines from a place on tell
pub record Most (each : Validation → ℕ) (all : List Validation → ℕ) (t : List ℕ) (start place : Place) (most : ℕ) : Type 0 where
  pub most_is : all (valids_at t start) ≡ greater most (all (valids_at t place))
  pub readable : Readable rules t place

module _ (ps qs : List Param) (v : Validation) (t : List ℕ) (start : Place) where
  pub each_starts : Readable rules t start → Most (tell_one ps qs v) (tell_each ps qs v) t start start 0
  each_starts h = record { most_is = greater-first (tell_each ps qs v (valids_at t start)); readable = h }

  module _ (p : Place) (most : ℕ) (w : Most (tell_one ps qs v) (tell_each ps qs v) t start p most) (r : NextValidation)
      (found : FindsValidation t p r) where
    pub each_done : r ≡ nextValidation.Nothing → most ≡ tell_each ps qs v (valids_at t start)
    each_done e =
        sym (w.most_is ∙ ap (λ (ws : List Validation). greater most (tell_each ps qs v ws)) (valids_none t p r found e) ∙ greater-none most)

    pub each_more : (path : Part) (u : ℕ) (q : Place) → r ≡ nextValidation.At path u q → (a m : ℕ)
        → a ≡ tell_one ps qs v (record { path = names (part_of t path); value = u }) → m ≡ greater most a
        → Most (tell_one ps qs v) (tell_each ps qs v) t start q m
    each_more path u q e a m x y =
        record {
          most_is =
              w.most_is
              ∙ ap (λ (ws : List Validation). greater most (tell_each ps qs v ws)) (valids_next t p r found path u q e)
              ∙ greater_assoc most (tell_one ps qs v (record { path = names (part_of t path); value = u })) (tell_each ps qs v (valids_at t q))
              ∙ ap (λ (k : ℕ). greater k (tell_each ps qs v (valids_at t q))) (ap (greater most) (sym x) ∙ sym y);
          readable = valids_readable t p r found path u q e;
        }

module _ (ps qs : List Param) (ws : List Validation) (t : List ℕ) (start : Place) where
  abbrev pub each : Validation → ℕ
  each v = tell_each ps qs v ws

  abbrev pub all : List Validation → ℕ
  all vs = tell_all ps qs vs ws

  pub all_starts : Readable rules t start → Most each all t start start 0
  all_starts h = record { most_is = greater-first (tell_all ps qs (valids_at t start) ws); readable = h }

  module _ (p : Place) (most : ℕ) (w : Most each all t start p most) (r : NextValidation) (found : FindsValidation t p r) where
    pub all_done : r ≡ nextValidation.Nothing → most ≡ tell_all ps qs (valids_at t start) ws
    all_done e = sym (w.most_is ∙ ap (λ (vs : List Validation). greater most (all vs)) (valids_none t p r found e) ∙ greater-none most)

    pub all_more : (path : Part) (u : ℕ) (q : Place) → r ≡ nextValidation.At path u q → (a m : ℕ)
        → a ≡ tell_each ps qs (record { path = names (part_of t path); value = u }) ws → m ≡ greater most a → Most each all t start q m
    all_more path u q e a m x y =
        record {
          most_is =
              w.most_is
              ∙ ap (λ (vs : List Validation). greater most (all vs)) (valids_next t p r found path u q e)
              ∙ greater_assoc most (each (record { path = names (part_of t path); value = u })) (all (valids_at t q))
              ∙ ap (λ (k : ℕ). greater k (all (valids_at t q))) (ap (greater most) (sym x) ∙ sym y);
          readable = valids_readable t p r found path u q e;
        }

pub ruleset most_laws = (valids_less, each_starts, each_done, each_more, all_starts, all_done, all_more)

-- ---- two headers
module _ (b : Optional) (k : ℕ) where
  pub key_given : (n : ℕ) → b ≡ Given n → eqb n k ≡ is_key k (base_of b)
  key_given n e = rw e refl

  pub key_missing : b ≡ Missing → false ≡ is_key k (base_of b)
  key_missing e = rw e refl

  pub key_wrong : b ≡ Wrong → false ≡ is_key k (base_of b)
  key_wrong e = rw e refl

module _ (a b : Optional) where
  pub base_given : (k : ℕ) (r : Bool) → a ≡ Given k → r ≡ is_key k (base_of b) → r ≡ of_one_base (base_of a) (base_of b)
  base_given k r e f = rw e f

  pub base_missing : a ≡ Missing → false ≡ of_one_base (base_of a) (base_of b)
  base_missing e = rw e refl

  pub base_wrong : a ≡ Wrong → false ≡ of_one_base (base_of a) (base_of b)
  base_wrong e = rw e refl

pub validated_none : (t : List ℕ) (p : Place) (r : NextValidation) → FindsValidation t p r → r ≡ nextValidation.Nothing
    → false ≡ some? (valids_at t p)
validated_none t p r found e = sym (ap some? (valids_none t p r found e))

pub validated_some : (t : List ℕ) (p : Place) (r : NextValidation) → FindsValidation t p r → (path : Part) (v : ℕ) (q : Place)
    → r ≡ nextValidation.At path v q → true ≡ some? (valids_at t p)
validated_some t p r found path v q e = sym (ap some? (valids_next t p r found path v q e))

module _ (t : List ℕ) (f g : declared.Head) (a : Bool) (is-a : a ≡ of_one_base (base_of f.base) (base_of g.base)) where
  pub together_base : a ≡ false → false ≡ together (head_at t f) (head_at t g)
  together_base q = rw (sym is-a ∙ q) refl

  module _ (yes-a : a ≡ true) (b : Bool) (is_b : b ≡ some? (valids_at t f.place)) where
    pub together-first : b ≡ false → false ≡ together (head_at t f) (head_at t g)
    together-first q = rw (sym is-a ∙ yes-a, sym is_b ∙ q) refl

    pub together-both : b ≡ true → (c : Bool) → c ≡ some? (valids_at t g.place) → c ≡ together (head_at t f) (head_at t g)
    together-both q c is_c = rw (sym is-a ∙ yes-a, sym is_b ∙ q) is_c

module _ (t : List ℕ) (f g : declared.Head) (a : Bool) (is-a : a ≡ together (head_at t f) (head_at t g)) where
  pub told-other : a ≡ false → 4 ≡ tell (head_at t f) (head_at t g)
  told-other q = rw (sym is-a ∙ q) refl

  pub told-all : a ≡ true → (r : ℕ)
      → r ≡ tell_all (said_at t f.place) (said_at t g.place) (valids_at t f.place) (valids_at t g.place)
      → r ≡ tell (head_at t f) (head_at t g)
  told-all q r e = rw (sym is-a ∙ q) e

pub ruleset pair_laws = (
  key_given,
  key_missing,
  key_wrong,
  base_given,
  base_missing,
  base_wrong,
  validated_none,
  validated_some,
  together_base,
  together-first,
  together-both,
  told-other,
  told-all,
)

-- ---- all headers
pub record Apart (t : List ℕ) (f : declared.Head) (place : Place) : Type 0 where
  pub left : apart_from_all (head_at t f) (heads_at t f.place) ≡ apart_from_all (head_at t f) (heads_at t place)
  pub readable : Readable rules t place

pub apart_starts : (t : List ℕ) (f : declared.Head) → Readable rules t f.place → Apart t f f.place
apart_starts t f h = record { left = refl; readable = h }

module _ (t : List ℕ) (f : declared.Head) (p : Place) (w : Apart t f p) (r : Option declared.Head) (found : FindsHead t p r) where
  pub apart_done : r ≡ None → true ≡ apart_from_all (head_at t f) (heads_at t f.place)
  apart_done e = let z : heads_at t p ≡ [] = rw e at found in sym (w.left ∙ ap (apart_from_all (head_at t f)) z)

  module _ (g : declared.Head) (e : r ≡ Some g) (k : ℕ) (is : k ≡ tell (head_at t f) (head_at t g)) where
    is_next : IsHead t p g
    is_next = rw e at found

    one_head : apart_from_all (head_at t f) (heads_at t f.place) ≡ (leb 3 k && apart_from_all (head_at t f) (heads_at t g.place))
    one_head =
        w.left ∙ ap (apart_from_all (head_at t f)) is_next.first
        ∙ ap (λ (n : ℕ). leb 3 n && apart_from_all (head_at t f) (heads_at t g.place)) (sym is)

    pub apart-not : k < 3 → false ≡ apart_from_all (head_at t f) (heads_at t f.place)
    apart-not l = sym (one_head ∙ rw (lt-leb 3 k l) refl)

    pub apart_more : 3 ≤ k → Apart t f g.place
    apart_more l = record { left = one_head ∙ rw (le-leb 3 k l) refl; readable = is_next.readable }

pub record AllApart (t : List ℕ) (place : Place) : Type 0 where
  pub left : harmless t ≡ all_apart (heads_at t place)
  pub readable : Readable rules t place

pub all-apart_starts : (t : List ℕ) (p : Place) → verdict t ≡ Ok tt → p ≡ record { at = 0; line = 1 } → AllApart t p
unfolding harmless
all-apart_starts t p v e =
    record { left = ap all_apart (sym (ap (heads_at t) e ∙ heads-start t)); readable = readable-start rules t p v e }

module _ (t : List ℕ) (p : Place) (w : AllApart t p) (r : Option declared.Head) (found : FindsHead t p r) where
  pub all-apart_done : r ≡ None → true ≡ harmless t
  all-apart_done e = let z : heads_at t p ≡ [] = rw e at found in sym (w.left ∙ ap all_apart z)

  module _ (f : declared.Head) (e : r ≡ Some f) (b : Bool) (is : b ≡ apart_from_all (head_at t f) (heads_at t f.place)) where
    is_first : IsHead t p f
    is_first = rw e at found

    one_apart : harmless t ≡ (b && all_apart (heads_at t f.place))
    one_apart = w.left ∙ ap all_apart is_first.first ∙ ap (λ (x : Bool). x && all_apart (heads_at t f.place)) (sym is)

    pub all-apart-not : b ≡ false → false ≡ harmless t
    all-apart-not q = sym (one_apart ∙ rw q refl)

    pub all-apart-more : b ≡ true → AllApart t f.place
    all-apart-more q = record { left = one_apart ∙ rw q refl; readable = is_first.readable }

pub ruleset apart_laws = (apart_starts, apart_done, apart-not, apart_more, all-apart_starts, all-apart_done, all-apart-not, all-apart-more)

-- ---- the calls
module _ (t : List ℕ) (a b : ℕ) (r : Option declared.Head) (found : FindsNumbered t a r) where
  pub both_first : r ≡ None → 4 ≡ tell_numbers t a b
  unfolding tell_numbers
  both_first e = let z : head_of_number a (heads_of t) ≡ None = rw e at found in rw z refl

  module _ (f : declared.Head) (e : r ≡ Some f) (s : Option declared.Head) (beside : FindsNumbered t b s) where
    first_is : IsNumbered t a f
    first_is = rw e at found

    pub both-second : s ≡ None → 4 ≡ tell_numbers t a b
    unfolding tell_numbers
    both-second q = let z : head_of_number b (heads_of t) ≡ None = rw q at beside in rw (first_is.is, z) refl

    pub both_told : (g : declared.Head) → s ≡ Some g → (k : ℕ) → k ≡ tell (head_at t f) (head_at t g) → k ≡ tell_numbers t a b
    unfolding tell_numbers
    both_told g q k is = let z : IsNumbered t b g = rw q at beside in rw (first_is.is, z.is) is

pub numbered-readable : (t : List ℕ) (n : ℕ) (r : Option declared.Head) (f : declared.Head) → FindsNumbered t n r → r ≡ Some f
    → Readable rules t f.place
numbered-readable t n r f found e = let z : IsNumbered t n f = rw e at found in z.readable

module _ (k : ℕ) where
  pub word_0 : k ≡ 0 → overlap.NoPath ≡ overlap_of k
  word_0 e = rw e refl

  pub word_1 : k ≡ 1 → overlap.SameValues ≡ overlap_of k
  word_1 e = rw e refl

  pub word_2 : k ≡ 2 → overlap.OwnFields ≡ overlap_of k
  word_2 e = rw e refl

  pub word_3 : k ≡ 3 → overlap.Apart ≡ overlap_of k
  word_3 e = rw e refl

  pub word_4 : (k ≡ 0 → ⊥) → (k ≡ 1 → ⊥) → (k ≡ 2 → ⊥) → (k ≡ 3 → ⊥) → overlap.OtherBase ≡ overlap_of k
  word_4 a b c d = rw (ne_eqb k 0 a, ne_eqb k 1 b, ne_eqb k 2 c, ne_eqb k 3 d) refl

module _ (t : List ℕ) (v : Result (Unit {0}) Refusal) (is : Checks rules t v) where
  pub checked : v ≡ Ok tt → verdict t ≡ Ok tt
  checked e = sym is.is ∙ e

  pub pair_accepted : (a b k : ℕ) (r : Overlap) → v ≡ Ok tt → k ≡ tell_numbers t a b → r ≡ overlap_of k → TellsApart t a b (Ok r)
  pair_accepted a b k r e f g = record { answer = ap Ok (g ∙ ap overlap_of f) ∙ rw (← is.is, e) refl }

  pub pair_refused : (a b : ℕ) (x : Refusal) → v ≡ Err x → TellsApart t a b (Err x)
  pair_refused a b x e = record { answer = rw (← is.is, e) refl }

  pub text_told : (b : Bool) → v ≡ Ok tt → b ≡ harmless t → TellsHarmless t (Ok b)
  text_told b e f = record { answer = ap Ok f ∙ rw (← is.is, e) refl }

  pub text-refused : (x : Refusal) → v ≡ Err x → TellsHarmless t (Err x)
  text-refused x e = record { answer = rw (← is.is, e) refl }

pub ruleset call_laws = (
  both_first,
  both-second,
  both_told,
  numbered-readable,
  word_0,
  word_1,
  word_2,
  word_3,
  word_4,
  checked,
  pair_accepted,
  pair_refused,
  text_told,
  text-refused,
)

pub ruleset laws = (
  not_true,
  not_false,
  part_laws,
  alike_laws,
  outer_laws,
  clear_laws,
  straight_laws,
  named_laws,
  looking_laws,
  counting_laws,
  one_laws,
  most_laws,
  pair_laws,
  apart_laws,
  call_laws,
)
