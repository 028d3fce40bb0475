-- Laws of looking up the symbol that a row names, line by line. Assumes nothing.
use mathlib.Core.Path.{◌≡◌, refl, sym, ap, ◌∙◌}
use mathlib.Core.Bool.{Bool, true, false, cond}
use mathlib.Core.List.{List, [], ◌∷◌}
use Prim.Native.Nat.{ℕ, ◌-◌, ◌≤◌, ◌<◌}
use native.Mathlib.Omega.{arith}
use lib.Dec.{eqb}
use lib.ListN.{length, get_or, take, drop}
use borrow.Author.Tests.{eq-eqb, ne_eqb}
use Rattle.text.specs.Text.{field}
use Rattle.text.specs.Place.{cells, Steps, Passes, Has, part_of, IsPart}
use Rattle.text.specs.Records.{Readable}
use Rattle.text.specs.declared.Place.{Place}
use Rattle.text.specs.declared.Line.{Line}
use Rattle.text.specs.declared.Part.{Part}
use Rattle.text.proofs.Reading.{rest_end}
use Rattle.text.proofs.Passing.{passing}
use Rattle.frame_text.specs.Form.{Record, frequency, base, header, param, validation, set, entry}
use Rattle.frame_text.specs.Rules.{letter, rules}
use Rattle.frame_definition.specs.Definition.{Entry, Set, below, entries, first_set, definition}
use Rattle.frame_definition.specs.Find.{from, owner_kind, heard, FindsSet}
use Rattle.frame_definition.proofs.Views.{View, fields_of}
use Rattle.frame_definition.proofs.Finding.{Lined, lined, Over, over_line, kind_at, over_less}
use Rattle.header_value.specs.Fields.{entry_text, set_text, symbol_text}
use Rattle.std.specs.Prelude.{Option, Some, None}

-- ---- the E of a number: one line more
ends_here : (x : Record) (rs : List Record) → owner_kind (letter x) ≡ true → entries (below (x ∷ rs)) ≡ []
ends_here (frequency code key) rs e = refl
ends_here (base key) rs e = refl
ends_here (header h) rs e = refl
ends_here (param p) rs e = absurd (let z : ◌≡◌ {A = ℕ} 0 1 = cc in omega arith)
ends_here (validation path v) rs e = absurd (let z : ◌≡◌ {A = ℕ} 0 1 = cc in omega arith)
ends_here (set name) rs e = refl
ends_here (entry key text) rs e = absurd (let z : ◌≡◌ {A = ℕ} 0 1 = cc in omega arith)

no_entry_lem : (x : Record) (rs : List Record) → owner_kind (letter x) ≡ false → (letter x ≡ 69 → ⊥)
    → entries (below (x ∷ rs)) ≡ entries (below rs)
no_entry_lem (frequency code key) rs e h = absurd (let z : ◌≡◌ {A = ℕ} 0 1 = cc in omega arith)
no_entry_lem (base key) rs e h = absurd (let z : ◌≡◌ {A = ℕ} 0 1 = cc in omega arith)
no_entry_lem (header x) rs e h = absurd (let z : ◌≡◌ {A = ℕ} 0 1 = cc in omega arith)
no_entry_lem (param p) rs e h = refl
no_entry_lem (validation path v) rs e h = refl
no_entry_lem (set name) rs e h = absurd (let z : ◌≡◌ {A = ℕ} 0 1 = cc in omega arith)
no_entry_lem (entry key text) rs e h = absurd (h refl)

-- an E's text is its third field, and behind it one less is sought
pub record Entered (fs : List (List ℕ)) (x : Record) (rs : List Record) : Type 0 where
  pub three : fields_of x ≡ 3
  pub one : entry_text 1 (entries (below (x ∷ rs))) ≡ field 2 fs
  pub later : (n : ℕ) → (n ≡ 1 → ⊥) → entry_text n (entries (below (x ∷ rs))) ≡ entry_text (n - 1) (entries (below rs))

an_entry : (fs : List (List ℕ)) (x : Record) (rs : List Record) → View fs x → letter x ≡ 69 → Entered fs x rs
unfolding entry_text
an_entry fs (frequency code key) rs v e = absurd (omega arith)
an_entry fs (base key) rs v e = absurd (omega arith)
an_entry fs (header h) rs v e = absurd (omega arith)
an_entry fs (param p) rs v e = absurd (omega arith)
an_entry fs (validation path x) rs v e = absurd (omega arith)
an_entry fs (set name) rs v e = absurd (omega arith)
an_entry fs (entry key text) rs v e = record { three = refl; one = v.says.1; later = λ n h. rw (ne_eqb n 1 h) }

-- ---- entry_text
pub record Entering (t : List ℕ) (p₀ : Place) (n : ℕ) (p : Place) (left : ℕ) : Type 0 where
  pub readable : Readable rules t p
  pub some_left : 1 ≤ left
  pub so : entry_text left (entries (below (from t p))) ≡ entry_text n (entries (below (from t p₀)))

pub entry_start : (t : List ℕ) (p : Place) (n : ℕ) → Readable rules t p → 1 ≤ n → Entering t p n p n
entry_start t p n r h = record { readable = r; some_left = h; so = refl }

module _ (t : List ℕ) (p₀ : Place) (n : ℕ) (p : Place) (left : ℕ) (g : Entering t p₀ n p left) where
  pub entry_end : length t ≤ p.at → [] ≡ entry_text n (entries (below (from t p₀)))
  unfolding entry_text
  entry_end e = let q : from t p ≡ [] = rest_end rules t p e in rw q at g.so

  module _ (inside : p.at < length t) where
    abbrev way : (q : Place) × Passes t p q
    way = passing rules t p g.readable inside

    abbrev here : Over t p way.0
    here = over_line t p way.0 g.readable inside way.1

    kind_here : letter here.said ≡ get_or t p.at 0
    kind_here = sym here.view.kind ∙ sym here.byte

    pub entry_owner : (b : Bool) → b ≡ owner_kind (get_or t p.at 0) → b ≡ true → [] ≡ entry_text n (entries (below (from t p₀)))
    unfolding entry_text
    entry_owner b is e =
        let o : owner_kind (letter here.said) ≡ true = rw (kind_here, ← is) e in
        rw (here.rest_is, ends_here here.said (from t way.0) o) at g.so

    pub entry_over : (b : Bool) (q : Place) → b ≡ owner_kind (get_or t p.at 0) → b ≡ false → (get_or t p.at 0 ≡ 69 → ⊥) → Passes t p q
        → Entering t p₀ n q left
    entry_over b q is e other pass =
        let o : Over t p q = over_line t p q g.readable inside pass in
        let k : letter o.said ≡ get_or t p.at 0 = sym o.view.kind ∙ sym o.byte in
        let w : owner_kind (letter o.said) ≡ false = rw (k, ← is) e in
        record {
          readable = o.next;
          some_left = g.some_left;
          so = sym (ap (entry_text left) (no_entry_lem o.said (from t q) w (λ z. other (sym k ∙ z))))
              ∙ ap (λ (rs : List Record). entry_text left (entries (below rs))) (sym o.rest_is) ∙ g.so;
        }

    pub entry_next : (q : Place) → get_or t p.at 0 ≡ 69 → (left ≡ 1 → ⊥) → Passes t p q → Entering t p₀ n q (left - 1)
    entry_next q byte more pass =
        let o : Over t p q = over_line t p q g.readable inside pass in
        let k : letter o.said ≡ 69 = sym o.view.kind ∙ sym o.byte ∙ byte in
        let e : Entered o.fields o.said (from t q) = an_entry o.fields o.said (from t q) o.view k in
        record {
          readable = o.next;
          some_left = omega (arith, g.some_left);
          so = sym (e.later left more) ∙ ap (λ (rs : List Record). entry_text left (entries (below rs))) (sym o.rest_is) ∙ g.so;
        }

    module _ (l : Line) (step : Steps t p l) (byte : get_or t p.at 0 ≡ 69) where
      abbrev line_here : Lined t p l
      line_here = lined t p l g.readable inside step

      entry_here : Entered (cells t l) line_here.said (from t l.next)
      entry_here =
          an_entry (cells t l) line_here.said (from t l.next) line_here.view
          (sym line_here.view.kind ∙ sym step.kind_is ∙ kind_at t p l g.readable inside step ∙ byte)

      pub entry_has : Has t l 2
      entry_has = record { marked = step.marked; there = omega (arith, line_here.count, entry_here.three) }

      pub entry_hit : (r : Part) → IsPart t (field 2 (cells t l)) r → left ≡ 1 → part_of t r ≡ entry_text n (entries (below (from t p₀)))
      entry_hit r is e =
          is.says ∙ sym entry_here.one ∙ ap (λ (rs : List Record). entry_text 1 (entries (below rs))) (sym line_here.rest_is) ∙ (rw e at g.so)

pub ruleset entry_laws = (entry_start, entry_end, entry_owner, entry_over, entry_next, entry_has, entry_hit, over_less)

-- ---- symbol_text
entry_zero : (es : List Entry) → entry_text 0 es ≡ []
unfolding entry_text
entry_zero [] = refl
entry_zero (e ∷ es) = entry_zero es

pub symbol_zero : (t : List ℕ) (s : Part) (n : ℕ) → n ≡ 0 → [] ≡ symbol_text t (heard (λ l. l) t s) n
unfolding symbol_text
symbol_zero t s n e = rw e (go (eqb s.len 0))
  where
    named : (o : Option Set) → [] ≡ set_text 0 o
    named None = refl
    named (Some x) = sym (entry_zero x.entries)

    go : (b : Bool) → [] ≡ symbol_text t (cond b None (Some (part_of t s))) 0
    go true = refl
    go false = named (first_set (part_of t s) (definition t).sets)

pub symbol_none : (t : List ℕ) (s : Part) (n : ℕ) → s.len ≡ 0 → [] ≡ symbol_text t (heard (λ l. l) t s) n
unfolding symbol_text
symbol_none t s n e = rw (eq-eqb s.len 0 e)

module _ (t : List ℕ) (s : Part) (n : ℕ) (name : List ℕ) (r : Option Place) (is : name ≡ take s.len (drop s.start t)) (found : FindsSet t name r)
    (given : s.len ≡ 0 → ⊥) where
  heard_is : symbol_text t (heard (λ l. l) t s) n ≡ set_text n (first_set name (definition t).sets)
  unfolding symbol_text
  heard_is = rw (ne_eqb s.len 0 given, ← is)

  pub symbol_nothing : r ≡ None → [] ≡ symbol_text t (heard (λ l. l) t s) n
  symbol_nothing e = let f : first_set name (definition t).sets ≡ None = rw e at found in sym (heard_is ∙ rw f)

  pub symbol_readable : (p : Place) → r ≡ Some p → Readable rules t p
  symbol_readable p e = (rw e at found).1

  pub symbol_is : (p : Place) (x : Part) (l : List ℕ) → l ≡ take x.len (drop x.start t) → part_of t x ≡ entry_text n (entries (below (from t p)))
      → r ≡ Some p → l ≡ symbol_text t (heard (λ l. l) t s) n
  symbol_is p x l a b e =
      let f : first_set name (definition t).sets ≡ Some (record { name = name; entries = entries (below (from t p)) }) = (rw e at found).0 in
      a ∙ b ∙ sym (heard_is ∙ rw f)

pub ruleset symbol_laws = (symbol_zero, symbol_none, symbol_nothing, symbol_readable, symbol_is)

pub ruleset lookup_laws = (entry_laws, symbol_laws)
