-- Laws of gathering the lines under a Q. Assumes nothing.
use mathlib.Core.Path.{◌≡◌, refl, sym, ap, ◌∙◌}
use mathlib.Core.Bool.{Bool, true, false, cond}
use mathlib.Core.List.{List, [], ◌∷◌}
use Prim.Native.Nat.{ℕ, ◌+◌, ◌-◌, ◌≤◌, ◌<◌}
use native.Mathlib.Omega.{arith}
use lib.Dec.{eqb}
use lib.ListN.{length}
use Rattle.text.specs.Records.{Readable}
use Rattle.text.specs.declared.Place.{Place}
use Rattle.text.proofs.Reading.{rest_end}
use Rattle.command_text.specs.Form.{Record, param, group, item, variant, array, bit_flag, bit_field, const, bitmask}
use Rattle.command_text.specs.Rules.{begins, rules}
use Rattle.command_class.specs.Definition.{Item, numbered, under, letter}
use Rattle.command_class.specs.Find.{from, among, Says, IsRead, Begins, Follows}
use Rattle.command_class.specs.declared.Row.{Row}
use Rattle.command_class.specs.declared.Read.{Read}
use Rattle.command_class.proofs.Finding.{begins_kind}
use Rattle.command_schema.specs.Heads.{Head, onto, heads}
use Rattle.command_schema.specs.Gathered.{gathered_none, noted, noted_row, gathered, Gathers}
use Rattle.command_schema.specs.declared.items.Gathered.{Gathered}

-- the numbers of a line say what the line says
noted-row : (g : Gathered) (x : Record) (r : Row) → r.kind ≡ letter x → Says x r → noted_row g r ≡ noted g x
noted-row g (param q) r k s = rw k refl
noted-row g (group q) r k s = rw k refl
noted-row g (item (variant v)) r k s = rw (k, s.0, s.1, s.2, s.3) refl
noted-row g (item (array n a)) r k s = rw (k, s.0, s.1) refl
noted-row g (item (bit_flag m n)) r k s = rw k refl
noted-row g (item (bit_field b)) r k s = rw k refl
noted-row g (item (const v n)) r k s = rw k refl
noted-row g (item (bitmask n)) r k s = rw (k, s) refl

-- one line counts at most once
either : (b : Bool) (x y : Gathered) (n : ℕ) → x.bits ≤ n → y.bits ≤ n → (cond b x y).bits ≤ n
either true x y n h k = h
either false x y n h k = k

few_bits : (g : Gathered) (x : Record) → (noted g x).bits ≤ g.bits + 1
few_bits g (param q) = omega arith
few_bits g (group q) = omega arith
few_bits g (item (variant v)) = either (eqb g.variant.paramoffs 256) _ g (g.bits + 1) (omega arith) (omega arith)
few_bits g (item (array n a)) = either (eqb g.array.len 256) _ g (g.bits + 1) (omega arith) (omega arith)
few_bits g (item (bit_flag m n)) = omega arith
few_bits g (item (bit_field b)) = omega arith
few_bits g (item (const v n)) = omega arith
few_bits g (item (bitmask n)) = either (eqb g.bitmask 257) _ g (g.bits + 1) (omega arith) (omega arith)

-- what is gathered so far, and what is left at the place p
pub record Gathering (t : List ℕ) (p₀ : Place) (g : Gathered) (p : Place) : Type 0 where
  pub readable : Readable rules t p
  pub so : gathered gathered_none (under (from t p₀)) ≡ gathered g (under (from t p))
  pub heads-left : heads (from t p₀) ≡ heads (from t p)
  pub on : p₀.at ≤ p.at
  pub few : g.bits ≤ p.at

pub gathering_start : (t : List ℕ) (p : Place) (g : Gathered) → Readable rules t p → g ≡ gathered_none → Gathering t p g p
gathering_start t p g r e = rw e (record { readable = r; so = refl; heads-left = refl; on = omega arith; few = omega arith })

module _ (t : List ℕ) (p₀ : Place) (g : Gathered) (p : Place) (k : Gathering t p₀ g p) where
  none_left : under (from t p) ≡ [] → Gathers t p₀ (record { gathered = g; next = p })
  unfolding gathered
  none_left e = record { all = sym (k.so ∙ ap (gathered g) e); heads-left = k.heads-left; readable = k.readable; on = k.on; few = k.few }

  pub gathering_end : length t ≤ p.at → Gathers t p₀ (record { gathered = g; next = p })
  gathering_end h = none_left (ap (λ (is : List Item). under is) (ap (numbered p.line) (rest_end rules t p h)))

  module _ (kind : ℕ) (begin : Begins t p kind) (x : Bool) (is_x : x ≡ among 81 71 71 kind) where
    ending : x ≡ begins begin.said
    ending = is_x ∙ ap (among 81 71 71) begin.kind ∙ sym (begins_kind begin.said)

    pub gathering_stop : x ≡ true → Gathers t p₀ (record { gathered = g; next = p })
    gathering_stop e = none_left (rw (begin.lines, sym ending ∙ e))

    -- a K tells nothing that is gathered
    pub gathering_pass : (q : Place) → Follows t p q → x ≡ false → kind ≡ 75 → Gathering t p₀ g q
    unfolding gathered heads
    gathering_pass q follows other is-k =
        let z : record { line = p.line; says = begin.said } ∷ begin.others ≡ record { line = p.line; says = follows.said } ∷ from t q =
        sym begin.lines ∙ follows.lines in
        let rest : begin.others ≡ from t q = cc in
        let lines : from t p ≡ record { line = p.line; says = begin.said } ∷ from t q =
        begin.lines ∙ ap (λ (is : List Item). record { line = p.line; says = begin.said } ∷ is) rest in
        record {
          readable = follows.readable;
          so = k.so ∙ ap (λ (is : List Item). gathered g (under is)) lines ∙ by_record begin.said (sym begin.kind ∙ is-k) (from t q);
          heads-left = k.heads-left ∙ ap heads lines ∙ no-heads begin.said (sym begin.kind ∙ is-k) (from t q);
          on = let a = k.on in let b = follows.on in omega arith;
          few = let a = follows.on in let f = k.few in omega arith;
        }
      where
        by_record : (r : Record) → letter r ≡ 75 → (is : List Item)
            → gathered g (under (record { line = p.line; says = r } ∷ is)) ≡ gathered g (under is)
        by_record (param y) e is = absurd (omega arith)
        by_record (group y) e is = absurd (omega arith)
        by_record (item (variant y)) e is = absurd (omega arith)
        by_record (item (array n a)) e is = absurd (omega arith)
        by_record (item (bit_flag m n)) e is = absurd (omega arith)
        by_record (item (bit_field b)) e is = absurd (omega arith)
        by_record (item (const v n)) e is = refl
        by_record (item (bitmask n)) e is = absurd (omega arith)

        no-heads : (r : Record) → letter r ≡ 75 → (is : List Item) → heads (record { line = p.line; says = r } ∷ is) ≡ heads is
        no-heads (param y) e is = absurd (omega arith)
        no-heads (group y) e is = absurd (omega arith)
        no-heads (item d) e is = refl

    module _ (read : Read) (is_read : IsRead t p read) (other : x ≡ false) where
      same : begin.said ≡ is_read.said
      same = let z : record { line = p.line; says = begin.said } ∷ begin.others
          ≡ record { line = p.line; says = is_read.said } ∷ from t read.next = sym begin.lines ∙ is_read.lines in
          let y : ◌≡◌ {A = Item} (record { line = p.line; says = begin.said }) (record { line = p.line; says = is_read.said }) = cc in
          ap (λ (i : Item). i.says) y

      not-head : begins is_read.said ≡ false
      not-head = ap begins (sym same) ∙ sym ending ∙ other

      no-head : (y : Record) → begins y ≡ false → (n : ℕ) (is : List Item) (hs : List Head) → onto n y is hs ≡ hs
      no-head (param q) e n is hs = absurd (let z : ◌≡◌ {A = ℕ} 0 1 = cc in omega arith)
      no-head (group q) e n is hs = absurd (let z : ◌≡◌ {A = ℕ} 0 1 = cc in omega arith)
      no-head (item d) e n is hs = refl

      under_is : under (from t p) ≡ record { line = p.line; says = is_read.said } ∷ under (from t read.next)
      under_is = rw (is_read.lines, not-head) refl

      heads_is : heads (from t p) ≡ heads (from t read.next)
      unfolding heads
      heads_is = rw (is_read.lines, no-head is_read.said not-head p.line (from t read.next) (heads (from t read.next))) refl

      pub gathering_few : length t ≤ 60000 → p.at < length t → g.bits < 65535
      gathering_few short inside = let f = k.few in omega arith

      pub gathering_next : (g' : Gathered) → g' ≡ noted_row g read.row → Gathering t p₀ g' read.next
      unfolding gathered
      gathering_next g' e =
          let r : g' ≡ noted g is_read.said = e ∙ noted-row g is_read.said read.row is_read.kind is_read.says in
          record {
            readable = is_read.next;
            so = rw (r, k.so, under_is) refl;
            heads-left = k.heads-left ∙ heads_is;
            on = let a = k.on in let b = is_read.on in omega arith;
            few = let a = few_bits g is_read.said in let b = is_read.on in let f = k.few in rw r (omega arith);
          }

      pub gathering_less : length t - read.next.at < length t - p.at
      gathering_less = let a = is_read.on in let b = is_read.next.inn.at_in in omega arith

pub pass_less : (t : List ℕ) (p q : Place) → p.at < length t → Follows t p q → length t - q.at < length t - p.at
pass_less t p q inside follows = let a = follows.on in omega arith

pub ruleset gather_laws = (gathering_start, gathering_end, gathering_stop, gathering_pass, pass_less, gathering_few, gathering_next, gathering_less)
