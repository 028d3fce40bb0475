-- Demand 3 of every walk: outer rows follow one another, and each row lies where its parent does. Assumes nothing.
use mathlib.Core.Path.{◌≡◌, refl, sym, ap, ◌∙◌, subst}
use mathlib.Core.Bool.{Bool, true, false, cond}
use mathlib.Core.List.{List, [], ◌∷◌, ◌++◌, append_assoc, append-nil}
use Prim.Native.Nat.{ℕ, zero, suc, ◌+◌, ◌-◌, ◌≤◌, ◌<◌}
use native.Mathlib.Nat.{add-zero}
use native.Mathlib.Omega.{arith}
use lib.Dec.{eqb, ltb}
use lib.ListN.{length, get_or, drop, length-append, length-drop}
use lib.Seq.{length-take-le}
use borrow.Author.Tests.{eqb-true, eq-eqb, ne_eqb, ltb-true}
use Rattle.command_class.specs.Definition.{Item, Parameter, Entry, single, repeated, of_item}
use Rattle.command_rules.specs.Lengths.{repeats}
use Rattle.command_rules.specs.declared.Earlier.{Earlier}
use Rattle.command_rules.specs.declared.Length.{Length}
use Rattle.command_rules.specs.Field.{Field, field_of}
use Rattle.command_rules.specs.declared.Row.{Row}
use Rattle.command_rules.specs.Param.{in_payload, bit_value, bit_onto, bit_rows, row_of, bytes_at, size_at, param_rows, param_entry}
use Rattle.command_rules.specs.Walk.{Walked, ended, after, once, on_size, members, turn, repetition_row, repetitions, group_at, outer, unvalued}
use Rattle.command_rules.specs.declared.Offsets.{Offsets}
use Rattle.command_rules.specs.Sum.{children_of, Follow, bytes, AllParams, OnByte, Inside, Placed, CutAtEnd}
use Rattle.command_rules.proofs.Lengths.{size-all}
use Rattle.command_rules.proofs.Bounds.{size_facts}
use Rattle.std.specs.Prelude.{Option, Some, None}

-- ---- children of rows that stand together
pub children_append : (c : ℕ) (a b : List Row) → children_of c (a ++ b) ≡ children_of c a ++ children_of c b
unfolding children_of
children_append c [] b = refl
children_append c (r ∷ a) b = go (eqb r.parent c) (children_append c a b)
  where
    go : (x : Bool) → children_of c (a ++ b) ≡ children_of c a ++ children_of c b
        → cond x (r ∷ children_of c (a ++ b)) (children_of c (a ++ b)) ≡ cond x (r ∷ children_of c a) (children_of c a) ++ children_of c b
    go true ih = ap (λ (l : List Row). r ∷ l) ih
    go false ih = ih

pub neither : (c : ℕ) (a b : List Row) → children_of c a ≡ [] → children_of c b ≡ [] → children_of c (a ++ b) ≡ []
neither c a b ea eb = children_append c a b ∙ rw (ea, eb) refl

-- ---- rows that follow one another
follow_append : (s m e : ℕ) (a b : List Row) → Follow s a m → Follow m b e → Follow s (a ++ b) e
unfolding Follow
follow_append s m e [] b h k = rw h k
follow_append s m e (r ∷ a) b h k = (h.0, h.1, follow_append r.end m e a b h.2 k)

params-append : (a b : List Row) → AllParams a → AllParams b → AllParams (a ++ b)
unfolding AllParams
params-append [] b h k = k
params-append (r ∷ a) b h k = (h.0, params-append a b h.1 k)

pub follow_sum : (s e : ℕ) (rs : List Row) → Follow s rs e → s + bytes rs ≡ e
unfolding Follow bytes
follow_sum s e [] h = add-zero s ∙ h
follow_sum s e (r ∷ rs) h = let ih = follow_sum r.end e rs h.2 in let a = h.0 in let b = h.1 in omega arith

-- ---- bit children
unfoldable pub Leaves : ℕ → ℕ → List Row → Type 0
Leaves p s [] = Unit {0}
Leaves p s (r ∷ rs) = (r.kind ≡ 1) × (r.parent ≡ p) × (r.start ≡ s) × (r.end ≡ s + 1) × Leaves p s rs

pub bits_leaves : (b p s : ℕ) (is : List Item) → Leaves p s (bit_rows b p s is)
unfolding Leaves bit_rows
bits_leaves b p s [] = tt
bits_leaves b p s (i ∷ is) = go (of_item (bit_value b) i.says) (bits_leaves b p s is)
  where
    go : (v : Option ℕ) → Leaves p s (bit_rows b p s is) → Leaves p s (bit_onto i.line p s v (bit_rows b p s is))
    go None ih = ih
    go (Some v) ih = (refl, refl, refl, refl, ih)

no_leaves : (p s : ℕ) → Leaves p s []
unfolding Leaves
no_leaves p s = tt

leaves_all : (p s : ℕ) (ks : List Row) → Leaves p s ks → children_of p ks ≡ ks
unfolding Leaves children_of
leaves_all p s [] h = refl
leaves_all p s (r ∷ ks) h = rw (eq-eqb r.parent p h.1) (ap (λ (l : List Row). r ∷ l) (leaves_all p s ks h.4))

leaves_none : (c p s : ℕ) (ks : List Row) → Leaves p s ks → (p ≡ c → ⊥) → children_of c ks ≡ []
unfolding Leaves children_of
leaves_none c p s [] h d = refl
leaves_none c p s (r ∷ ks) h d = rw (ne_eqb r.parent c (λ z. d (sym h.1 ∙ z))) (leaves_none c p s ks h.4 d)

no_kids : (r : Row) → OnByte r []
unfolding OnByte
no_kids r = tt

leaves_on : (p s : ℕ) (ks : List Row) (r : Row) → Leaves p s ks → r.start ≡ s → r.end ≡ s + 1 → OnByte r ks
unfolding Leaves OnByte
leaves_on p s [] r h es ee = tt
leaves_on p s (k ∷ ks) r h es ee = (h.0, h.2 ∙ sym es, h.3 ∙ sym ee, ee ∙ ap (λ (x : ℕ). x + 1) (sym es), leaves_on p s ks r h.4 es ee)

leaves_placed : (m p s : ℕ) (ks tail : List Row) → Leaves p s ks → p ≤ m
    → ((c : ℕ) → m < c → c ≤ m + length ks → children_of c tail ≡ []) → Placed (m + length ks) tail → Placed m (ks ++ tail)
unfolding Leaves Placed
leaves_placed m p s [] tail h l clear t = rw add-zero at t
leaves_placed m p s (k ∷ ks) tail h l clear t =
    let e : m + length (k ∷ ks) ≡ m + 1 + length ks = omega arith in
    let alone : children_of (m + 1) (ks ++ tail) ≡ [] =
    neither (m + 1) ks tail (leaves_none (m + 1) p s ks h.4 (λ z. omega arith)) (clear (m + 1) (omega arith) (omega arith)) in
    let kind : k.kind ≡ 1 = h.0 in
    let parent : k.parent ≡ p = h.1 in (
      omega arith,
      subst (λ (x : ℕ). Inside x k (children_of (m + 1) (ks ++ tail))) (sym kind) alone,
      leaves_placed (m + 1) p s ks tail h.4 (omega arith)
          (λ c u v. clear c (omega arith) (omega arith)) (rw e at t),
    )

-- ---- a Q: its own row and its bit children
pub record Shape (rs : List Row) (at size n parent : ℕ) : Type 0 where
  pub row : Row
  pub kids : List Row
  pub is : rs ≡ row ∷ kids
  pub kind : row.kind ≡ 0
  pub parent_is : row.parent ≡ parent
  pub start : row.start ≡ in_payload at
  pub end : row.end ≡ in_payload (at + size)
  pub leaves : Leaves (n + 1) (in_payload at) kids
  pub on : OnByte row kids

pub shape : (body : List ℕ) (q : Field) (es : List Earlier) (at : ℕ) (size : Length) (n parent : ℕ) → size_at body q es at ≡ Some size
    → Shape (param_rows body q at size n parent) at size.taken n parent
unfolding param_rows
shape body q es at size n parent there = go (eqb (length (bytes_at body at size.taken)) 1) refl
  where
    long : length (bytes_at body at size.taken) ≡ size.taken
    long = let f = size_facts body q es at size there in let f1 = f.1 in length-take-le size.taken (drop at body) (rw length-drop f1)

    go : (x : Bool) → eqb (length (bytes_at body at size.taken)) 1 ≡ x
        → Shape (row_of q parent (in_payload at) (bytes_at body at size.taken) size.lacking ∷ cond x
        (bit_rows (get_or (bytes_at body at size.taken) 0 0) (n + 1) (in_payload at) q.items) []) at size.taken n parent
    go true e =
        let kids-are = bits_leaves (get_or (bytes_at body at size.taken) 0 0) (n + 1) (in_payload at) q.items in
        let one : length (bytes_at body at size.taken) ≡ 1 = eqb-true (length (bytes_at body at size.taken)) 1 e in
        record {
          row = row_of q parent (in_payload at) (bytes_at body at size.taken) size.lacking;
          kids = bit_rows (get_or (bytes_at body at size.taken) 0 0) (n + 1) (in_payload at) q.items;
          is = refl;
          kind = refl;
          parent_is = refl;
          start = refl;
          end = omega (arith, long);
          leaves = kids-are;
          on = leaves_on (n + 1) (in_payload at) (bit_rows (get_or (bytes_at body at size.taken) 0 0) (n + 1) (in_payload at) q.items)
              (row_of q parent (in_payload at) (bytes_at body at size.taken) size.lacking) kids-are refl (ap (λ (x : ℕ). in_payload at + x) one);
        }
    go false e =
        record {
          row = row_of q parent (in_payload at) (bytes_at body at size.taken) size.lacking;
          kids = [];
          is = refl;
          kind = refl;
          parent_is = refl;
          start = refl;
          end = omega (arith, long);
          leaves = no_leaves (n + 1) (in_payload at);
          on = no_kids (row_of q parent (in_payload at) (bytes_at body at size.taken) size.lacking);
        }

module _ (rs : List Row) (at size n parent : ℕ) (w : Shape rs at size n parent) where
  -- whose children its rows are
  pub param-none : (c : ℕ) → (parent ≡ c → ⊥) → (n + 1 ≡ c → ⊥) → children_of c rs ≡ []
  unfolding children_of
  param-none c d k = rw (w.is, ne_eqb w.row.parent c (λ z. d (sym w.parent_is ∙ z))) (leaves_none c (n + 1) (in_payload at) w.kids w.leaves k)

  pub param_one : parent ≤ n → children_of parent rs ≡ w.row ∷ []
  unfolding children_of
  param_one h = rw (w.is, eq-eqb w.row.parent parent w.parent_is)
      (ap (λ (l : List Row). w.row ∷ l) (leaves_none parent (n + 1) (in_payload at) w.kids w.leaves (λ z. omega arith)))

  param_follow : 0 < size → Follow (in_payload at) (w.row ∷ []) (in_payload (at + size))
  unfolding Follow
  param_follow h = let s = w.start in let e = w.end in (s, omega arith, e)

  param_kind_lem : AllParams (w.row ∷ [])
  unfolding AllParams
  param_kind_lem = (w.kind, tt)

  param-placed : (tail : List Row) → parent ≤ n → ((c : ℕ) → n < c → c ≤ n + length rs → children_of c tail ≡ [])
      → Placed (n + length rs) tail → Placed n (rs ++ tail)
  unfolding Placed
  param-placed tail h clear t =
      let count : length rs ≡ suc (length w.kids) = ap length w.is in
      let kids-are : children_of (n + 1) (w.kids ++ tail) ≡ w.kids =
      children_append (n + 1) w.kids tail ∙ rw (leaves_all (n + 1) (in_payload at) w.kids w.leaves, clear (n + 1) (omega arith) (omega arith))
      (append-nil w.kids) in
      let on-it : Inside w.row.kind w.row (children_of (n + 1) (w.kids ++ tail)) =
      subst (λ (x : ℕ). Inside x w.row (children_of (n + 1) (w.kids ++ tail))) (sym w.kind) (rw kids-are w.on) in
      let low : w.row.parent ≤ n = let p = w.parent_is in omega arith in
      let e : n + length rs ≡ n + 1 + length w.kids = omega arith in
      rw w.is (
        low,
        on-it,
        leaves_placed (n + 1) (n + 1) (in_payload at) w.kids tail w.leaves (omega arith)
            (λ c u v. clear c (omega arith) (omega arith)) (rw e at t),
      )

-- ---- the members of a repetition
pub record Inner (w : Walked) (at n parent : ℕ) : Type 0 where
  pub none_other : (c : ℕ) → (parent ≡ c → ⊥) → c ≤ n → children_of c w.rows ≡ []
  pub follow : parent ≤ n → Follow (in_payload at) (children_of parent w.rows) (in_payload w.end)
  pub params : parent ≤ n → AllParams (children_of parent w.rows)
  pub placed : (tail : List Row) → parent ≤ n → ((c : ℕ) → 0 < c → c ≤ n + length w.rows → children_of c tail ≡ [])
      → Placed (n + length w.rows) tail → Placed n (w.rows ++ tail)

inner_end : (at n parent : ℕ) → Inner (ended at) at n parent
unfolding children_of Follow AllParams
inner_end at n parent = record { none_other = λ c d h. refl; follow = λ h. refl; params = λ h. tt; placed = λ tail h clear t. rw add-zero at t }

inner_more : (rs : List Row) (at size n parent : ℕ) (w : Walked) → Shape rs at size n parent → 0 < size → Inner w (at + size) (n + length rs) parent
    → Inner (after rs w) at n parent
inner_more rs at size n parent w s byte rest =
    record {
      none_other = λ c d h. neither c rs w.rows (param-none rs at size n parent s c d (λ z. omega arith)) (rest.none_other c d (omega arith));
      follow = λ h.
          rw (children_append parent rs w.rows, param_one rs at size n parent s h)
          (follow_append (in_payload at) (in_payload (at + size)) (in_payload w.end) (s.row ∷ []) (children_of parent w.rows)
          (param_follow rs at size n parent s byte) (rest.follow (omega arith)));
      params = λ h.
          rw (children_append parent rs w.rows, param_one rs at size n parent s h)
          (params-append (s.row ∷ []) (children_of parent w.rows) (param_kind_lem rs at size n parent s) (rest.params (omega arith)));
      placed = λ tail h clear t.
          let all : n + length (rs ++ w.rows) ≡ n + length rs + length w.rows = rw length-append (omega arith) in
          rw append_assoc
          (param-placed rs at size n parent s (w.rows ++ tail) h
          (λ c u v. neither c w.rows tail (rest.none_other c (λ z. omega arith) v) (clear c (omega arith) (omega (arith, all))))
          (rest.placed tail (omega arith) (λ c u v. clear c u (omega (arith, all))) (rw all at t)));
    }

pub inner_members : (body : List ℕ) (qs : List Parameter) (at : ℕ) (es : List Earlier) (n parent : ℕ)
    → Inner (members body qs at es n parent) at n parent
unfolding members
inner_members body [] at es n parent = inner_end at n parent
inner_members body (q ∷ qs) at es n parent =
    go (size_at body (field_of q) es at) refl (λ size. inner_members body qs (at + size.taken) (es ++ (param_entry body at size.taken ∷ []))
    (n + length (param_rows body (field_of q) at size n parent)) parent)
  where
    go : (s : Option Length) → size_at body (field_of q) es at ≡ s
        → ((size : Length) → Inner (members body qs (at + size.taken) (es ++ (param_entry body at size.taken ∷ []))
        (n + length (param_rows body (field_of q) at size n parent)) parent) (at + size.taken) (n + length (param_rows body (field_of q) at size n parent)) parent)
        → Inner
        (on_size s
        (λ size.
        after (param_rows body (field_of q) at size n parent)
        (members body qs (at + size.taken) (es ++ (param_entry body at size.taken ∷ []))
        (n + length (param_rows body (field_of q) at size n parent)) parent))
        (ended at))
        at n parent
    go (Some size) e more =
        inner_more (param_rows body (field_of q) at size n parent) at size.taken n parent _ (shape body (field_of q) es at size n parent e)
        (size_facts body (field_of q) es at size e).0 (more size)
    go None e more = inner_end at n parent

-- ---- what stands in the outer list
pub record Outermost (w : Walked) (at n : ℕ) : Type 0 where
  pub none_other : (c : ℕ) → 0 < c → c ≤ n → children_of c w.rows ≡ []
  pub follow : Follow (in_payload at) (children_of 0 w.rows) (in_payload w.end)
  pub placed : (tail : List Row) → ((c : ℕ) → 0 < c → c ≤ n + length w.rows → children_of c tail ≡ []) → Placed (n + length w.rows) tail
      → Placed n (w.rows ++ tail)

outermost_end : (at n : ℕ) → Outermost (ended at) at n
unfolding children_of Follow
outermost_end at n = record { none_other = λ c d h. refl; follow = refl; placed = λ tail clear t. rw add-zero at t }

-- a Q, and then what a walk gives
outermost_param : (rs : List Row) (at size n : ℕ) (w : Walked) → Shape rs at size n 0 → 0 < size → Outermost w (at + size) (n + length rs)
    → Outermost (after rs w) at n
outermost_param rs at size n w s byte rest =
    record {
      none_other =
          λ c d h. neither c rs w.rows (param-none rs at size n 0 s c (λ z. omega arith) (λ z. omega arith)) (rest.none_other c d (omega arith));
      follow =
          rw (children_append 0 rs w.rows, param_one rs at size n 0 s (omega arith))
          (follow_append (in_payload at) (in_payload (at + size)) (in_payload w.end) (s.row ∷ []) (children_of 0 w.rows)
          (param_follow rs at size n 0 s byte) rest.follow);
      placed = λ tail clear t.
          let all : n + length (rs ++ w.rows) ≡ n + length rs + length w.rows = rw length-append (omega arith) in
          rw append_assoc
          (param-placed rs at size n 0 s (w.rows ++ tail) (omega arith)
          (λ c u v. neither c w.rows tail (rest.none_other c (omega arith) v) (clear c (omega arith) (omega (arith, all))))
          (rest.placed tail (λ c u v. clear c u (omega (arith, all))) (rw all at t)));
    }

-- a repetition, and then what a walk gives
module _ (line k at n : ℕ) (m : Walked) (inside : Inner m at (n + 1) (n + 1)) (took : at < m.end) where
  repetition_none : (c : ℕ) → 0 < c → c ≤ n → children_of c (repetition_row line at m.end k ∷ m.rows) ≡ []
  unfolding children_of repetition_row
  repetition_none c d h = rw (ne_eqb 0 c (λ z. omega arith)) (inside.none_other c (λ z. omega arith) (omega arith))

  pub repetition_one : children_of 0 (repetition_row line at m.end k ∷ m.rows) ≡ repetition_row line at m.end k ∷ []
  unfolding children_of repetition_row
  repetition_one = ap (λ (l : List Row). record {
    kind = 2;
    line = line;
    parent = 0;
    start = in_payload at;
    end = in_payload m.end;
    valued = 0;
    value =
        0;
    named = 0;
    number = k;
    lacking = 0;
  } ∷ l) (inside.none_other 0 (λ z. omega arith) (omega arith))

  repetition_follow : Follow (in_payload at) (repetition_row line at m.end k ∷ []) (in_payload m.end)
  unfolding Follow repetition_row
  repetition_follow = (refl, omega arith, refl)

  repetition_placed : (tail : List Row) → ((c : ℕ) → 0 < c → c ≤ n + 1 + length m.rows → children_of c tail ≡ [])
      → Placed (n + 1 + length m.rows) tail → Placed n (repetition_row line at m.end k ∷ (m.rows ++ tail))
  unfolding Placed repetition_row
  repetition_placed tail clear t =
      let kids : children_of (n + 1) (m.rows ++ tail) ≡ children_of (n + 1) m.rows =
      children_append (n + 1) m.rows tail ∙ rw (clear (n + 1) (omega arith) (omega arith)) (append-nil (children_of (n + 1) m.rows)) in
      (omega arith, (rw kids (inside.params (omega arith)), rw kids (inside.follow (omega arith))), inside.placed tail (omega arith) clear t)

  outermost_repetition : (w : Walked) → Outermost w m.end (n + 1 + length m.rows)
      → Outermost (after (repetition_row line at m.end k ∷ m.rows) w) at n
  outermost_repetition w rest =
      record {
        none_other = λ c d h. neither c (repetition_row line at m.end k ∷ m.rows) w.rows (repetition_none c d h) (rest.none_other c d (omega arith));
        follow =
            rw (children_append 0 (repetition_row line at m.end k ∷ m.rows) w.rows, repetition_one)
            (follow_append (in_payload at) (in_payload m.end) (in_payload w.end) (repetition_row line at m.end k ∷ [])
            (children_of 0 w.rows) repetition_follow rest.follow);
        placed = λ tail clear t.
            let all : n + length ((repetition_row line at m.end k ∷ m.rows) ++ w.rows) ≡ n + 1 + length m.rows + length w.rows = let z =
            length-append m.rows w.rows in omega arith in
            let regroup : (m.rows ++ w.rows) ++ tail ≡ m.rows ++ (w.rows ++ tail) = append_assoc m.rows w.rows tail in
            rw regroup
            (repetition_placed (w.rows ++ tail)
            (λ c u v. neither c w.rows tail (rest.none_other c u v) (clear c u (omega (arith, all))))
            (rest.placed tail (λ c u v. clear c u (omega (arith, all))) (rw all at t)));
      }

outermost_repetitions : (body : List ℕ) (line : ℕ) (qs : List Parameter) (most k at n : ℕ) → Outermost (repetitions body line qs most k at n) at n
unfolding repetitions turn
outermost_repetitions body line qs zero k at n = outermost_end at n
outermost_repetitions body line qs (suc most) k at n =
    go (members body qs at [] (n + 1) (n + 1)) (inner_members body qs at [] (n + 1) (n + 1))
    (λ m. outermost_repetitions body line qs most (k + 1) m.end (n + 1 + length m.rows))
  where
    go : (m : Walked) → Inner m at (n + 1) (n + 1)
        → ((m : Walked) → Outermost (repetitions body line qs most (k + 1) m.end (n + 1 + length m.rows)) m.end (n + 1 + length m.rows))
        → Outermost (cond (ltb at m.end) (after (repetition_row line at m.end k ∷ m.rows)
        (once (repetitions body line qs most (k + 1) m.end (n + 1 + length m.rows)))) (ended at)) at n
    go m inside more = by (ltb at m.end) refl
      where
        counted : (w : Walked) (a b : ℕ) → Outermost w a b → Outermost (once w) a b
        counted w a b o = record { none_other = o.none_other; follow = o.follow; placed = o.placed }

        by : (x : Bool) → ltb at m.end ≡ x
            → Outermost (cond x (after (repetition_row line at m.end k ∷ m.rows)
            (once (repetitions body line qs most (k + 1) m.end (n + 1 + length m.rows)))) (ended at)) at n
        by true e = outermost_repetition line k at n m inside (ltb-true at m.end e)
            (once (repetitions body line qs most (k + 1) m.end (n + 1 + length m.rows))) (counted _ m.end (n + 1 + length m.rows) (more m))
        by false e = outermost_end at n

-- a group, and then what a walk gives
outermost_group : (g w : Walked) (at n : ℕ) → Outermost g at n → Outermost w g.end (n + length g.rows) → Outermost (after g.rows w) at n
outermost_group g w at n a b =
    record {
      none_other = λ c d h. neither c g.rows w.rows (a.none_other c d h) (b.none_other c d (omega arith));
      follow =
          rw (children_append 0 g.rows w.rows)
          (follow_append (in_payload at) (in_payload g.end) (in_payload w.end) (children_of 0 g.rows) (children_of 0 w.rows) a.follow b.follow);
      placed = λ tail clear t.
          let all : n + length (g.rows ++ w.rows) ≡ n + length g.rows + length w.rows = rw length-append (omega arith) in
          rw append_assoc
          (a.placed (w.rows ++ tail)
          (λ c u v. neither c w.rows tail (b.none_other c u v) (clear c u (omega (arith, all))))
          (b.placed tail (λ c u v. clear c u (omega (arith, all))) (rw all at t)));
    }

pub outermost : (offsets : Offsets) (body : List ℕ) (ds : List Entry) (at : ℕ) (es : List Earlier) (n : ℕ)
    → Outermost (outer offsets body ds at es n) at n
unfolding outer group_at
outermost offsets body [] at es n = outermost_end at n
outermost offsets body (single q ∷ ds) at es n = go (size_at body (field_of q) es at) refl (λ at' es' n'. outermost offsets body ds at' es' n')
  where
    go : (s : Option Length) → size_at body (field_of q) es at ≡ s
        → ((at' : ℕ) (es' : List Earlier) (n' : ℕ) → Outermost (outer offsets body ds at' es' n') at' n')
        → Outermost
        (on_size s
        (λ size.
        after (param_rows body (field_of q) at size n 0)
        (outer offsets body ds (at + size.taken) (es ++ (param_entry body at size.taken ∷ [])) (n + length (param_rows body (field_of q) at size n 0))))
        (outer offsets body ds at (es ++ unvalued offsets 0) n))
        at n
    go (Some size) e more =
        outermost_param (param_rows body (field_of q) at size n 0) at size.taken n _ (shape body (field_of q) es at size n 0 e)
        (size_facts body (field_of q) es at size e).0
        (more (at + size.taken) (es ++ (param_entry body at size.taken ∷ [])) (n + length (param_rows body (field_of q) at size n 0)))
    go None e more = more at (es ++ unvalued offsets 0) n
outermost offsets body (repeated line g qs ∷ ds) at es n =
    go (repetitions body line qs (repeats g.offset g.mask (record { 0 = g.shift }) es (length body - at)) 0 at n)
    (outermost_repetitions body line qs (repeats g.offset g.mask (record { 0 = g.shift }) es (length body - at)) 0 at n)
    (λ at' es' n'. outermost offsets body ds at' es' n')
  where
    go : (w : Walked) → Outermost w at n → ((at' : ℕ) (es' : List Earlier) (n' : ℕ)
        → Outermost (outer offsets body ds at' es' n') at' n')
        → Outermost (after w.rows (outer offsets body ds w.end (es ++ unvalued offsets w.times) (n + length w.rows))) at n
    go w o more = outermost_group w _ at n o (more w.end (es ++ unvalued offsets w.times) (n + length w.rows))

-- ---- what a row lacks
cut-append : (size : ℕ) (a b : List Row) → CutAtEnd size a → CutAtEnd size b → CutAtEnd size (a ++ b)
unfolding CutAtEnd
cut-append size [] b h k = k
cut-append size (r ∷ a) b h k = (h.0, cut-append size a b h.1 k)

cut-none : (size : ℕ) → CutAtEnd size []
unfolding CutAtEnd
cut-none size = tt

cut_bits : (size b p s : ℕ) (is : List Item) → CutAtEnd size (bit_rows b p s is)
unfolding CutAtEnd bit_rows
cut_bits size b p s [] = tt
cut_bits size b p s (i ∷ is) = go (of_item (bit_value b) i.says) (cut_bits size b p s is)
  where
    go : (v : Option ℕ) → CutAtEnd size (bit_rows b p s is) → CutAtEnd size (bit_onto i.line p s v (bit_rows b p s is))
    go None ih = ih
    go (Some v) ih = (λ h. absurd (omega arith), ih)

cut-param : (body : List ℕ) (q : Field) (es : List Earlier) (at : ℕ) (size : Length) (n parent : ℕ) → size_at body q es at ≡ Some size
    → CutAtEnd (2 + length body) (param_rows body q at size n parent)
unfolding CutAtEnd param_rows
cut-param body q es at size n parent there = (own, kids (eqb (length (bytes_at body at size.taken)) 1))
  where
    own : 0 < size.lacking → (◌≡◌ {A = ℕ} 0 0) × (in_payload at + length (bytes_at body at size.taken) ≡ 2 + length body)
    own h =
        let f = size_facts body q es at size there in
        let f0 = f.0 in
        let f1 = f.1 in
        let all = size-all q.offset q.mask q.rule es (length body - at) size there h in
        let long : length (bytes_at body at size.taken) ≡ size.taken = length-take-le size.taken (drop at body) (rw length-drop f1) in
        (refl, omega arith)

    kids : (x : Bool) → CutAtEnd (2 + length body) (cond x (bit_rows (get_or (bytes_at body at size.taken) 0 0) (n + 1) (in_payload at) q.items) [])
    kids true = cut_bits (2 + length body) (get_or (bytes_at body at size.taken) 0 0) (n + 1) (in_payload at) q.items
    kids false = cut-none (2 + length body)

cut_members : (body : List ℕ) (qs : List Parameter) (at : ℕ) (es : List Earlier) (n parent : ℕ)
    → CutAtEnd (2 + length body) (members body qs at es n parent).rows
unfolding members
cut_members body [] at es n parent = cut-none (2 + length body)
cut_members body (q ∷ qs) at es n parent =
    go (size_at body (field_of q) es at) refl (λ at' es' n'. cut_members body qs at' es' n' parent)
  where
    go : (s : Option Length) → size_at body (field_of q) es at ≡ s
        → ((at' : ℕ) (es' : List Earlier) (n' : ℕ) → CutAtEnd (2 + length body) (members body qs at' es' n' parent).rows)
        → CutAtEnd (2 + length body)
        (on_size s
        (λ size.
        after (param_rows body (field_of q) at size n parent)
        (members body qs (at + size.taken) (es ++ (param_entry body at size.taken ∷ []))
        (n + length (param_rows body (field_of q) at size n parent)) parent))
        (ended at)).rows
    go (Some size) e more =
        cut-append (2 + length body) (param_rows body (field_of q) at size n parent) _ (cut-param body (field_of q) es at size n parent e)
        (more (at + size.taken) (es ++ (param_entry body at size.taken ∷ [])) (n + length (param_rows body (field_of q) at size n parent)))
    go None e more = cut-none (2 + length body)

cut_repetition : (size line at end k : ℕ) (rs : List Row) → CutAtEnd size rs → CutAtEnd size (repetition_row line at end k ∷ rs)
unfolding CutAtEnd repetition_row
cut_repetition size line at end k rs h = (λ z. absurd (omega arith), h)

cut-repetitions : (body : List ℕ) (line : ℕ) (qs : List Parameter) (most k at n : ℕ)
    → CutAtEnd (2 + length body) (repetitions body line qs most k at n).rows
unfolding repetitions turn
cut-repetitions body line qs zero k at n = cut-none (2 + length body)
cut-repetitions body line qs (suc most) k at n =
    go (members body qs at [] (n + 1) (n + 1)) (cut_members body qs at [] (n + 1) (n + 1))
    (λ m. cut-repetitions body line qs most (k + 1) m.end (n + 1 + length m.rows))
  where
    go : (m : Walked) → CutAtEnd (2 + length body) m.rows
        → ((m : Walked) → CutAtEnd (2 + length body) (repetitions body line qs most (k + 1) m.end (n + 1 + length m.rows)).rows)
        → CutAtEnd (2 + length body) (cond (ltb at m.end) (after (repetition_row line at m.end k ∷ m.rows)
        (once (repetitions body line qs most (k + 1) m.end (n + 1 + length m.rows)))) (ended at)).rows
    go m h more = by (ltb at m.end)
      where
        by : (x : Bool) → CutAtEnd (2 + length body) (cond x (after (repetition_row line at m.end k ∷ m.rows)
            (once (repetitions body line qs most (k + 1) m.end (n + 1 + length m.rows)))) (ended at)).rows
        by true = cut-append (2 + length body) (repetition_row line at m.end k ∷ m.rows) _
            (cut_repetition (2 + length body) line at m.end k m.rows h) (more m)
        by false = cut-none (2 + length body)

pub cut-outer : (offsets : Offsets) (body : List ℕ) (ds : List Entry) (at : ℕ) (es : List Earlier) (n : ℕ)
    → CutAtEnd (2 + length body) (outer offsets body ds at es n).rows
unfolding outer group_at
cut-outer offsets body [] at es n = cut-none (2 + length body)
cut-outer offsets body (single q ∷ ds) at es n = go (size_at body (field_of q) es at) refl (λ at' es' n'. cut-outer offsets body ds at' es' n')
  where
    go : (s : Option Length) → size_at body (field_of q) es at ≡ s
        → ((at' : ℕ) (es' : List Earlier) (n' : ℕ) → CutAtEnd (2 + length body) (outer offsets body ds at' es' n').rows)
        → CutAtEnd (2 + length body)
        (on_size s
        (λ size.
        after (param_rows body (field_of q) at size n 0)
        (outer offsets body ds (at + size.taken) (es ++ (param_entry body at size.taken ∷ [])) (n + length (param_rows body (field_of q) at size n 0))))
        (outer offsets body ds at (es ++ unvalued offsets 0) n)).rows
    go (Some size) e more =
        cut-append (2 + length body) (param_rows body (field_of q) at size n 0) _ (cut-param body (field_of q) es at size n 0 e)
        (more (at + size.taken) (es ++ (param_entry body at size.taken ∷ [])) (n + length (param_rows body (field_of q) at size n 0)))
    go None e more = more at (es ++ unvalued offsets 0) n
cut-outer offsets body (repeated line g qs ∷ ds) at es n =
    cut-append (2 + length body) (group_at body line g qs es at n).rows _
    (cut-repetitions body line qs (repeats g.offset g.mask (record { 0 = g.shift }) es (length body - at)) 0 at n)
    (cut-outer offsets body ds (group_at body line g qs es at n).end (es ++ unvalued offsets (group_at body line g qs es at n).times)
    (n + length (group_at body line g qs es at n).rows))
