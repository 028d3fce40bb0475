-- Two headers' P lines that say the same up to where a path leads, ks trees. Assumes nothing.
use mathlib.Core.Path.{◌≡◌, refl, sym, ap, subst}
use mathlib.Core.Bool.{Bool, true, false, cond, not, ◌&&◌, ◌||◌, true≢false, false≢true}
use mathlib.Core.List.{List, [], ◌∷◌, ◌++◌, map}
use Prim.Native.Nat.{ℕ, zero, suc, ◌≤◌, ◌<◌}
use native.Mathlib.Omega.{arith}
use lib.Dec.{eqb, leb, ltb}
use borrow.Author.Tests.{leb-true, eqb-true, ltb-false, le-ltb, ne_eqb}
use Rattle.laws.proofs.Bools.{and_left, and_right}
use Rattle.text.specs.Text.{same}
use Rattle.text.specs.Print.{Every}
use Rattle.text.proofs.Printing.{same_is}
use Rattle.frame_text.specs.Form.{Path, Param}
use Rattle.frame_definition.specs.Definition.{Numbered}
use Rattle.header_rules.specs.Data.{Name, Node, Kid, P}
use Rattle.header_rules.specs.Order.{Before, Rising}
use Rattle.header_rules.specs.Trees.{node, of_level, kids}
use Rattle.overlaps.specs.Overlaps.{alike, has_outer, clear_of, straight, leads}
use Rattle.overlaps.proofs.Alike.{alike_is}

-- a P line without its number
abbrev pub zeroed : Param → Numbered
zeroed p = record { number = 0; says = p }

abbrev pub plainly : List Param → List Numbered
plainly ps = map zeroed ps

-- another name
abbrev pub Other : {K : Type 0} → Name → Node K → Type 0
Other x p = same p.name x ≡ false

-- two lists that begin alike, up to a P of the name x that says the same in both; what is inside it goes on by `Next`
pub record Fork (n : ℕ) (Next : Path → List (Kid n) → List (Kid n) → Type 0) (x : Name) (path : Path) (ks ls : List (P n)) : Type 0 where
  pub front : List (P n)
  pub line : Numbered
  pub inside_a : List (Kid n)
  pub inside-b : List (Kid n)
  pub behind_a : List (P n)
  pub behind-b : List (P n)
  pub first : ks ≡ front ++ node line inside_a ∷ behind_a
  pub second : ls ≡ front ++ node line inside-b ∷ behind-b
  pub named : same line.says.name x ≡ true
  pub others : Every (Other x) front
  pub others_a : Every (Other x) behind_a
  pub others_b : Every (Other x) behind-b
  pub rising_a : Rising ks
  pub rising_b : Rising ls
  pub next : Next path inside_a inside-b

-- the same at every depth, ks far ks the path goes
abbrev pub Deeper : (n : ℕ) → Path → List (Kid n) → List (Kid n) → Type 0
Deeper zero path ks ls = Unit {0}
Deeper (suc n) [] ks ls = Unit {0}
Deeper (suc n) (x ∷ path) ks ls = Fork n (Deeper n) x path ks ls

-- the Ps of a level
abbrev pub of_lines : (n : ℕ) → ℕ → List Param → List (P n)
of_lines n level ps = of_level (λ p rest. node p (kids n (suc level) rest)) level (plainly ps)

-- ---- one list
clear_every : (n level order : ℕ) (name : Name) (ps : List Param) → clear_of level order name ps ≡ true
    → Every (λ (k : P n). (order ≤ k.order) × Other name k) (of_lines n level ps)
unfolding of_level
clear_every n level order name [] e = tt
clear_every n level order name (p ∷ ps) e =
    go (ltb p.level level) (eqb p.level level) (leb order p.order) refl (same p.name name) refl e (clear_every n level order name ps)
  where
    go : (l m o : Bool) → leb order p.order ≡ o → (s : Bool) → same p.name name ≡ s
        → cond l true (cond m ((o && not s) && clear_of level order name ps) (clear_of level order name ps)) ≡ true
        → (clear_of level order name ps ≡ true → Every (λ (k : P n). (order ≤ k.order) × Other name k) (of_lines n level ps))
        → Every (λ (k : P n). (order ≤ k.order) × Other name k)
        (cond l [] (cond m (node (zeroed p) (kids n (suc level) (plainly ps)) ∷ of_lines n level ps) (of_lines n level ps)))
    go true m o q s r e ih = tt
    go false false o q s r e ih = ih e
    go false true true q false r e ih = ((leb-true order p.order q, r), ih e)
    go false true true q true r e ih = absurd (false≢true e)
    go false true false q s r e ih = absurd (false≢true e)

before_every : {K : Type 0} (p : Node K) (name : Name) (ks : List (Node K)) → Every (λ (k : Node K). (p.order ≤ k.order) × Other name k) ks
    → Before p ks
before_every p name [] a = tt
before_every p name (k ∷ ks) a = (a.0.0, before_every p name ks a.1)

pub rising : (n level : ℕ) (ps : List Param) → straight ps ≡ true → Rising (of_lines n level ps)
unfolding of_level
rising n level [] e = tt
rising n level (p ∷ ps) e =
    go (ltb p.level level) (eqb p.level level) refl (and_left (clear_of p.level p.order p.name ps) (straight ps) e)
    (rising n level ps (and_right (clear_of p.level p.order p.name ps) (straight ps) e))
  where
    it : P n
    it = node (zeroed p) (kids n (suc level) (plainly ps))

    go : (l m : Bool) → eqb p.level level ≡ m → clear_of p.level p.order p.name ps ≡ true → Rising (of_lines n level ps)
        → Rising (cond l [] (cond m (it ∷ of_lines n level ps) (of_lines n level ps)))
    go true m q c ih = tt
    go false false q c ih = ih
    go false true q c ih =
        let at : clear_of level p.order p.name ps ≡ true =
        subst (λ (k : ℕ). clear_of k p.order p.name ps ≡ true) (eqb-true p.level level q) c in
        (before_every it p.name (of_lines n level ps) (clear_every n level p.order p.name ps at), ih)

others_of_lem : {K : Type 0} (order : ℕ) (name x : Name) → name ≡ x → (ks : List (Node K))
    → Every (λ (k : Node K). (order ≤ k.order) × Other name k) ks
    → Every (Other x) ks
others_of_lem order name x e [] a = tt
others_of_lem order name x e (k ∷ ks) a = (subst (λ (y : Name). same k.name y ≡ false) e a.0.1, others_of_lem order name x e ks a.1)

behind : (n level : ℕ) (x : Name) (p : Param) (ps : List Param) → p.level ≡ level → same p.name x ≡ true → straight (p ∷ ps) ≡ true
    → Every (Other x) (of_lines n level ps)
behind n level x p ps l s e =
    others_of_lem p.order p.name x (same_is p.name x s) (of_lines n level ps)
    (clear_every n level p.order p.name ps
    (subst (λ (k : ℕ). clear_of k p.order p.name ps ≡ true) l (and_left (clear_of p.level p.order p.name ps) (straight ps) e)))

-- ---- two lists
-- what one line says of both
abbrev on : ℕ → Name → Path → Param → List Param → List Param → Bool
on level x path p ps qs =
    cond (ltb p.level level) false
    (cond (eqb p.level level && same p.name x) (leads (suc level) path ps qs) (leads level (x ∷ path) ps qs))

-- what is inside a P that comes before the one looked for is the same
inside-same : (ps qs : List Param) (level : ℕ) (x : Name) (path : Path) → leads level (x ∷ path) ps qs ≡ true → (n m : ℕ) → level < m
    → kids n m (plainly ps) ≡ kids n m (plainly qs)
unfolding kids of_level
inside-same ps qs level x path e zero m l = refl
inside-same [] qs level x path e (suc n) m l = absurd (false≢true e)
inside-same (p ∷ ps) [] level x path e (suc n) m l = absurd (false≢true e)
inside-same (p ∷ ps) (q ∷ qs) level x path e (suc n) m l =
    subst (λ (r : Param). kids (suc n) m (plainly (p ∷ ps)) ≡ kids (suc n) m (plainly (r ∷ qs)))
    (alike_is p q (and_left (alike p q) (on level x path p ps qs) e))
    (go (ltb p.level m) refl (eqb p.level m)
    (and_right (alike p q) (on level x path p ps qs) e)
    (λ f. inside-same ps qs level x path f (suc n) m l) (λ f. inside-same ps qs level x path f n (suc m) (omega arith)))
  where
    go : (a : Bool) → ltb p.level m ≡ a → (b : Bool)
        → cond (ltb p.level level) false
        (cond (eqb p.level level && same p.name x) (leads (suc level) path ps qs) (leads level (x ∷ path) ps qs)) ≡ true
        → (leads level (x ∷ path) ps qs ≡ true → of_lines n m ps ≡ of_lines n m qs)
        → (leads level (x ∷ path) ps qs ≡ true → kids n (suc m) (plainly ps) ≡ kids n (suc m) (plainly qs))
        → cond a [] (cond b (node (zeroed p) (kids n (suc m) (plainly ps)) ∷ of_lines n m ps) (of_lines n m ps))
        ≡ cond a [] (cond b (node (zeroed p) (kids n (suc m) (plainly qs)) ∷ of_lines n m qs) (of_lines n m qs))
    go true h b f ih deep = refl
    go false h b f ih deep =
        let far : m ≤ p.level = ltb-false p.level m h in
        let more : leads level (x ∷ path) ps qs ≡ true =
        rw (le-ltb p.level level (omega arith), ne_eqb p.level level (λ z. omega arith)) at f in
        which b (ih more) (deep more)
      where
        which : (b : Bool) → of_lines n m ps ≡ of_lines n m qs → kids n (suc m) (plainly ps) ≡ kids n (suc m) (plainly qs)
            → cond b (node (zeroed p) (kids n (suc m) (plainly ps)) ∷ of_lines n m ps) (of_lines n m ps)
            ≡ cond b (node (zeroed p) (kids n (suc m) (plainly qs)) ∷ of_lines n m qs) (of_lines n m qs)
        which true i j = λ k. node (zeroed p) (j k) ∷ i k
        which false i j = i

-- a P line of both
step : (n level : ℕ) (x : Name) (path : Path) (p : Param) (ps qs : List Param) → on level x path p ps qs ≡ true
    → straight (p ∷ ps) ≡ true → straight (p ∷ qs) ≡ true
    → (leads (suc level) path ps qs ≡ true → Deeper n path (kids n (suc level) (plainly ps)) (kids n (suc level) (plainly qs)))
    → (leads level (x ∷ path) ps qs ≡ true → Fork n (Deeper n) x path (of_lines n level ps) (of_lines n level qs))
    → Fork n (Deeper n) x path (of_lines n level (p ∷ ps)) (of_lines n level (p ∷ qs))
unfolding of_level
step n level x path p ps qs e s r deep more =
    go (ltb p.level level) (eqb p.level level) refl (same p.name x) refl e (rising n level (p ∷ ps) s) (rising n level (p ∷ qs) r)
  where
    a : P n
    a = node (zeroed p) (kids n (suc level) (plainly ps))

    b : P n
    b = node (zeroed p) (kids n (suc level) (plainly qs))

    go : (l m : Bool) → eqb p.level level ≡ m → (u : Bool) → same p.name x ≡ u
        → cond l false (cond (m && u) (leads (suc level) path ps qs) (leads level (x ∷ path) ps qs)) ≡ true
        → Rising (cond l [] (cond m (a ∷ of_lines n level ps) (of_lines n level ps)))
        → Rising (cond l [] (cond m (b ∷ of_lines n level qs) (of_lines n level qs)))
        → Fork n (Deeper n) x path (cond l [] (cond m (a ∷ of_lines n level ps) (of_lines n level ps)))
        (cond l [] (cond m (b ∷ of_lines n level qs) (of_lines n level qs)))
    go true m h u k f ra rb = absurd (false≢true f)
    go false false h u k f ra rb = more f
    go false true h true k f ra rb =
        record {
          front = [];
          line = zeroed p;
          inside_a = kids n (suc level) (plainly ps);
          inside-b = kids n (suc level) (plainly qs);
          behind_a = of_lines n level ps;
          behind-b = of_lines n level qs;
          first = refl;
          second = refl;
          named = k;
          others = tt;
          others_a = behind n level x p ps (eqb-true p.level level h) k s;
          others_b = behind n level x p qs (eqb-true p.level level h) k r;
          rising_a = ra;
          rising_b = rb;
          next = deep f;
        }
    go false true h false k f ra rb =
        let on-it = more f in
        let same-inside : kids n (suc level) (plainly ps) ≡ kids n (suc level) (plainly qs) =
        inside-same ps qs level x path f n (suc level) (omega arith) in
        record {
          front = a ∷ on-it.front;
          line = on-it.line;
          inside_a = on-it.inside_a;
          inside-b = on-it.inside-b;
          behind_a = on-it.behind_a;
          behind-b = on-it.behind-b;
          first = ap (λ (z : List (P n)). a ∷ z) on-it.first;
          second = λ i. node (zeroed p) (sym same-inside i) ∷ on-it.second i;
          named = on-it.named;
          others = (k, on-it.others);
          others_a = on-it.others_a;
          others_b = on-it.others_b;
          rising_a = ra;
          rising_b = rb;
          next = on-it.next;
        }

tail : (p : Param) (ps : List Param) → straight (p ∷ ps) ≡ true → straight ps ≡ true
tail p ps e = and_right (clear_of p.level p.order p.name ps) (straight ps) e

-- the two lists fork where the path leads
pub fork : (ps qs : List Param) (n level : ℕ) (path : Path) → leads level path ps qs ≡ true → straight ps ≡ true → straight qs ≡ true
    → Deeper n path (kids n level (plainly ps)) (kids n level (plainly qs))
unfolding kids
fork ps qs zero level path e s r = tt
fork ps qs (suc n) level [] e s r = tt
fork [] qs (suc n) level (x ∷ path) e s r = absurd (false≢true e)
fork (p ∷ ps) [] (suc n) level (x ∷ path) e s r = absurd (false≢true e)
fork (p ∷ ps) (q ∷ qs) (suc n) level (x ∷ path) e s r =
    subst (λ (u : Param). straight (u ∷ qs) ≡ true → Fork n (Deeper n) x path (of_lines n level (p ∷ ps)) (of_lines n level (u ∷ qs)))
    (alike_is p q (and_left (alike p q) (on level x path p ps qs) e))
    (λ k. step n level x path p ps qs (and_right (alike p q) (on level x path p ps qs) e) s k
    (λ f. fork ps qs n (suc level) path f (tail p ps s) (tail q qs r))
    (λ f. fork ps qs (suc n) level (x ∷ path) f (tail p ps s) (tail q qs r)))
    r

pub outer : (ps qs : List Param) (path : Path) → leads 0 path ps qs ≡ true → straight ps ≡ true → straight qs ≡ true
    → Deeper 8 path (of_lines 7 0 ps) (of_lines 7 0 qs)
unfolding kids
outer ps qs path e s r = fork ps qs 8 0 path e s r

-- ---- no field of its own
pub no_outer : (n : ℕ) (x : Name) (ps : List Param) → has_outer x ps ≡ false → Every (Other x) (of_lines n 0 ps)
unfolding of_level
no_outer n x [] e = tt
no_outer n x (p ∷ ps) e = rw (le-ltb p.level 0 (omega arith)) (go (eqb p.level 0) (same p.name x) refl e (no_outer n x ps))
  where
    go : (m s : Bool) → same p.name x ≡ s → ((m && s) || has_outer x ps) ≡ false → (has_outer x ps ≡ false → Every (Other x) (of_lines n 0 ps))
        → Every (Other x) (cond m (node (zeroed p) (kids n 1 (plainly ps)) ∷ of_lines n 0 ps) (of_lines n 0 ps))
    go false s h e ih = ih e
    go true false h e ih = (h, ih e)
    go true true h e ih = absurd (true≢false e)
