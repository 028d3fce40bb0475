-- X10, X12 (docs/RULES.md): the text that a document says is in plain form. Assumes nothing.
use mathlib.Core.Path.{◌≡◌, refl, sym, ap, ◌∙◌}
use mathlib.Core.Bool.{Bool, true, false, cond, ◌&&◌}
use mathlib.Core.List.{List, [], ◌∷◌, ◌++◌}
use Prim.Native.Nat.{ℕ, suc, ◌≤◌}
use native.Mathlib.Omega.{arith}
use lib.Dec.{eqb}
use borrow.Author.Tests.{eqb-true, le-leb}
use Rattle.laws.proofs.Bools.{and_left, and_right}
use Rattle.text.specs.Text.{fields}
use Rattle.text.specs.Place.{kind_of}
use Rattle.text.specs.Print.{Every}
use Rattle.plain_form.specs.PlainForm.{stands, farther, misplaced, out_of_order, is_plain}
use Rattle.xml_document.specs.Document.{verdict, items_of, letter, owns, picked, owned, blocks, arranged, text_of}
use Rattle.xml_plain.proofs.Lines.{Line, document-lines, text-lines}
use Rattle.xml_plain.proofs.Owners.{allowed, next, Under, document-under}
use Rattle.std.specs.Prelude.{None}

-- ---- lines in order
-- how far lines have come, and whether each may stand where it does
abbrev far : ℕ → List (List ℕ) → ℕ
far n [] = n
far n (l ∷ ls) = far (farther n (kind_of (fields l))) ls

abbrev good : ℕ → List (List ℕ) → Bool
good n [] = true
good n (l ∷ ls) = stands n (kind_of (fields l)) && good (farther n (kind_of (fields l))) ls

-- lines that stand in order, and come from n to m
record Runs (n : ℕ) (ls : List (List ℕ)) (m : ℕ) : Type 0 where
  in_order : good n ls ≡ true
  so_far : far n ls ≡ m

-- the same, to at most `top`
record UpTo (n : ℕ) (ls : List (List ℕ)) (top : ℕ) : Type 0 where
  to : ℕ
  low : to ≤ top
  runs : Runs n ls to

runs_none : (n : ℕ) → Runs n [] n
runs_none n = record { in_order = refl; so_far = refl }

-- a line of the letter w, and what follows it
runs_one : (n m w : ℕ) (l : List ℕ) (ls : List (List ℕ)) → Line l → letter l ≡ w → stands n w ≡ true → Runs (farther n w) ls m
    → Runs n (l ∷ ls) m
runs_one n m w l ls line e s r =
    let k : kind_of (fields l) ≡ w = line.kind ∙ e in
    let t : stands n (kind_of (fields l)) ≡ true = ap (stands n) k ∙ s in
    let q : Runs (farther n (kind_of (fields l))) ls m = rw k r in
    record { in_order = rw t q.in_order; so_far = q.so_far }

runs_both : (n m k : ℕ) (a b : List (List ℕ)) → Runs n a m → Runs m b k → Runs n (a ++ b) k
runs_both n m k [] b p q = let e : n ≡ m = p.so_far in rw e q
runs_both n m k (l ∷ ls) b p q =
    let s : stands n (kind_of (fields l)) ≡ true = and_left (stands n (kind_of (fields l))) (good (farther n (kind_of (fields l))) ls) p.in_order in
    let g : good (farther n (kind_of (fields l))) ls
    ≡ true = and_right (stands n (kind_of (fields l))) (good (farther n (kind_of (fields l))) ls) p.in_order in
    let r : Runs (farther n (kind_of (fields l))) (ls ++ b) k =
    runs_both (farther n (kind_of (fields l))) m k ls b (record { in_order = g; so_far = p.so_far }) q in
    record { in_order = rw s r.in_order; so_far = r.so_far }

-- ---- the lines of a letter
params-run : (n : ℕ) (ls : List (List ℕ)) → eqb n 3 ≡ false → Every Line ls → Runs n (picked 0x50 ls) n
params-run n [] h p = runs_none n
params-run n (l ∷ ls) h p = by (owns (letter l)) (eqb (letter l) 0x50) refl (params-run n ls h p.1)
  where
    by : (a b : Bool) → eqb (letter l) 0x50 ≡ b → Runs n (picked 0x50 ls) n → Runs n (cond a [] (cond b (l ∷ picked 0x50 ls) (picked 0x50 ls))) n
    by true b q r = runs_none n
    by false true q r = runs_one n n 0x50 l (picked 0x50 ls) p.0 (eqb-true (letter l) 0x50 q) (rw h) r
    by false false q r = r

entries-run : (n : ℕ) (ls : List (List ℕ)) → Every Line ls → Runs n (picked 0x45 ls) n
entries-run n [] p = runs_none n
entries-run n (l ∷ ls) p = by (owns (letter l)) (eqb (letter l) 0x45) refl (entries-run n ls p.1)
  where
    by : (a b : Bool) → eqb (letter l) 0x45 ≡ b → Runs n (picked 0x45 ls) n → Runs n (cond a [] (cond b (l ∷ picked 0x45 ls) (picked 0x45 ls))) n
    by true b q r = runs_none n
    by false true q r = runs_one n n 0x45 l (picked 0x45 ls) p.0 (eqb-true (letter l) 0x45 q) refl r
    by false false q r = r

validations-run : (n : ℕ) (ls : List (List ℕ)) → n ≤ 3 → Every Line ls → UpTo n (picked 0x56 ls) 3
validations-run n [] h p = record { to = n; low = h; runs = runs_none n }
validations-run n (l ∷ ls) h p =
    by (owns (letter l)) (eqb (letter l) 0x56) refl (validations-run n ls h p.1) (validations-run 3 ls (omega arith) p.1)
  where
    by : (a b : Bool) → eqb (letter l) 0x56 ≡ b → UpTo n (picked 0x56 ls) 3 → UpTo 3 (picked 0x56 ls) 3
        → UpTo n (cond a [] (cond b (l ∷ picked 0x56 ls) (picked 0x56 ls))) 3
    by true b q r s = record { to = n; low = h; runs = runs_none n }
    by false true q r s =
        record { to = s.to; low = s.low; runs = runs_one n s.to 0x56 l (picked 0x56 ls) p.0 (eqb-true (letter l) 0x56 q) refl s.runs }
    by false false q r s = r

-- none stands where it is not allowed
none-picked : (w o : ℕ) (ls : List (List ℕ)) → allowed o w ≡ false → Under o ls → picked w ls ≡ []
none-picked w o [] a u = refl
none-picked w o (l ∷ ls) a u = by (owns (letter l)) (eqb (letter l) w) refl u.0 u.1 (none-picked w o ls a)
  where
    by : (b c : Bool) → eqb (letter l) w ≡ c → allowed o (letter l) ≡ true → Under (cond b (letter l) o) ls → (Under o ls → picked w ls ≡ [])
        → cond b [] (cond c (l ∷ picked w ls) (picked w ls)) ≡ []
    by true c q m u ih = refl
    by false true q m u ih =
        absurd
        (let e : allowed o w ≡ true = rw (eqb-true (letter l) w q) at m in
        let z : ◌≡◌ {A = Bool} false true = sym a ∙ e in
        let y : ◌≡◌ {A = ℕ} 0 1 = cc in
        omega arith)
    by false false q m u ih = ih u

-- ---- what a line owns
module _ (ls : List (List ℕ)) (p : Every Line ls) where
  frequency_owns : Under 0x46 ls → Runs 0 (owned ls) 0
  frequency_owns u = rw (none-picked 0x50 0x46 ls refl u, none-picked 0x56 0x46 ls refl u, none-picked 0x45 0x46 ls refl u) (runs_none 0)

  base_owns : Under 0x42 ls → Runs 1 (owned ls) 1
  base_owns u =
      rw (none-picked 0x56 0x42 ls refl u, none-picked 0x45 0x42 ls refl u) (runs_both 1 1 1 (picked 0x50 ls) [] (params-run 1 ls refl p) (runs_none 1))

  header-owns : Under 0x48 ls → UpTo 2 (owned ls) 3
  header-owns u =
      let v : UpTo 2 (picked 0x56 ls) 3 = validations-run 2 ls (omega arith) p in
      record {
        to = v.to;
        low = v.low;
        runs =
            rw (none-picked 0x45 0x48 ls refl u)
            (runs_both 2 2 v.to (picked 0x50 ls) (picked 0x56 ls ++ []) (params-run 2 ls refl p)
            (runs_both 2 v.to v.to (picked 0x56 ls) [] v.runs (runs_none v.to)));
      }

  set-owns : Under 0x44 ls → Runs 4 (owned ls) 4
  set-owns u = rw (none-picked 0x50 0x44 ls refl u, none-picked 0x56 0x44 ls refl u) (entries-run 4 ls p)

-- ---- blocks
-- behind a line of the letter w that owns what follows
behind : (o w : ℕ) (l : List ℕ) (ls : List (List ℕ)) → owns w ≡ true → letter l ≡ w → Under (next o (letter l)) ls → Under w ls
behind o w l ls h e u = let v : Under (next o w) ls = rw e at u in rw h at v

frequencies-run : (o : ℕ) (ls : List (List ℕ)) → Under o ls → Every Line ls → Runs 0 (blocks 0x46 ls) 0
frequencies-run o [] u p = runs_none 0
frequencies-run o (l ∷ ls) u p = by (eqb (letter l) 0x46) refl (frequencies-run (next o (letter l)) ls u.1 p.1)
  where
    by : (b : Bool) → eqb (letter l) 0x46 ≡ b → Runs 0 (blocks 0x46 ls) 0 → Runs 0 (cond b (l ∷ (owned ls ++ blocks 0x46 ls)) (blocks 0x46 ls)) 0
    by true q r =
        let e : letter l ≡ 0x46 = eqb-true (letter l) 0x46 q in
        runs_one 0 0 0x46 l (owned ls ++ blocks 0x46 ls) p.0 e refl
        (runs_both 0 0 0 (owned ls) (blocks 0x46 ls) (frequency_owns ls p.1 (behind o 0x46 l ls refl e u.1)) r)
    by false q r = r

bases-run : (n o : ℕ) (ls : List (List ℕ)) → n ≤ 1 → Under o ls → Every Line ls → UpTo n (blocks 0x42 ls) 1
bases-run n o [] h u p = record { to = n; low = h; runs = runs_none n }
bases-run n o (l ∷ ls) h u p =
    by (eqb (letter l) 0x42) refl (bases-run n (next o (letter l)) ls h u.1 p.1) (bases-run 1 (next o (letter l)) ls (omega arith) u.1 p.1)
  where
    by : (b : Bool) → eqb (letter l) 0x42 ≡ b → UpTo n (blocks 0x42 ls) 1 → UpTo 1 (blocks 0x42 ls) 1
        → UpTo n (cond b (l ∷ (owned ls ++ blocks 0x42 ls)) (blocks 0x42 ls)) 1
    by true q r s =
        let e : letter l ≡ 0x42 = eqb-true (letter l) 0x42 q in
        record {
          to = s.to;
          low = s.low;
          runs =
              runs_one n s.to 0x42 l (owned ls ++ blocks 0x42 ls) p.0 e (le-leb n 1 h)
              (runs_both 1 1 s.to (owned ls) (blocks 0x42 ls) (base_owns ls p.1 (behind o 0x42 l ls refl e u.1)) s.runs);
        }
    by false q r s = r

headers-run : (n o : ℕ) (ls : List (List ℕ)) → n ≤ 3 → Under o ls → Every Line ls → UpTo n (blocks 0x48 ls) 3
headers-run n o [] h u p = record { to = n; low = h; runs = runs_none n }
headers-run n o (l ∷ ls) h u p =
    by (eqb (letter l) 0x48) refl (headers-run n (next o (letter l)) ls h u.1 p.1) (λ m g. headers-run m (next o (letter l)) ls g u.1 p.1)
  where
    by : (b : Bool) → eqb (letter l) 0x48 ≡ b → UpTo n (blocks 0x48 ls) 3 → ((m : ℕ) → m ≤ 3 → UpTo m (blocks 0x48 ls) 3)
        → UpTo n (cond b (l ∷ (owned ls ++ blocks 0x48 ls)) (blocks 0x48 ls)) 3
    by true q r s =
        let e : letter l ≡ 0x48 = eqb-true (letter l) 0x48 q in
        let v : UpTo 2 (owned ls) 3 = header-owns ls p.1 (behind o 0x48 l ls refl e u.1) in
        let t : UpTo v.to (blocks 0x48 ls) 3 = s v.to v.low in
        record {
          to = t.to;
          low = t.low;
          runs =
              runs_one n t.to 0x48 l (owned ls ++ blocks 0x48 ls) p.0 e (le-leb n 3 h)
              (runs_both 2 v.to t.to (owned ls) (blocks 0x48 ls) v.runs t.runs);
        }
    by false q r s = r

sets-run : (n o : ℕ) (ls : List (List ℕ)) → n ≤ 4 → Under o ls → Every Line ls → UpTo n (blocks 0x44 ls) 4
sets-run n o [] h u p = record { to = n; low = h; runs = runs_none n }
sets-run n o (l ∷ ls) h u p =
    by (eqb (letter l) 0x44) refl (sets-run n (next o (letter l)) ls h u.1 p.1) (sets-run 4 (next o (letter l)) ls (omega arith) u.1 p.1)
  where
    by : (b : Bool) → eqb (letter l) 0x44 ≡ b → UpTo n (blocks 0x44 ls) 4 → UpTo 4 (blocks 0x44 ls) 4
        → UpTo n (cond b (l ∷ (owned ls ++ blocks 0x44 ls)) (blocks 0x44 ls)) 4
    by true q r s =
        let e : letter l ≡ 0x44 = eqb-true (letter l) 0x44 q in
        record {
          to = s.to;
          low = s.low;
          runs =
              runs_one n s.to 0x44 l (owned ls ++ blocks 0x44 ls) p.0 e refl
              (runs_both 4 4 s.to (owned ls) (blocks 0x44 ls) (set-owns ls p.1 (behind o 0x44 l ls refl e u.1)) s.runs);
        }
    by false q r s = r

arranged_runs : (ls : List (List ℕ)) → Under 0 ls → Every Line ls → UpTo 0 (arranged ls) 4
arranged_runs ls u p =
    let b : UpTo 0 (blocks 0x42 ls) 1 = bases-run 0 0 ls (omega arith) u p in
    let h : UpTo b.to (blocks 0x48 ls) 3 = headers-run b.to 0 ls (omega (arith, b.low)) u p in
    let d : UpTo h.to (blocks 0x44 ls) 4 = sets-run h.to 0 ls (omega (arith, h.low)) u p in
    record {
      to = d.to;
      low = d.low;
      runs =
          runs_both 0 0 d.to (blocks 0x46 ls) (blocks 0x42 ls ++ (blocks 0x48 ls ++ blocks 0x44 ls)) (frequencies-run 0 ls u p)
          (runs_both 0 b.to d.to (blocks 0x42 ls) (blocks 0x48 ls ++ blocks 0x44 ls) b.runs
          (runs_both b.to h.to d.to (blocks 0x48 ls) (blocks 0x44 ls) h.runs d.runs));
    }

-- ---- a text of such lines
in_place : (n k : ℕ) (ls : List (List ℕ)) → good n ls ≡ true → misplaced n k (ls ++ ([] ∷ [])) ≡ 0
in_place n k [] g = refl
in_place n k (l ∷ []) g = rw (and_left (stands n (kind_of (fields l))) true g)
in_place n k (l ∷ m ∷ ms) g =
    rw (and_left (stands n (kind_of (fields l))) (good (farther n (kind_of (fields l))) (m ∷ ms)) g)
    (in_place (farther n (kind_of (fields l))) (suc k) (m ∷ ms)
    (and_right (stands n (kind_of (fields l))) (good (farther n (kind_of (fields l))) (m ∷ ms)) g))

-- X10, X12: the text that a document says is in plain form, if nothing is wrong with the document
pub text-plain : (x : List ℕ) → verdict x ≡ None → is_plain (text_of x) ≡ true
text-plain x h =
    let o : out_of_order (text_of x) ≡ 0 =
    ap (misplaced 0 1) (text-lines x)
    ∙ in_place 0 1 (arranged (items_of x)) (arranged_runs (items_of x) (document-under x h) (document-lines x)).runs.in_order in
    rw o
