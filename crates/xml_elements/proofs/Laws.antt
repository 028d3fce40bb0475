-- Laws of elements as they are written. Assumes nothing.
use mathlib.Core.Path.{◌≡◌, refl, sym, ap, ◌∙◌}
use mathlib.Core.Bool.{Bool, true, false, cond}
use mathlib.Core.List.{List, [], ◌∷◌, ◌++◌}
use Prim.Native.Nat.{ℕ, zero, suc, ◌+◌, ◌-◌, ◌%◌, ◌≤◌, ◌<◌}
use native.Mathlib.Omega.{arith}
use native.Mathlib.Numerals.{add-one}
use lib.Dec.{eqb, leb}
use lib.ListN.{length, take, drop, length-drop, length-take}
use lib.Seq.{drop-drop}
use mir.Val.{Fits}
use mir.Syntax.{w64}
use borrow.Author.Tests.{ne_eqb, le-leb, lt-leb, leb-true}
use Rattle.laws.proofs.Lists.{tail}
use Rattle.laws.proofs.Bools.{and_right}
use Rattle.text.specs.Text.{lines, fields, field, value, up_to, worth, decimal}
use Rattle.text.specs.Scan.{cut}
use Rattle.text.specs.Place.{kind_of}
use Rattle.text.specs.declared.Part.{Part}
use Rattle.text.proofs.Laws.{split-last, split-more, front_count}
use Rattle.text.proofs.Judging.{split_some}
use Rattle.readers.specs.Fields.{IsField}
use Rattle.append.specs.Append.{Room, Laid}
use Rattle.append.proofs.Laws.{Leaves, leaves_start, leaves_more, leaves_room, leaves_done, laid_both, room-first, room-second}
use Rattle.xml_schema.specs.Schema.{elements, table, param, entries_of, parent_of}
use Rattle.xml_attributes.specs.Attributes.{attributes}
use Rattle.xml_elements.specs.Elements.{name_for, blanks, head, depth, innermost, up, shut, closings, element_for, level_in, stands_in, is_alone, ending}
use Rattle.xml_elements.specs.Elements.{first_field, rest_for, tag_for, leads_to, element, kind_for, body, opening, xml_of}

-- ---- spaces
pub record Blanking (n : ℕ) (b b₀ : List ℕ) (at at₀ i : ℕ) : Type 0 where
  pub leaves : Leaves (blanks (n - i)) (blanks n) b b₀ at at₀

pub blanking_start : (n : ℕ) (b : List ℕ) (at : ℕ) → Blanking n b b at at 0
blanking_start n b at = let z : n - 0 ≡ n = omega arith in record { leaves = rw z (leaves_start (blanks n) b at) }

blanks-more : (left : ℕ) → 0 < left → blanks left ≡ (0x20 ∷ 0x20 ∷ []) ++ blanks (left - 1)
unfolding blanks
blanks-more zero h = absurd (omega arith)
blanks-more (suc left) h = let z : suc left - 1 ≡ left = omega arith in rw z

module _ (n : ℕ) (b b₀ : List ℕ) (at at₀ i : ℕ) (inv : Blanking n b b₀ at at₀ i) where
  pub blanking_same : length b ≡ length b₀
  blanking_same = inv.leaves.same

  module _ (h : i < n) where
    two_more : Leaves ((0x20 ∷ 0x20 ∷ []) ++ blanks (n - (i + 1))) (blanks n) b b₀ at at₀
    two_more = let d : n - i - 1 ≡ n - (i + 1) = omega arith in rw (blanks-more (n - i) (omega arith), d) at inv.leaves

    pub blanking_room : Room at₀ (blanks n) → Room at (0x20 ∷ 0x20 ∷ [])
    blanking_room room = leaves_room (0x20 ∷ 0x20 ∷ []) (blanks (n - (i + 1))) (blanks n) b b₀ at at₀ two_more room

    pub blanking_more : (b' : List ℕ) (r : ℕ) → Laid (0x20 ∷ 0x20 ∷ []) b at r b' → Blanking n b' b₀ r at₀ (i + 1)
    blanking_more b' r l = record { leaves = leaves_more (0x20 ∷ 0x20 ∷ []) (blanks (n - (i + 1))) (blanks n) b b₀ at at₀ two_more b' r l }

  pub blanking_done : n ≤ i → Laid (blanks n) b₀ at₀ at b
  unfolding blanks
  blanking_done h = let z : n - i ≡ 0 = omega arith in leaves_done (blanks n) b b₀ at at₀ (rw z at inv.leaves)

-- ---- names
module _ (k : ℕ) (p : Part) (is : IsField 32 k elements p) where
  pub name_end : p.start + p.len ≤ 128
  unfolding elements
  name_end = is.inside

  pub name-fits : Fits w64 (p.start + p.len)
  name-fits = omega (arith, name_end)

  name_is : take (p.start + p.len - p.start) (drop p.start elements) ≡ name_for k
  name_is = let d : p.start + p.len - p.start ≡ p.len = omega arith in rw (d, is.says)

  pub name-room : (at : ℕ) → Room at (name_for k) → Room at (take (p.start + p.len - p.start) (drop p.start elements))
  name-room at room = rw name_is room

  pub name-laid : (b b' : List ℕ) (at r : ℕ) → Laid (take (p.start + p.len - p.start) (drop p.start elements)) b at r b'
      → Laid (name_for k) b at r b'
  name-laid b b' at r l = rw name_is at l

-- ---- what a tag begins with
module _ (n k : ℕ) (mark : List ℕ) (at : ℕ) (room : Room at (head n mark k)) where
  pub head-blanks : Room at (blanks n)
  head-blanks = room-first at (blanks n) (mark ++ name_for k) room

  module _ (b b₁ : List ℕ) (r : ℕ) (x : Laid (blanks n) b at r b₁) where
    pub head-mark : Room r mark
    head-mark = room-first r mark (name_for k) (room-second at r (blanks n) (mark ++ name_for k) b b₁ x room)

    pub head-name : (b₂ : List ℕ) (q : ℕ) → Laid mark b₁ r q b₂ → Room q (name_for k)
    head-name b₂ q y = room-second r q mark (name_for k) b₁ b₂ y (room-second at r (blanks n) (mark ++ name_for k) b b₁ x room)

pub head-laid : (n k : ℕ) (mark b b₁ b₂ b₃ : List ℕ) (at r q o : ℕ) → Laid (blanks n) b at r b₁ → Laid mark b₁ r q b₂
    → Laid (name_for k) b₂ q o b₃
    → Laid (head n mark k) b at o b₃
head-laid n k mark b b₁ b₂ b₃ at r q o x y z =
    laid_both (blanks n) (mark ++ name_for k) b b₁ b₃ at r o x (laid_both mark (name_for k) b₁ b₂ b₃ r q o y z)

-- ---- places
module _ (d : ℕ) where
  pub depth-deep : 16 ≤ d → 2 + d % 8 ≡ depth d
  depth-deep h = rw (le-leb 16 d h)

  pub depth-root : d < 16 → d ≡ 0 → 0 ≡ depth d
  depth-root h e = rw e

  pub depth_one : d < 16 → (d ≡ 0 → ⊥) → 1 ≡ depth d
  depth_one h e = rw (lt-leb 16 d h, ne_eqb d 0 e)

  pub innermost-deep : 16 ≤ d → param ≡ innermost d
  innermost-deep h = rw (le-leb 16 d h)

  pub innermost_else : d < 16 → d ≡ innermost d
  innermost_else h = rw (lt-leb 16 d h)

  pub up_base : d ≡ 16 → 2 ≡ up d
  up_base e = rw e

  pub up-header : (d ≡ 16 → ⊥) → d ≡ 24 → 3 ≡ up d
  up-header n e = rw e

  pub up-deep : (d ≡ 16 → ⊥) → (d ≡ 24 → ⊥) → 16 ≤ d → d - 1 ≡ up d
  up-deep n m h = rw (ne_eqb d 16 n, ne_eqb d 24 m, le-leb 16 d h)

  pub up_root : (d ≡ 16 → ⊥) → (d ≡ 24 → ⊥) → d < 16 → 0 ≡ up d
  up_root n m h = rw (ne_eqb d 16 n, ne_eqb d 24 m, lt-leb 16 d h)

depth_low : (d : ℕ) → depth d ≤ 9
depth_low d = go (leb 16 d) (eqb d 0)
  where
    go : (a b : Bool) → cond a (2 + d % 8) (cond b 0 1) ≤ 9
    go true b = omega arith
    go false true = omega arith
    go false false = omega arith

pub depth-fits : (d n : ℕ) → n ≡ depth d → Fits w64 (n + 1)
depth-fits d n e = omega (arith, depth_low d)

-- ---- an end
module _ (d n k : ℕ) (deep : n ≡ depth d) (inner : k ≡ innermost d) (at : ℕ) where
  abbrev heading : List ℕ
  heading = head n (0x3c ∷ 0x2f ∷ []) k

  shut_is : shut d ≡ heading ++ (0x3e ∷ 0x0a ∷ [])
  shut_is = rw (deep, inner)

  pub shut-head : Room at (shut d) → Room at (head n (0x3c ∷ 0x2f ∷ []) k)
  shut-head room = room-first at heading (0x3e ∷ 0x0a ∷ []) (rw shut_is at room)

  module _ (b b₁ : List ℕ) (r : ℕ) (x : Laid (head n (0x3c ∷ 0x2f ∷ []) k) b at r b₁) where
    pub shut_end : Room at (shut d) → Room r (0x3e ∷ 0x0a ∷ [])
    shut_end room = room-second at r heading (0x3e ∷ 0x0a ∷ []) b b₁ x (rw shut_is at room)

    pub shut-laid : (b₂ : List ℕ) (q : ℕ) → Laid (0x3e ∷ 0x0a ∷ []) b₁ r q b₂ → Laid (shut d) b at q b₂
    shut-laid b₂ q y = rw shut_is (laid_both heading (0x3e ∷ 0x0a ∷ []) b b₁ b₂ at r q x y)

-- ---- ends, one after the other
pub record Closing (n d : ℕ) (b b₀ : List ℕ) (at at₀ i place : ℕ) : Type 0 where
  pub leaves : Leaves (closings (n - i) place) (closings n d) b b₀ at at₀

pub closing_start : (n d : ℕ) (b : List ℕ) (at : ℕ) → Closing n d b b at at 0 d
closing_start n d b at = let z : n - 0 ≡ n = omega arith in record { leaves = rw z (leaves_start (closings n d) b at) }

closings-more : (left place : ℕ) → 0 < left → closings left place ≡ shut place ++ closings (left - 1) (up place)
unfolding closings
closings-more zero place h = absurd (omega arith)
closings-more (suc left) place h = let z : suc left - 1 ≡ left = omega arith in rw z

module _ (n d : ℕ) (b b₀ : List ℕ) (at at₀ i place : ℕ) (inv : Closing n d b b₀ at at₀ i place) where
  pub closing_same : length b ≡ length b₀
  closing_same = inv.leaves.same

  module _ (h : i < n) where
    one_more : Leaves (shut place ++ closings (n - (i + 1)) (up place)) (closings n d) b b₀ at at₀
    one_more = let e : n - i - 1 ≡ n - (i + 1) = omega arith in rw (closings-more (n - i) place (omega arith), e) at inv.leaves

    pub closing_room : Room at₀ (closings n d) → Room at (shut place)
    closing_room room = leaves_room (shut place) (closings (n - (i + 1)) (up place)) (closings n d) b b₀ at at₀ one_more room

    pub closing_more : (b' : List ℕ) (r next : ℕ) → Laid (shut place) b at r b' → next ≡ up place
        → Closing n d b' b₀ r at₀ (i + 1) next
    closing_more b' r next l e =
        record { leaves = rw e (leaves_more (shut place) (closings (n - (i + 1)) (up place)) (closings n d) b b₀ at at₀ one_more b' r l) }

  pub closing_done : n ≤ i → Laid (closings n d) b₀ at₀ at b
  unfolding closings
  closing_done h = let z : n - i ≡ 0 = omega arith in leaves_done (closings n d) b b₀ at at₀ (rw z at inv.leaves)

-- ---- what a line says of its element
module _ (k : ℕ) where
  pub level-param : (fs : List (List ℕ)) (s : List ℕ) (n : ℕ) → s ≡ field 1 fs → n ≡ value 7 s → k ≡ param → n ≡ level_in k fs
  level-param fs s n q v e = rw (e, v, q)

  pub level-none : (fs : List (List ℕ)) → (k ≡ param → ⊥) → 0 ≡ level_in k fs
  level-none fs e = rw (ne_eqb k param e)

  pub stands-param : (level : ℕ) → k ≡ param → 1 + level ≡ stands_in k level
  stands-param level e = rw e

  pub stands-root : (level p : ℕ) → (k ≡ param → ⊥) → p ≡ parent_of k → p ≡ 0 → 0 ≡ stands_in k level
  stands-root level p e q z = rw (ne_eqb k param e, ← q, z)

  pub stands_one : (level p : ℕ) → (k ≡ param → ⊥) → p ≡ parent_of k → (p ≡ 0 → ⊥) → 1 ≡ stands_in k level
  stands_one level p e q z = rw (ne_eqb k param e, ← q, ne_eqb p 0 z)

  pub alone_one : k ≡ 1 → true ≡ is_alone k
  alone_one e = rw e

  pub alone_five : (k ≡ 1 → ⊥) → k ≡ 5 → true ≡ is_alone k
  alone_five n e = rw e

  pub alone_else : (b : Bool) → (k ≡ 1 → ⊥) → (k ≡ 5 → ⊥) → b ≡ eqb k 7 → b ≡ is_alone k
  alone_else b n m q = rw (ne_eqb k 1 n, ne_eqb k 5 m, q)

  module _ (a : Bool) (is : a ≡ is_alone k) where
    pub ending-alone-room : (at : ℕ) → Room at (ending k) → a ≡ true → Room at (0x2f ∷ 0x3e ∷ 0x0a ∷ [])
    ending-alone-room at room y = rw (sym is ∙ y) at room

    pub ending-room : (at : ℕ) → Room at (ending k) → a ≡ false → Room at (0x3e ∷ 0x0a ∷ [])
    ending-room at room n = rw (sym is ∙ n) at room

    pub ending-alone-laid : (b b' : List ℕ) (at r : ℕ) → Laid (0x2f ∷ 0x3e ∷ 0x0a ∷ []) b at r b' → a ≡ true → Laid (ending k) b at r b'
    ending-alone-laid b b' at r l y = rw (sym is ∙ y) l

    pub ending-laid : (b b' : List ℕ) (at r : ℕ) → Laid (0x3e ∷ 0x0a ∷ []) b at r b' → a ≡ false → Laid (ending k) b at r b'
    ending-laid b b' at r l n = rw (sym is ∙ n) l

    pub leads-alone : (d level p : ℕ) → (k ≡ param → ⊥) → a ≡ true → p ≡ parent_of k → p ≡ leads_to d k level
    leads-alone d level p e y q = rw (ne_eqb k param e, sym is ∙ y, q)

    pub leads_else : (d level : ℕ) → (k ≡ param → ⊥) → a ≡ false → k ≡ leads_to d k level
    leads_else d level e n = rw (ne_eqb k param e, sym is ∙ n)

  pub leads-header : (d level : ℕ) → k ≡ param → d ≡ 3 → 24 + level ≡ leads_to d k level
  leads-header d level e q = rw (e, q)

  pub leads-deep : (d level : ℕ) → k ≡ param → (d ≡ 3 → ⊥) → 24 ≤ d → 24 + level ≡ leads_to d k level
  leads-deep d level e q h = rw (e, ne_eqb d 3 q, le-leb 24 d h)

  pub leads_base : (d level : ℕ) → k ≡ param → (d ≡ 3 → ⊥) → d < 24 → 16 + level ≡ leads_to d k level
  leads_base d level e q h = rw (e, ne_eqb d 3 q, lt-leb 24 d h)

-- ---- its attributes
module _ (k : ℕ) (p : Part) (is : IsField 10 k table p) where
  pub row_end : p.start + p.len ≤ 274
  unfolding table
  row_end = is.inside

  pub row_fits : Fits w64 (p.start + p.len)
  row_fits = omega (arith, row_end)

  abbrev row : List ℕ
  row = take (p.start + p.len - p.start) (drop p.start table)

  pub row-short : length (take (p.start + p.len - p.start) (drop p.start table)) ≤ 300
  row-short = omega (arith, row_end, length-take (p.start + p.len - p.start) (drop p.start table))

  row_is : drop 1 (fields row) ≡ entries_of k
  row_is = let d : p.start + p.len - p.start ≡ p.len = omega arith in rw (d, is.says)

  module _ (fs : List (List ℕ)) where
    params_are : k ≡ param → attributes (entries_of k) fs (first_field k) 1 ≡ attributes (drop 1 (fields row)) fs 2 1
    params_are e = let f : first_field k ≡ 2 = rw e in rw (f, row_is)

    others_are : (k ≡ param → ⊥) → attributes (entries_of k) fs (first_field k) 1 ≡ attributes (drop 1 (fields row)) fs 1 1
    others_are e = rw (ne_eqb k param e, row_is)

    pub params-room : (at : ℕ) → Room at (attributes (entries_of k) fs (first_field k) 1) → k ≡ param
        → Room at (attributes (drop 1 (fields (take (p.start + p.len - p.start) (drop p.start table)))) fs 2 1)
    params-room at room e = rw (params_are e) at room

    pub others_room : (at : ℕ) → Room at (attributes (entries_of k) fs (first_field k) 1) → (k ≡ param → ⊥)
        → Room at (attributes (drop 1 (fields (take (p.start + p.len - p.start) (drop p.start table)))) fs 1 1)
    others_room at room e = rw (others_are e) at room

    pub params-laid : (b b' : List ℕ) (at r : ℕ)
        → Laid (attributes (drop 1 (fields (take (p.start + p.len - p.start) (drop p.start table)))) fs 2 1) b at r b' → k ≡ param
        → Laid (attributes (entries_of k) fs (first_field k) 1) b at r b'
    params-laid b b' at r l e = rw (params_are e) l

    pub others_laid : (b b' : List ℕ) (at r : ℕ)
        → Laid (attributes (drop 1 (fields (take (p.start + p.len - p.start) (drop p.start table)))) fs 1 1) b at r b' → (k ≡ param → ⊥)
        → Laid (attributes (entries_of k) fs (first_field k) 1) b at r b'
    others_laid b b' at r l e = rw (others_are e) l

-- ---- a tag
module _ (k : ℕ) (fs : List (List ℕ)) where
  abbrev entries : List ℕ
  entries = attributes (entries_of k) fs (first_field k) 1

  pub rest-entries : (at : ℕ) → Room at (rest_for k fs) → Room at (attributes (entries_of k) fs (first_field k) 1)
  rest-entries at room = room-first at entries (ending k) room

  module _ (b b₁ : List ℕ) (at r : ℕ) (x : Laid (attributes (entries_of k) fs (first_field k) 1) b at r b₁) where
    pub rest-ending : Room at (rest_for k fs) → Room r (ending k)
    rest-ending room = room-second at r entries (ending k) b b₁ x room

    pub rest-laid : (b₂ : List ℕ) (q : ℕ) → Laid (ending k) b₁ r q b₂ → Laid (rest_for k fs) b at q b₂
    rest-laid b₂ q y = laid_both entries (ending k) b b₁ b₂ at r q x y

module _ (k level : ℕ) (fs : List (List ℕ)) (n : ℕ) (is : n ≡ stands_in k level) where
  abbrev heads : List ℕ
  heads = head (n + 1) (0x3c ∷ []) k

  tag_is : tag_for k level fs ≡ head (n + 1) (0x3c ∷ []) k ++ rest_for k fs
  tag_is = rw (add-one n, is)

  pub tag_head : (at : ℕ) → Room at (tag_for k level fs) → Room at (head (n + 1) (0x3c ∷ []) k)
  tag_head at room = room-first at heads (rest_for k fs) (rw tag_is at room)

  module _ (b b₁ : List ℕ) (at r : ℕ) (x : Laid (head (n + 1) (0x3c ∷ []) k) b at r b₁) where
    pub tag_rest : Room at (tag_for k level fs) → Room r (rest_for k fs)
    tag_rest room = room-second at r heads (rest_for k fs) b b₁ x (rw tag_is at room)

    pub tag_laid : (b₂ : List ℕ) (q : ℕ) → Laid (rest_for k fs) b₁ r q b₂ → Laid (tag_for k level fs) b at q b₂
    tag_laid b₂ q y = rw tag_is (laid_both heads (rest_for k fs) b b₁ b₂ at r q x y)

-- ---- a line
pub level-low : (s : List ℕ) (n : ℕ) → n ≡ value 7 s → n ≤ 7
level-low s n e = rw e (go (up_to 7 s) refl)
  where
    go : (t : Bool) → up_to 7 s ≡ t → cond t (worth 0 s) 0 ≤ 7
    go true q = leb-true (worth 0 s) 7 (and_right (decimal s) (leb (worth 0 s) 7) q)
    go false q = omega arith

pub kind_is : (fs : List (List ℕ)) (x k : ℕ) → x ≡ kind_of fs → k ≡ element_for x → k ≡ kind_for fs
kind_is fs x k e q = rw (q, e)

pub after_is : (d k level : ℕ) (fs : List (List ℕ)) (r : ℕ) → level ≡ level_in k fs → r ≡ leads_to d k level → r ≡ leads_to d k (level_in k fs)
after_is d k level fs r e q = rw (q, e)

module _ (d k level : ℕ) (fs : List (List ℕ)) (is : level ≡ level_in k fs) (n s e : ℕ)
    (deep : n ≡ depth d) (stood : s ≡ stands_in k level) (ends : e ≡ n - s) where
  element_is : element d k fs ≡ closings e d ++ tag_for k level fs
  element_is = rw (ends, deep, stood, is)

  module _ (at : ℕ) (room : Room at (element d k fs)) where
    pub element-ends : Room at (closings e d)
    element-ends = room-first at (closings e d) (tag_for k level fs) (rw element_is at room)

    pub element_tag : (b b₁ : List ℕ) (r : ℕ) → Laid (closings e d) b at r b₁ → Room r (tag_for k level fs)
    element_tag b b₁ r x = room-second at r (closings e d) (tag_for k level fs) b b₁ x (rw element_is at room)

  pub element-laid : (b b₁ b₂ : List ℕ) (at r q : ℕ) → Laid (closings e d) b at r b₁ → Laid (tag_for k level fs) b₁ r q b₂
      → Laid (element d k fs) b at q b₂
  element-laid b b₁ b₂ at r q x y = rw element_is (laid_both (closings e d) (tag_for k level fs) b b₁ b₂ at r q x y)

-- ---- line by line
pub record Writing (t b b₀ : List ℕ) (at at₀ start place : ℕ) : Type 0 where
  pub inside : start ≤ length t
  pub leaves : Leaves (body place (lines (drop start t))) (body 0 (lines t)) b b₀ at at₀

pub writing_start : (t b : List ℕ) (at : ℕ) → Writing t b b at at 0 0
writing_start t b at = record { inside = omega arith; leaves = leaves_start (body 0 (lines t)) b at }

body_line : (d : ℕ) (l : List ℕ) (ms : List (List ℕ)) → (ms ≡ [] → ⊥)
    → body d (l ∷ ms) ≡ element d (kind_for (fields l)) (fields l) ++ body (leads_to d (kind_for (fields l)) (level_in (kind_for (fields l)) (fields l))) ms
unfolding body
body_line d l [] h = absurd (h refl)
body_line d l (m ∷ ms) h = refl

module _ (t b b₀ : List ℕ) (at at₀ start place : ℕ) (inv : Writing t b b₀ at at₀ start place) where
  pub writing-inside : start ≤ length t
  writing-inside = inv.inside

  pub writing-same : length b ≡ length b₀
  writing-same = inv.leaves.same

  module _ (e : ℕ) (is : e ≡ cut 10 (take (length t - start) (drop start t))) where
    e_is : e ≡ cut 10 (drop start t)
    e_is = is ∙ ap (cut 10) (tail t start)

    module _ (last : e ≡ length (take (length t - start) (drop start t))) (n : ℕ) (deep : n ≡ depth place) where
      ends-left : Leaves (closings (n + 1) place) (body 0 (lines t)) b b₀ at at₀
      unfolding body
      ends-left =
          let l : cut 10 (drop start t) ≡ length (drop start t) = sym e_is ∙ last ∙ ap length (tail t start) in
          rw (add-one n, deep) (rw (split-last 10 (drop start t) l) at inv.leaves)

      pub writing-ends : Room at₀ (body 0 (lines t)) → Room at (closings (n + 1) place)
      writing-ends room = omega (arith, ends-left.count)

      pub writing_done : (b' : List ℕ) (r : ℕ) → Laid (closings (n + 1) place) b at r b' → Laid (body 0 (lines t)) b₀ at₀ r b'
      writing_done b' r l = record { next = l.next ∙ ends-left.count; fill = l.fill ∙ ends-left.whole }

    module _ (in_e : e ≤ length (take (length t - start) (drop start t))) (more : e ≡ length (take (length t - start) (drop start t)) → ⊥)
        (k : ℕ) (kind : k ≡ kind_for (fields (take e (take (length t - start) (drop start t))))) where
      within : e < length (drop start t)
      within = omega (arith, ap length (tail t start), in_e, more)

      abbrev line : List ℕ
      line = take e (take (length t - start) (drop start t))

      line_is : lines (drop start t) ≡ line ∷ lines (drop (e + 1) (drop start t))
      line_is = rw (tail, e_is) (split-more 10 (drop start t) (rw (← e_is) within))

      line_more : Leaves (element place k (fields line) ++ body (leads_to place k (level_in k (fields line))) (lines (drop (e + 1) (drop start t))))
          (body 0 (lines t)) b b₀ at at₀
      line_more =
          let rest : List (List ℕ) = lines (drop (e + 1) (drop start t)) in
          let parted : body place (lines (drop start t)) ≡ _ =
          ap (body place) line_is ∙ body_line place line rest (split_some 10 (drop (e + 1) (drop start t))) in
          rw kind (rw parted at inv.leaves)

      pub writing-room : Room at₀ (body 0 (lines t)) → Room at (element place k (fields (take e (take (length t - start) (drop start t)))))
      writing-room room = leaves_room (element place k (fields line)) _ (body 0 (lines t)) b b₀ at at₀ line_more room

      pub writing_more : (b' : List ℕ) (r next : ℕ) → Laid (element place k (fields (take e (take (length t - start) (drop start t))))) b at r b'
          → next ≡ leads_to place k (level_in k (fields (take e (take (length t - start) (drop start t)))))
          → Writing t b' b₀ r at₀ (start + e + 1) next
      writing_more b' r next l q =
          let z : start + (e + 1) ≡ start + e + 1 = omega arith in
          record {
            inside = omega (arith, within, length-drop start t);
            leaves =
                rw (q, ← z, ← drop-drop (e + 1) start t)
                (leaves_more (element place k (fields line)) _ (body 0 (lines t)) b b₀ at at₀ line_more b' r l);
          }

-- ---- a text
module _ (t : List ℕ) (room : Room 0 (xml_of t)) where
  pub xml_opening : Room 0 opening
  xml_opening = room-first 0 opening (body 0 (lines t)) room

  pub xml_lines : (b b₁ : List ℕ) (r : ℕ) → Laid opening b 0 r b₁ → Room r (body 0 (lines t))
  xml_lines b b₁ r x = room-second 0 r opening (body 0 (lines t)) b b₁ x room

pub xml_laid : (t b b₁ b₂ : List ℕ) (r q : ℕ) → Laid opening b 0 r b₁ → Laid (body 0 (lines t)) b₁ r q b₂ → Laid (xml_of t) b 0 q b₂
xml_laid t b b₁ b₂ r q x y = laid_both opening (body 0 (lines t)) b b₁ b₂ 0 r q x y

pub ruleset laws = (
  blanking_start,
  blanking_same,
  blanking_room,
  blanking_more,
  blanking_done,
  name_end,
  name-fits,
  name-room,
  name-laid,
  head-blanks,
  head-mark,
  head-name,
  head-laid,
  depth-deep,
  depth-root,
  depth_one,
  innermost-deep,
  innermost_else,
  up_base,
  up-header,
  up-deep,
  up_root,
  shut-head,
  shut_end,
  shut-laid,
  closing_start,
  closing_same,
  closing_room,
  closing_more,
  closing_done,
  level-param,
  level-none,
  stands-param,
  stands-root,
  stands_one,
  alone_one,
  alone_five,
  alone_else,
  ending-alone-room,
  ending-room,
  ending-alone-laid,
  ending-laid,
  leads-alone,
  leads_else,
  leads-header,
  leads-deep,
  leads_base,
  row_end,
  row_fits,
  row-short,
  params-room,
  others_room,
  params-laid,
  others_laid,
  level-low,
  kind_is,
  after_is,
)

-- for a function, those that it goes by
pub ruleset rest_laws = (rest-entries, rest-ending, rest-laid)

pub ruleset tag_laws = (tag_head, tag_rest, tag_laid)

pub ruleset element_laws = (element-ends, element_tag, element-laid)

pub ruleset line_laws = (depth-fits, writing_start, writing-inside, writing-same, writing-ends, writing_done, writing-room, writing_more, front_count)

pub ruleset xml_laws = (xml_opening, xml_lines, xml_laid)
