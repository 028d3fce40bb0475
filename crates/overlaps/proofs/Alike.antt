-- P lines that say the same are the same. Assumes nothing.
use mathlib.Core.Path.{◌≡◌, refl, sym, ap, ◌∙◌}
use mathlib.Core.Bool.{Bool, true, false≢true}
use mathlib.Core.List.{[], ◌∷◌}
use lib.Dec.{eqb}
use borrow.Author.Tests.{eqb-true}
use Rattle.laws.proofs.Bools.{and_left, and_right}
use Rattle.text.specs.Text.{same}
use Rattle.text.proofs.Printing.{same_is}
use Rattle.frame_text.specs.Form.{Path, Param}
use Rattle.frame_text.specs.declared.ParamType.{ParamType}
use Rattle.frame_text.specs.declared.ParamType.TheVariants.{Hex, Number, NumberSigned, NodeNumber, Boolean, Bitmask}
use Rattle.header_fields.specs.Fields.{type_number, type_by}
use Rattle.overlaps.specs.Overlaps.{same_option, same_path, same_numbers, same_names, same_paths, alike}
use Rattle.std.specs.Prelude.{Option, Some, None}

pub path_is : (a b : Path) → same_path a b ≡ true → a ≡ b
path_is [] [] e = refl
path_is [] (y ∷ ys) e = absurd (false≢true e)
path_is (x ∷ xs) [] e = absurd (false≢true e)
path_is (x ∷ xs) (y ∷ ys) e =
    let h : x ≡ y = same_is x y (and_left (same x y) (same_path xs ys) e) in
    let t : xs ≡ ys = path_is xs ys (and_right (same x y) (same_path xs ys) e) in
    λ i. h i ∷ t i

option_is : {A : Type 0} (test : A → A → Bool) → ((x y : A) → test x y ≡ true → x ≡ y) → (a b : Option A) → same_option test a b ≡ true
    → a ≡ b
option_is test is None None e = refl
option_is test is None (Some y) e = absurd (false≢true e)
option_is test is (Some x) None e = absurd (false≢true e)
option_is {A} test is (Some x) (Some y) e = ap {B = Option A} Some (is x y e)

type_by_lem : (k : ParamType) → type_by (type_number k) ≡ k
type_by_lem Hex = refl
type_by_lem Number = refl
type_by_lem NumberSigned = refl
type_by_lem NodeNumber = refl
type_by_lem Boolean = refl
type_by_lem Bitmask = refl

type_is : (a b : ParamType) → eqb (type_number a) (type_number b) ≡ true → a ≡ b
type_is a b e = sym (type_by_lem a) ∙ ap type_by (eqb-true (type_number a) (type_number b) e) ∙ type_by_lem b

pub alike_is : (p q : Param) → alike p q ≡ true → p ≡ q
alike_is p q e =
    let numbers = and_left (same_numbers p q) _ e in
    let words = and_right (same_numbers p q) _ e in
    let labels = and_left (same_names p q) (same_paths p q) words in
    let paths = and_right (same_names p q) (same_paths p q) words in
    let below = and_right (eqb p.level q.level) _ numbers in
    let kinds = and_right (eqb p.order q.order) _ below in
    let level : p.level ≡ q.level = eqb-true p.level q.level (and_left (eqb p.level q.level) _ numbers) in
    let order : p.order ≡ q.order = eqb-true p.order q.order (and_left (eqb p.order q.order) _ below) in
    let bits : p.bits ≡ q.bits = eqb-true p.bits q.bits (and_left (eqb p.bits q.bits) _ kinds) in
    let type : p.type ≡ q.type = type_is p.type q.type (and_right (eqb p.bits q.bits) _ kinds) in
    let name : p.name ≡ q.name = same_is p.name q.name (and_left (same p.name q.name) _ labels) in
    let set : p.set ≡ q.set = option_is same same_is p.set q.set (and_right (same p.name q.name) _ labels) in
    let optional : p.optional ≡ q.optional =
    option_is same_path path_is p.optional q.optional (and_left (same_option same_path p.optional q.optional) _ paths) in
    let size : p.size ≡ q.size = option_is same_path path_is p.size q.size (and_right (same_option same_path p.optional q.optional) _ paths) in
    λ i. record {
      level = level i;
      order = order i;
      bits = bits i;
      type = type i;
      name = name i;
      set = set i;
      optional = optional i;
      size = size i;
    }
