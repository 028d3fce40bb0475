-- OV1 to OV5 (docs/RULES.md): may two headers of a frame text hold together?
use Rattle.std.specs.Prelude.{ℕ, zero, suc, Bool, true, false, cond, not, ◌&&◌, ◌||◌, List, [], ◌∷◌, map, eqb, leb, ltb, Option, Some, None}
use Rattle.text.specs.Text.{same}
use Rattle.frame_text.specs.Form.{Path, Param}
use Rattle.frame_definition.specs.Definition.{Numbered, Validation, Frame, definition, is_key, some?}
use Rattle.header_fields.specs.Fields.{type_number}

-- ---- tests

abbrev pub same_option : {A : Type 0} → (A → A → Bool) → Option A → Option A → Bool
same_option test None None = true
same_option test None (Some y) = false
same_option test (Some x) None = false
same_option test (Some x) (Some y) = test x y

abbrev pub same_path : Path → Path → Bool
same_path [] [] = true
same_path [] (y ∷ ys) = false
same_path (x ∷ xs) [] = false
same_path (x ∷ xs) (y ∷ ys) = same x y && same_path xs ys

-- the greater of two
abbrev pub greater : ℕ → ℕ → ℕ
greater a b = cond (leb a b) b a

-- ---- P lines

-- have two P lines the same level, order, bits and type
abbrev pub same_numbers : Param → Param → Bool
same_numbers p q =
    eqb p.level q.level && (eqb p.order q.order && (eqb p.bits q.bits && eqb (type_number p.type) (type_number q.type)))

-- the same name and define set
abbrev pub same_names : Param → Param → Bool
same_names p q = same p.name q.name && same_option same p.set q.set

-- the same optional path and size path
abbrev pub same_paths : Param → Param → Bool
same_paths p q = same_option same_path p.optional q.optional && same_option same_path p.size q.size

-- do they say the same
abbrev pub alike : Param → Param → Bool
alike p q = same_numbers p q && (same_names p q && same_paths p q)

-- OV2: has an outer P of these this name
abbrev pub has_outer : List ℕ → List Param → Bool
has_outer x [] = false
has_outer x (p ∷ ps) = (eqb p.level 0 && same p.name x) || has_outer x ps

-- OV3: behind a P of this level, order and name, up to the next P of a lower level: none of its level has a lower order or its name
abbrev pub clear_of : ℕ → ℕ → List ℕ → List Param → Bool
clear_of level order name [] = true
clear_of level order name (q ∷ qs) =
    cond (ltb q.level level) true
    (cond (eqb q.level level) ((leb order q.order && not (same q.name name)) && clear_of level order name qs) (clear_of level order name qs))

-- OV3: the P lines of each list stand as they are read, and no two of one list have the same name
abbrev pub straight : List Param → Bool
straight [] = true
straight (p ∷ ps) = clear_of p.level p.order p.name ps && straight ps

-- OV3: two headers' P lines say the same up to the one to which the path leads. Its names so far were found; the next is looked for at this level
abbrev pub leads : ℕ → Path → List Param → List Param → Bool
leads level [] ps qs = true
leads level (x ∷ path) [] qs = false
leads level (x ∷ path) (p ∷ ps) [] = false
leads level (x ∷ path) (p ∷ ps) (q ∷ qs) =
    alike p q
    && cond (ltb p.level level) false
    (cond (eqb p.level level && same p.name x) (leads (suc level) path ps qs) (leads level (x ∷ path) ps qs))

-- ---- two headers

-- what of an H line counts here: its base key, and what its P and V lines say
pub record Head : Type 0 where
  pub base : Option ℕ
  pub params : List Param
  pub validations : List Validation

-- what P lines say, without their numbers
abbrev pub said_by : List Numbered → List Param
said_by ps = map (λ (p : Numbered). p.says) ps

abbrev pub head_of : Frame → Head
head_of f = record { base = f.says.base; params = said_by f.params; validations = f.validations }

-- OV1: two headers of one base: both are candidates for one base key
abbrev pub of_one_base : Option ℕ → Option ℕ → Bool
of_one_base None b = false
of_one_base (Some k) b = is_key k b

abbrev pub together : Head → Head → Bool
together f g = of_one_base f.base g.base && (some? f.validations && some? g.validations)

abbrev pub first_name : Path → List ℕ
first_name [] = []
first_name (x ∷ path) = x

-- OV2, OV3: where both hold, the path finds the same value by both
abbrev pub decides : List Param → List Param → Path → Bool
decides ps qs path =
    not (has_outer (first_name path) ps && has_outer (first_name path) qs) || (leads 0 path ps qs && (straight ps && straight qs))

-- OV4: what a V of each tells: 0 they have other paths; 1 the same value; 2 other values, of fields of their own; 3 the two are apart
abbrev pub tell_one : List Param → List Param → Validation → Validation → ℕ
tell_one ps qs v w =
    cond (same_path v.path w.path) (cond (eqb v.value w.value) 1 (cond (decides ps qs v.path) 3 2)) 0

-- the most that the V of one and all V of the other tell, and all of both
abbrev pub tell_each : List Param → List Param → Validation → List Validation → ℕ
tell_each ps qs v [] = 0
tell_each ps qs v (w ∷ ws) = greater (tell_one ps qs v w) (tell_each ps qs v ws)

abbrev pub tell_all : List Param → List Param → List Validation → List Validation → ℕ
tell_all ps qs [] ws = 0
tell_all ps qs (v ∷ vs) ws = greater (tell_each ps qs v ws) (tell_all ps qs vs ws)

-- OV4: what is told of two headers: 4 they are not of one base
abbrev pub tell : Head → Head → ℕ
tell f g = cond (together f g) (tell_all f.params g.params f.validations g.validations) 4

-- OV4: no MPDU is held by both
abbrev pub are_apart : Head → Head → Bool
are_apart f g = leb 3 (tell f g)

-- ---- a text

abbrev pub apart_from_all : Head → List Head → Bool
apart_from_all f [] = true
apart_from_all f (g ∷ gs) = are_apart f g && apart_from_all f gs

abbrev pub all_apart : List Head → Bool
all_apart [] = true
all_apart (f ∷ fs) = apart_from_all f fs && all_apart fs

abbrev pub heads_of : List ℕ → List Head
heads_of t = map head_of (definition t).frames

-- OV5: every two headers of one base are apart
unfoldable pub harmless : List ℕ → Bool
harmless t = all_apart (heads_of t)

-- ---- by number

abbrev pub head_of_number : ℕ → List Head → Option Head
head_of_number n [] = None
head_of_number zero (f ∷ fs) = Some f
head_of_number (suc n) (f ∷ fs) = head_of_number n fs

abbrev pub tell_both : Option Head → Option Head → ℕ
tell_both None g = 4
tell_both (Some f) None = 4
tell_both (Some f) (Some g) = tell f g

-- OV4: what is told of the headers of two numbers: 4 too where there is none of a number
unfoldable pub tell_numbers : List ℕ → ℕ → ℕ → ℕ
tell_numbers t a b = tell_both (head_of_number a (heads_of t)) (head_of_number b (heads_of t))
