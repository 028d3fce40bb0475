-- X4 and X8 (docs/RULES.md): the tags of a document, and the attributes of a tag.
use Rattle.std.specs.Prelude.{ℕ, suc, ◌+◌, Bool, true, false, cond, not, ◌&&◌, ◌||◌, List, [], ◌∷◌, ◌++◌, length, get_or, drop, leb, ltb, eqb, Option, Some, None}
use Rattle.text.specs.Text.{onto, split, same}
use Rattle.xml_schema.specs.Schema.{count, element_of, entries_of, form_of, name_of, form_in, further_flag, is_optional, is_dropped, quote}
use Rattle.xml_values.specs.Scan.{lead, skip, white, word_len, word, after}
use Rattle.xml_values.specs.Values.{valid, says, unsaid}
use Rattle.xml_tags.specs.declared.Tag.{Tag}
use Rattle.xml_tags.specs.declared.Tag.TheVariants.{Bad, Shut, Open}

-- ---- tags: what `>` ends outside double quotes, from the white space before it on

-- X4: does the byte x end a tag, inside quotes or outside
abbrev pub stops : Bool → ℕ → Bool
stops quoted x = not quoted && eqb x 0x3e

-- X4: are we inside quotes after the byte x
abbrev pub turn : Bool → ℕ → Bool
turn quoted x = cond (eqb x quote) (not quoted) quoted

-- a byte that ends a tag, or one more of it
abbrev pub placed : Bool → ℕ → List (List ℕ) → List (List ℕ)
placed true x ps = [] ∷ ps
placed false x ps = onto x ps

-- X4: the tags of a document, and last what stands behind the last of them
abbrev pub chunks : Bool → List ℕ → List (List ℕ)
chunks quoted [] = [] ∷ []
chunks quoted (x ∷ xs) = placed (stops quoted x) x (chunks (turn quoted x) xs)

-- where the first tag of l ends, or l's length where none does
abbrev pub tag_end : Bool → List ℕ → ℕ
tag_end quoted [] = 0
tag_end quoted (x ∷ xs) = cond (stops quoted x) 0 (suc (tag_end (turn quoted x) xs))

-- ---- attributes: quotes part what stands behind an element's name into a name with its `=`, a value, and so on, and last what ends the tag

-- X4: the name in white space, a name, white space, `=`, white space
abbrev pub name_in : List ℕ → List ℕ
name_in p = word (skip p)

abbrev pub is_equals : List ℕ → Bool
is_equals l = eqb (get_or l 0 0) 0x3d && white (drop 1 l)

abbrev pub is_name : List ℕ → Bool
is_name p = leb 1 (lead p) && is_equals (skip (after (skip p)))

-- X4: white space, and `/` where the tag ends its element too
abbrev pub is_end : List ℕ → Bool
is_end t = same (skip t) [] || same (skip t) (0x2f ∷ [])

-- is there an attribute n
abbrev pub has : List ℕ → List (List ℕ) → Bool
has n [] = false
has n (t ∷ []) = false
has n (p ∷ v ∷ []) = false
has n (p ∷ v ∷ q ∷ ps) = same (name_in p) n || has n (q ∷ ps)

-- the first value of an attribute n
abbrev pub value_of : List ℕ → List (List ℕ) → List ℕ
value_of n [] = []
value_of n (t ∷ []) = []
value_of n (p ∷ v ∷ []) = []
value_of n (p ∷ v ∷ q ∷ ps) = cond (same (name_in p) n) v (value_of n (q ∷ ps))

-- X4: is p the name of an attribute, by these entries, that does not come again
abbrev pub is_new : List (List ℕ) → List ℕ → List (List ℕ) → Bool
is_new es p ps = is_name p && (not (eqb (form_in es (name_in p)) 0) && not (has (name_in p) ps))

-- X8: the first fault among attributes that stand at a place: at the white space before a name that is not known, not formed so or comes again, or before a
-- tag that ends otherwise; at the first byte of a value that the attribute may not have
abbrev pub fault : List (List ℕ) → ℕ → List (List ℕ) → Option ℕ
fault es place [] = Some place
fault es place (t ∷ []) = cond (is_end t) None (Some place)
fault es place (p ∷ v ∷ []) = Some place
fault es place (p ∷ v ∷ q ∷ ps) =
    cond (is_new es p (q ∷ ps))
    (cond (valid (form_in es (name_in p)) v) (fault es (place + length p + length v + 2) (q ∷ ps)) (Some (place + length p + 1)))
    (Some place)

-- X4: is each attribute there that may not be missing
abbrev pub whole : List (List ℕ) → List (List ℕ) → Bool
whole [] ps = true
whole (e ∷ es) ps = (is_optional (form_of e) || has (name_of e) ps) && whole es ps

-- ---- a tag

-- X8: a tag with a fault in it, else what it is
abbrev pub unless : Option ℕ → Tag → Tag
unless None t = t
unless (Some n) t = Bad n

-- X8: the start of element k, by its entries: its `<` stands at a place, and its attributes from `inside` on
abbrev pub judged : ℕ → List (List ℕ) → ℕ → ℕ → List (List ℕ) → Tag
judged k es place inside ps = unless (fault es inside ps) (cond (whole es ps) (Open k) (Bad place))

-- X4: the start of an element whose name begins l, where its `<` stands at a place
abbrev pub opened : ℕ → List ℕ → Tag
opened place l =
    cond (ltb (element_of (word l)) count)
    (judged (element_of (word l)) (entries_of (element_of (word l))) place (place + 1 + word_len l) (split quote (after l)))
    (Bad place)

-- X4: the end of an element whose name begins l
abbrev pub shutting : ℕ → List ℕ → Tag
shutting place l = cond (ltb (element_of (word l)) count && white (after l)) (Shut (element_of (word l))) (Bad place)

abbrev pub tag_from : ℕ → List ℕ → Tag
tag_from place s = cond (eqb (get_or s 0 0) 0x3c) (cond (eqb (get_or s 1 0) 0x2f) (shutting place (drop 2 s)) (opened place (drop 1 s))) (Bad place)

-- X4, X8: what a tag is, places counted from its first byte
abbrev pub tag_of : List ℕ → Tag
tag_of c = tag_from (lead c) (skip c)

-- the attributes of a start tag
abbrev pub pieces_of : List ℕ → List (List ℕ)
pieces_of c = split quote (after (drop 1 (skip c)))

-- the last byte of l, or 0
abbrev pub last : List ℕ → ℕ
last [] = 0
last (x ∷ []) = x
last (x ∷ y ∷ ys) = last (y ∷ ys)

-- X4: is a start tag the end too
abbrev pub closed : List ℕ → Bool
closed c = eqb (last c) 0x2f

-- ---- what the attributes say in a line

-- X9: what the attribute n of the form f says
abbrev pub told : ℕ → List ℕ → List (List ℕ) → List ℕ
told f n ps = cond (has n ps) (says f (value_of n ps)) (unsaid f)

-- X9: the same behind a tab, if it begins a field; nothing, if no line has a place for it
abbrev pub part : ℕ → List ℕ → List (List ℕ) → List ℕ
part f n ps = cond (is_dropped f) [] (cond (eqb f further_flag) (told f n ps) (0x09 ∷ told f n ps))

-- X9: the fields of a line, by the entries
abbrev pub fields_of : List (List ℕ) → List (List ℕ) → List ℕ
fields_of [] ps = []
fields_of (e ∷ es) ps = part (form_of e) (name_of e) ps ++ fields_of es ps
