-- X13 (docs/RULES.md): the attributes that are written for a line, by the entries of its element.
use Rattle.std.specs.Prelude.{ℕ, ◌+◌, ◌-◌, Bool, cond, ◌&&◌, ◌||◌, List, [], ◌∷◌, ◌++◌, eqb, get_or, drop}
use Rattle.text.specs.Text.{fields, field, missing}
use Rattle.xml_schema.specs.Schema.{form_of, name_of, optional_words, optional_number, hex_number, flag, further_flag, is_dropped, quote}
use Rattle.xml_spelling.specs.Spelling.{escaped, hexed, flagged}

-- X13: the value of an attribute of the form f, by the fields fs of a line: k is the number of the next field, and j that of the next digit of the field before
-- it. An attribute that no line has a place for says again what a field says
abbrev pub value_for : ℕ → List (List ℕ) → ℕ → ℕ → List ℕ
value_for f fs k j =
    cond (is_dropped f) (escaped (field (f - 0x30) fs))
    (cond (eqb f flag) (flagged (get_or (field k fs) 0 0))
    (cond (eqb f further_flag) (flagged (get_or (field (k - 1) fs) j 0))
    (cond (eqb f hex_number) (hexed (field k fs)) (escaped (field k fs)))))

-- X13: an attribute whose field is missing is not written
abbrev pub is_absent : ℕ → List (List ℕ) → ℕ → Bool
is_absent f fs k = (eqb f optional_words || eqb f optional_number) && missing (field k fs)

-- X13: a space, the name, `="`
abbrev pub label : List ℕ → List ℕ
label n = (0x20 ∷ []) ++ (n ++ (0x3d ∷ quote ∷ []))

-- X13: an attribute, with its value in quotes
abbrev pub attribute : List ℕ → List ℕ → List ℕ
attribute n v = label n ++ (v ++ (quote ∷ []))

-- X13: what is written for an entry
abbrev pub written : List ℕ → List (List ℕ) → ℕ → ℕ → List ℕ
written e fs k j = cond (is_absent (form_of e) fs k) [] (attribute (name_of e) (value_for (form_of e) fs k j))

-- the next field, and the next digit, behind an attribute of the form f
abbrev pub field_after : ℕ → ℕ → ℕ
field_after f k = cond (is_dropped f || eqb f further_flag) k (k + 1)

abbrev pub digit_after : ℕ → ℕ → ℕ
digit_after f j = cond (eqb f further_flag) (j + 1) 1

-- X13: what is written for entries
unfoldable pub attributes : List (List ℕ) → List (List ℕ) → ℕ → ℕ → List ℕ
attributes [] fs k j = []
attributes (e ∷ es) fs k j = written e fs k j ++ attributes es fs (field_after (form_of e) k) (digit_after (form_of e) j)

-- X13: what is written for a line, by a row of the table; `first` is the first field that an attribute says
abbrev pub attributes_by : List ℕ → List ℕ → ℕ → List ℕ
attributes_by row line first = attributes (drop 1 (fields row)) (fields line) first 1
