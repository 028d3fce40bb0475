-- X5 and X6 (docs/RULES.md): which values an attribute may have, and what they say in a line.
use Rattle.std.specs.Prelude.{ℕ, suc, ◌+◌, ◌-◌, ◌*◌, ◌≤◌, ◌<◌, Bool, true, false, cond, not, ◌&&◌, ◌||◌, ◌≡◌, List, [], ◌∷◌, ◌++◌, length, take, drop, get_or, leb, ltb, eqb, Option, Some, None}
use Rattle.text.specs.Text.{split, same, within, without, missing}
use Rattle.text.specs.Scan.{cut, word_in}
use Rattle.numerals.specs.Numerals.{decimal}
use Rattle.xml_schema.specs.Schema.{words, optional_words, number, optional_number, hex_number, is_dropped, ampersand, semicolon}
use Rattle.xml_values.specs.Scan.{skip, white}

-- ---- words

-- X5: the byte that `amp`, `lt`, `gt`, `quot` or `apos` names, or 0
abbrev pub entity : List ℕ → ℕ
entity n =
    cond (same n (0x61 ∷ 0x6d ∷ 0x70 ∷ [])) 0x26
    (cond (same n (0x6c ∷ 0x74 ∷ [])) 0x3c
    (cond (same n (0x67 ∷ 0x74 ∷ [])) 0x3e
    (cond (same n (0x71 ∷ 0x75 ∷ 0x6f ∷ 0x74 ∷ [])) 0x22
    (cond (same n (0x61 ∷ 0x70 ∷ 0x6f ∷ 0x73 ∷ [])) 0x27 0))))

-- X5: the byte that the name at the front of p, up to `;`, stands for
abbrev pub meant : List ℕ → ℕ
meant p = entity (take (cut semicolon p) p)

-- X5: what stands behind each `&` of a value, said plainly
abbrev pub parts : List (List ℕ) → List ℕ
parts [] = []
parts (p ∷ ps) = meant p ∷ (drop (cut semicolon p + 1) p ++ parts ps)

abbrev pub plainly : List (List ℕ) → List ℕ
plainly [] = []
plainly (f ∷ ps) = f ++ parts ps

-- X5: what a value says
abbrev pub undo : List ℕ → List ℕ
undo v = plainly (split ampersand v)

-- X5: does p begin with a known name and a `;`
abbrev pub is_named : List ℕ → Bool
is_named p = eqb (get_or p (cut semicolon p) 0) semicolon && not (eqb (meant p) 0)

abbrev pub named : List (List ℕ) → Bool
named [] = true
named (p ∷ ps) = is_named p && named ps

abbrev pub all_named : List (List ℕ) → Bool
all_named [] = true
all_named (f ∷ ps) = named ps

-- X5: no `<` stands in a value, and `&` only before one of the five names
abbrev pub loose : List ℕ → Bool
loose v = without 0x3c v && all_named (split ampersand v)

-- X5: a value that a line can hold
abbrev pub is_words : List ℕ → Bool
is_words v = within 0x20 0xff v && loose v

-- ---- numbers

-- X6: without its `+`
abbrev pub unsigned : List ℕ → List ℕ
unsigned [] = []
unsigned (x ∷ xs) = cond (eqb x 0x2b) xs (x ∷ xs)

-- X6: is v digits, behind a `+` or not
abbrev pub is_count : List ℕ → Bool
is_count v = leb 1 (length (unsigned v)) && within 0x30 0x39 (unsigned v)

-- X6: digits without leading zeros
abbrev pub strip : List ℕ → List ℕ
strip [] = []
strip (x ∷ []) = x ∷ []
strip (x ∷ y ∷ ys) = cond (eqb x 0x30) (strip (y ∷ ys)) (x ∷ y ∷ ys)

-- X6: what a digit is worth, capital or not; 16 for what is none
abbrev pub digit_of : ℕ → ℕ
digit_of x =
    cond (leb 0x30 x && leb x 0x39) (x - 0x30)
    (cond (leb 0x41 x && leb x 0x46) (x - 0x37)
    (cond (leb 0x61 x && leb x 0x66) (x - 0x57) 16))

-- X6: how many digits of the base stand at the front of l
abbrev pub run : ℕ → List ℕ → ℕ
run base [] = 0
run base (x ∷ xs) = cond (ltb (digit_of x) base) (suc (run base xs)) 0

-- X6: what they are worth, behind digits that are worth v
abbrev pub worth_in : ℕ → ℕ → List ℕ → ℕ
worth_in base v [] = v
worth_in base v (x ∷ xs) = cond (ltb (digit_of x) base) (worth_in base (v * base + digit_of x) xs) v

-- what is worth w is answered v: the same number, if it has at most 32 bits; else some number that has more
pub record Capped (w v : ℕ) : Type 0 where
  pub low : w ≤ 4294967295 → v ≡ w
  pub over : 4294967295 < w → 4294967295 < v

-- X6: the number of at most 32 bits that l says in the base: digits, and white space behind them
abbrev pub numeral_in : ℕ → List ℕ → Option ℕ
numeral_in base l =
    cond (leb 1 (run base l) && (white (drop (run base l) l) && leb (worth_in base 0 l) 4294967295)) (Some (worth_in base 0 l)) None

-- X6: does l begin with 0x or 0X
abbrev pub is_hex : List ℕ → Bool
is_hex l = eqb (get_or l 0 0) 0x30 && (eqb (get_or l 1 0) 0x78 || eqb (get_or l 1 0) 0x58)

-- X6: the number of at most 32 bits that l says, in hexadecimal behind 0x or 0X, else in decimal
abbrev pub numeral_from : List ℕ → Option ℕ
numeral_from l = cond (is_hex l) (numeral_in 16 (unsigned (drop 2 l))) (numeral_in 10 (unsigned l))

-- X6: the number that a value says, with white space around it or not
abbrev pub numeral : List ℕ → Option ℕ
numeral v = numeral_from (skip v)

abbrev pub is_numeral : Option ℕ → Bool
is_numeral (Some n) = true
is_numeral None = false

-- X6: a number is said in decimal
abbrev pub in_decimal : Option ℕ → List ℕ
in_decimal (Some n) = decimal n
in_decimal None = []

-- ---- flags

-- X6: the spellings of true: `true 1 True TRUE t Yes YES yes y`
unfoldable pub trues : List ℕ
trues = 0x74 ∷ 0x72 ∷ 0x75 ∷ 0x65 ∷ 0x20 ∷ 0x31 ∷ 0x20 ∷ 0x54 ∷ 0x72 ∷ 0x75 ∷ 0x65 ∷ 0x20 ∷ 0x54 ∷ 0x52 ∷ 0x55 ∷ 0x45
    ∷ 0x20 ∷ 0x74 ∷ 0x20 ∷ 0x59 ∷ 0x65 ∷ 0x73 ∷ 0x20 ∷ 0x59 ∷ 0x45 ∷ 0x53 ∷ 0x20 ∷ 0x79 ∷ 0x65 ∷ 0x73 ∷ 0x20 ∷ 0x79 ∷ []

-- X6: the spellings of false: `false 0 False FALSE f No NO no n`
unfoldable pub falses : List ℕ
falses = 0x66 ∷ 0x61 ∷ 0x6c ∷ 0x73 ∷ 0x65 ∷ 0x20 ∷ 0x30 ∷ 0x20 ∷ 0x46 ∷ 0x61 ∷ 0x6c ∷ 0x73 ∷ 0x65 ∷ 0x20 ∷ 0x46 ∷ 0x41
    ∷ 0x4c ∷ 0x53 ∷ 0x45 ∷ 0x20 ∷ 0x66 ∷ 0x20 ∷ 0x4e ∷ 0x6f ∷ 0x20 ∷ 0x4e ∷ 0x4f ∷ 0x20 ∷ 0x6e ∷ 0x6f ∷ 0x20 ∷ 0x6e ∷ []

-- X6: is v among nine words
abbrev pub is_among : List ℕ → List ℕ → Bool
is_among ws v = ltb (word_in (split 0x20 ws) v) 9

-- X6: the digit for a flag; 0 for what is none
abbrev pub digit_for : List ℕ → ℕ
digit_for v = cond (is_among trues v) 0x31 (cond (is_among falses v) 0x30 0)

-- ---- by the form of the attribute

-- X5, X6: may an attribute of the form f have the value v
abbrev pub valid : ℕ → List ℕ → Bool
valid f v =
    cond (is_dropped f) (loose v)
    (cond (eqb f words) (is_words v)
    (cond (eqb f optional_words) (not (missing v) && is_words v)
    (cond (eqb f hex_number) (is_numeral (numeral v))
    (cond (eqb f number || eqb f optional_number) (is_count v) (not (eqb (digit_for v) 0))))))

-- X5, X6: what the value v of an attribute of the form f says in a line
abbrev pub says : ℕ → List ℕ → List ℕ
says f v =
    cond (eqb f words || eqb f optional_words) (undo v)
    (cond (eqb f hex_number) (in_decimal (numeral v))
    (cond (eqb f number || eqb f optional_number) (strip (unsigned v)) (digit_for v ∷ [])))

-- X6: what an attribute of the form f says in a line where it is missing: `-`, and a flag that it is false
abbrev pub unsaid : ℕ → List ℕ
unsaid f = cond (eqb f optional_words || eqb f optional_number) (0x2d ∷ []) (0x30 ∷ [])
