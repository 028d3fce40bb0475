-- How the answers of the code that looks lines up in an accepted command text are read.
use Rattle.std.specs.Prelude.{ℕ, ◌<◌, ◌≡◌, Bool, true, false, cond, not, ◌&&◌, List, [], ◌∷◌, eqb, length}
use Rattle.text.specs.Records.{Readable}
use Rattle.text.specs.declared.Place.{Place}
use Rattle.command_text.specs.Form.{Record, param, group, item, variant, array, bit_flag, bit_field, const, bitmask}
use Rattle.command_text.specs.Rules.{rules}
use Rattle.command_class.specs.Definition.{Item, letter, const_in}
use Rattle.command_class.specs.Find.{from}
use Rattle.command_value.specs.Params.{lines_of, since, behind, is_ascii, const_name}
use Rattle.command_value.specs.declared.lookup.Shown.{Shown}
use Rattle.command_value.specs.declared.lookup.Shown.TheVariants.{Ascii, Named, Plain}

-- the line of number n begins at the place p, or the text ends there and has none
pub record Stands (t : List ℕ) (n : ℕ) (p : Place) : Type 0 where
  pub lines : from t p ≡ since n (lines_of t)
  pub readable : Readable rules t p

-- the lines behind it begin at the place p
pub record Behind (t : List ℕ) (n : ℕ) (p : Place) : Type 0 where
  pub lines : from t p ≡ behind (since n (lines_of t))
  pub readable : Readable rules t p

-- is a line ascii, which is an A or an R
abbrev pub ascii_of : Record → Bool
ascii_of (param q) = false
ascii_of (group g) = false
ascii_of (item (variant s)) = s.ascii
ascii_of (item (array length ascii)) = ascii
ascii_of (item (bit_flag mask name)) = false
ascii_of (item (bit_field b)) = false
ascii_of (item (const value name)) = false
ascii_of (item (bitmask length)) = false

-- is the first of these lines that has a letter ascii
unfoldable pub first_ascii : ℕ → List Item → Bool
first_ascii k [] = false
first_ascii k (i ∷ is) = cond (eqb (letter i.says) k) (ascii_of i.says) (first_ascii k is)

-- is the first of these lines the first that has a letter, and ascii, if none was seen before
abbrev pub ascii_here : ℕ → Bool → List Item → Bool
ascii_here k seen [] = false
ascii_here k seen (i ∷ is) = not seen && (eqb (letter i.says) k && ascii_of i.says)

-- at the place p begins a line that has the name of the line of number n among these
pub record NamedAt (t : List ℕ) (n : ℕ) (is : List Item) (p : Place) : Type 0 where
  pub readable : Readable rules t p
  pub inside : p.at < length t
  pub name : const_in (from t p) ≡ const_name n is

-- how the value of a Q is shown that these lines stand under
abbrev pub IsShown : List ℕ → ℕ → List Item → Shown → Type 0
IsShown t n is Ascii = is_ascii is ≡ true
IsShown t n is (Named p) = (is_ascii is ≡ false) × NamedAt t n is p
IsShown t n is Plain = (is_ascii is ≡ false) × (const_name n is ≡ [])

-- with the line at the place p more; the first of number n is kept
abbrev pub kept_in : Shown → ℕ → Place → Shown
kept_in Ascii n p = Ascii
kept_in (Named q) n p = Named q
kept_in Plain n p = cond (eqb p.line n) (Named p) Plain

-- is a value shown so ascii, and what names it
abbrev pub ascii_by : Shown → Bool
ascii_by Ascii = true
ascii_by (Named p) = false
ascii_by Plain = false

abbrev pub name_by : List ℕ → Shown → List ℕ
name_by t Ascii = []
name_by t (Named p) = const_in (from t p)
name_by t Plain = []

-- the place of the K is one of the text's
abbrev pub Placed : List ℕ → Shown → Type 0
Placed t Ascii = Unit {0}
Placed t (Named p) = Readable rules t p × (p.at < length t)
Placed t Plain = Unit {0}
