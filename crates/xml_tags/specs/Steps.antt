-- What the functions on a tag and its attributes answer.
use Rattle.std.specs.Prelude.{ℕ, ◌+◌, ◌≤◌, ◌≡◌, cond, List, [], ◌∷◌, length, take, drop, Option, Some, None}
use Rattle.text.specs.Text.{split}
use Rattle.text.specs.declared.Part.{Part}
use Rattle.xml_schema.specs.Schema.{form_in, quote}
use Rattle.xml_values.specs.Values.{valid}
use Rattle.xml_tags.specs.Tags.{name_in, value_of, is_new}
use Rattle.xml_tags.specs.declared.Tag.{Tag}
use Rattle.xml_tags.specs.declared.Tag.TheVariants.{Bad, Shut, Open}
use Rattle.xml_tags.specs.declared.Pair.{Pair}
use Rattle.xml_tags.specs.declared.Pair.TheVariants.{Last, Odd, Two}
use Rattle.xml_tags.specs.declared.Grade.{Grade}
use Rattle.xml_tags.specs.declared.Grade.TheVariants.{Right, WrongName, WrongValue}

-- two pieces: a name, and a value that does not end
pub record Lone (ps : List (List ℕ)) : Type 0 where
  pub name_piece : List ℕ
  pub value_piece : List ℕ
  pub are : ps ≡ name_piece ∷ value_piece ∷ []

-- what stands at the front of the attributes r
abbrev pub Halved : List ℕ → Pair → Type 0
Halved r Last = split quote r ≡ r ∷ []
Halved r Odd = Lone (split quote r)
Halved r (Two e f) = (e + f + 2 ≤ length r) × (split quote r ≡ take e r ∷ take f (drop (e + 1) r) ∷ split quote (drop (e + f + 2) r))

-- a part of the body of a tag, which is the value of its attribute n
pub record Spans (body n : List ℕ) (r : Part) : Type 0 where
  pub inside : r.start + r.len ≤ length body
  pub is : take r.len (drop r.start body) ≡ value_of n (split quote body)

-- what is wrong with an attribute, if anything
abbrev pub grade : List (List ℕ) → List ℕ → List ℕ → List (List ℕ) → Grade
grade es p v ps = cond (is_new es p ps) (cond (valid (form_in es (name_in p)) v) Right WrongValue) WrongName

-- a place of at most m
abbrev pub UpTo : ℕ → Option ℕ → Type 0
UpTo m None = Unit {0}
UpTo m (Some n) = n ≤ m

abbrev pub Inside : ℕ → Tag → Type 0
Inside m (Bad n) = n ≤ m
Inside m (Shut k) = Unit {0}
Inside m (Open k) = Unit {0}
