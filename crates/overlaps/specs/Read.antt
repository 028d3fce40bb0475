-- How the answers of the code that reads the headers of an accepted frame text are read.
use Rattle.std.specs.Prelude.{ℕ, suc, ◌<◌, false, ◌≡◌, List, [], ◌∷◌, Option, Some, None}
use Rattle.text.specs.Records.{Readable}
use Rattle.text.specs.declared.Place.{Place}
use Rattle.text.specs.declared.Optional.{Optional}
use Rattle.text.specs.declared.Optional.TheVariants.{Given, Missing, Wrong}
use Rattle.frame_text.specs.Form.{Path, Param, Record, frequency, base, header, param, validation, set, entry}
use Rattle.frame_text.specs.Rules.{rules}
use Rattle.frame_definition.specs.Definition.{Validation, below, params, validations}
use Rattle.frame_definition.specs.Find.{from}
use Rattle.overlaps.specs.Overlaps.{Head, said_by, leads, heads_of, head_of_number}
use Rattle.overlaps.specs.declared.headers.Head as declared

-- what the P lines say under the owner of what follows a place, and the V lines
unfoldable pub said_at : List ℕ → Place → List Param
said_at t p = said_by (params 0 (below (from t p)))

unfoldable pub valids_at : List ℕ → Place → List Validation
valids_at t p = validations (below (from t p))

abbrev pub base_of : Optional → Option ℕ
base_of (Given n) = Some n
base_of Missing = None
base_of Wrong = None

-- the header that an answer tells
abbrev pub head_at : List ℕ → declared.Head → Head
head_at t h = record { base = base_of h.base; params = said_at t h.place; validations = valids_at t h.place }

-- the headers among records
abbrev pub heads_in : List Record → List Head
heads_in [] = []
heads_in (frequency code key ∷ rs) = heads_in rs
heads_in (base key ∷ rs) = heads_in rs
heads_in (header h ∷ rs) = record { base = h.base; params = said_by (params 0 (below rs)); validations = validations (below rs) } ∷ heads_in rs
heads_in (param p ∷ rs) = heads_in rs
heads_in (validation path value ∷ rs) = heads_in rs
heads_in (set name ∷ rs) = heads_in rs
heads_in (entry key text ∷ rs) = heads_in rs

-- the headers from a place on
unfoldable pub heads_at : List ℕ → Place → List Head
heads_at t p = heads_in (from t p)

-- the next header from p on, and where the others are
pub record IsHead (t : List ℕ) (p : Place) (h : declared.Head) : Type 0 where
  pub first : heads_at t p ≡ head_at t h ∷ heads_at t h.place
  pub readable : Readable rules t h.place
  pub on : p.at < h.place.at

abbrev pub FindsHead : List ℕ → Place → Option declared.Head → Type 0
FindsHead t p (Some h) = IsHead t p h
FindsHead t p None = heads_at t p ≡ []

-- the header of a number
pub record IsNumbered (t : List ℕ) (n : ℕ) (h : declared.Head) : Type 0 where
  pub is : head_of_number n (heads_of t) ≡ Some (head_at t h)
  pub readable : Readable rules t h.place

abbrev pub FindsNumbered : List ℕ → ℕ → Option declared.Head → Type 0
FindsNumbered t n (Some h) = IsNumbered t n h
FindsNumbered t n None = head_of_number n (heads_of t) ≡ None

-- the P lines behind p and q say the same up to the first of this level and name, behind which are p' and q'
pub record IsMet (t : List ℕ) (p q : Place) (level : ℕ) (x : List ℕ) (p' q' : Place) : Type 0 where
  pub led : (path : Path) → leads level (x ∷ path) (said_at t p) (said_at t q) ≡ leads (suc level) path (said_at t p') (said_at t q')
  pub one : Readable rules t p'
  pub other : Readable rules t q'

abbrev pub Meets : List ℕ → Place → Place → ℕ → List ℕ → Option (Place × Place) → Type 0
Meets t p q level x (Some (p', q')) = IsMet t p q level x p' q'
Meets t p q level x None = (path : Path) → leads level (x ∷ path) (said_at t p) (said_at t q) ≡ false
