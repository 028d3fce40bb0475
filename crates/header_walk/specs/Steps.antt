-- What the steps of the walk answer, by the flat walk of `header_rules`. ps are the loaded P lines, d the bytes of the MPDU.
use Rattle.std.specs.Prelude.{◌≡◌, Bool, true, false, cond, ◌&&◌, List, [], ◌∷◌, ◌++◌, ℕ, ◌+◌, ◌*◌, ◌≤◌, length, leb, ltb, Option, Some, None}
use Rattle.frame_definition.specs.Definition.{Numbered}
use Rattle.header_rules.specs.Find.{width_by}
use Rattle.header_rules.specs.Walk.{wanted_by}
use Rattle.header_rules.specs.Rows.{Row, flat_value}
use Rattle.header_rules.specs.Flat.{row_at, flat_width, flat_exists, flat_field, flat_packed}
use Rattle.header_rules.specs.Loaded.{line_of, name_of, inside_of, inner_of}
use Rattle.header_rules.specs.Level.{said_at}
use Rattle.header_paths.specs.Scratch.{rows_in}
use Rattle.header_walk.specs.Walk.{Holds}

-- ---- does a field exist: by the rows `done`, in the list of the parent p

unfoldable pub wanted : List Numbered → ℕ → ℕ → List Row → Bool
wanted ps i p done = wanted_by (λ path. flat_value (name_of ps) done path p) (said_at ps i).optional

unfoldable pub width : List Numbered → ℕ → ℕ → List Row → ℕ
width ps i p done = width_by (said_at ps i).bits (λ path. flat_value (name_of ps) done path p) (said_at ps i).size

-- a width, or 0 where it is over what is left
unfoldable pub fitting : ℕ → ℕ → ℕ
fitting w left = cond (leb w left) w 0

-- how wide a field is, if it exists where that many bits are left
unfoldable pub extent_of : List Numbered → ℕ → ℕ → ℕ → List Row → Option ℕ
extent_of ps i p left done =
    cond (wanted ps i p done && (ltb 0 (width ps i p done) && leb (width ps i p done) left)) (Some (width ps i p done)) None

-- ---- a field's own row, behind the n rows of the table u; u' is the table after it

-- it exists at the bit s and is w bits wide
pub record Laid (ps : List Numbered) (d u u' : List ℕ) (i s p n w : ℕ) : Type 0 where
  pub exists : flat_exists (line_of ps) (inside_of ps) (name_of ps) d i s p (rows_in u n) ≡ true
  pub width_is : flat_width (line_of ps) (inside_of ps) (name_of ps) d i p (rows_in u n) ≡ w
  pub within : s + w ≤ length d * 8
  pub rows : rows_in u' (n + 1) ≡ rows_in u n ++ (row_at d i p s w ∷ [])

-- it doesn't
pub record Absent (ps : List Numbered) (d u u' : List ℕ) (i s p n : ℕ) : Type 0 where
  pub exists : flat_exists (line_of ps) (inside_of ps) (name_of ps) d i s p (rows_in u n) ≡ false
  pub rows : rows_in u' n ≡ rows_in u n

abbrev pub Lays : List Numbered → List ℕ → List ℕ → List ℕ → ℕ → ℕ → ℕ → ℕ → Option ℕ → Type 0
Lays ps d u u' i s p n (Some w) = Laid ps d u u' i s p n w
Lays ps d u u' i s p n None = Absent ps d u u' i s p n

-- ---- rows after a field, and after the fields inside it

abbrev pub field_done : List Numbered → List ℕ → ℕ → ℕ → ℕ → ℕ → List Row → List Row
field_done ps d left i s p done = flat_field (line_of ps) (inside_of ps) (name_of ps) d left i s p done

unfoldable pub field_read : List Numbered → List ℕ → ℕ → ℕ → ℕ → ℕ → List Row → Option (ℕ × ℕ)
field_read ps d left i s p done =
    cond (flat_exists (line_of ps) (inside_of ps) (name_of ps) d i s p done)
    (Some (length (field_done ps d left i s p done), flat_width (line_of ps) (inside_of ps) (name_of ps) d i p done))
    None

-- of the field i, which ends at the bit `end`, is `room` bits wide and has the last row
unfoldable pub inner_done : List Numbered → List ℕ → ℕ → ℕ → ℕ → ℕ → List Row → List Row
inner_done ps d left i end room done =
    flat_packed (line_of ps) (inside_of ps) (name_of ps) d (λ j s rs. field_done ps d left j s (length done) rs) (inner_of ps i) end room done

-- ---- what the two readers answer, and the table t after them

pub record Reads (t : List ℕ) (x : Option (ℕ × ℕ)) (after : List Row) (r : Option (ℕ × ℕ)) : Type 0 where
  pub answer : r ≡ x
  pub rows : Holds t after

pub record Fills (t : List ℕ) (after : List Row) (r : ℕ) : Type 0 where
  pub count : r ≡ length after
  pub rows : Holds t after
