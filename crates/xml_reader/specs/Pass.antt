-- X10 (docs/RULES.md): the text of a document by passes over its tags, and what the functions of a pass answer.
use Rattle.std.specs.Prelude.{ℕ, ◌≡◌, Bool, true, false, cond, List, [], ◌∷◌, ◌++◌, drop, eqb, Option, Some, None}
use Rattle.frame_kept.specs.Letters.{letter_p, letter_v, letter_e}
use Rattle.xml_schema.specs.Schema.{letter_of}
use Rattle.xml_tags.specs.Tags.{chunks, tag_of, pieces_of}
use Rattle.xml_tags.specs.declared.Tag.{Tag}
use Rattle.xml_tags.specs.declared.Tag.TheVariants.{Bad, Shut, Open}
use Rattle.xml_document.specs.Document.{enter, moved, line_of, items, owns, picked, blocks, ended}
use Rattle.xml_draft.specs.Draft.{Laid}

-- the lines of the tags of x from `at` on, where the first stands in d
abbrev pub items_at : List ℕ → ℕ → ℕ → List (List ℕ)
items_at x d at = items d (chunks false (drop at x))

-- the line of the start tag c of element k, which stands in d
abbrev pub line_bytes : ℕ → ℕ → List ℕ → List ℕ
line_bytes d k c = line_of k (enter d k) (pieces_of c) ++ 0x0a ∷ []

-- ---- a pass writes the lines of a letter, up to the next that owns what follows
abbrev pub picked_at : ℕ → List ℕ → ℕ → ℕ → List ℕ
picked_at w x d at = ended (picked w (items_at x d at))

-- does a pass end at a tag
abbrev pub halts : Tag → Bool
halts (Bad n) = false
halts (Shut k) = false
halts (Open k) = owns (letter_of k)

-- what it writes there
abbrev pub bytes_of : ℕ → ℕ → List ℕ → Tag → List ℕ
bytes_of w d c (Bad n) = []
bytes_of w d c (Shut k) = []
bytes_of w d c (Open k) = cond (eqb (letter_of k) w) (line_bytes d k c) []

abbrev pub Tagged : List ℕ → List ℕ → ℕ → ℕ → List ℕ → ℕ → Tag → Option ℕ → Type 0
Tagged t u n d c w tag None = (halts tag ≡ true) × (u ≡ t)
Tagged t u n d c w tag (Some m) = (halts tag ≡ false) × Laid t u n m (bytes_of w d c tag)

-- ---- what a line owns: three passes
abbrev pub owned_at : List ℕ → ℕ → ℕ → List ℕ
owned_at x d at = picked_at letter_p x d at ++ (picked_at letter_v x d at ++ picked_at letter_e x d at)

-- ---- the blocks of a letter
abbrev pub blocks_at : ℕ → List ℕ → ℕ → ℕ → List ℕ
blocks_at w x d at = ended (blocks w (items_at x d at))

-- what is written of a block at the tag c, behind which the next tag stands at `to`
abbrev pub block_bytes : ℕ → List ℕ → ℕ → ℕ → List ℕ → Tag → List ℕ
block_bytes w x d to c (Bad n) = []
block_bytes w x d to c (Shut k) = []
block_bytes w x d to c (Open k) = cond (eqb (letter_of k) w) (line_bytes d k c ++ owned_at x (moved d c (tag_of c)) to) []
