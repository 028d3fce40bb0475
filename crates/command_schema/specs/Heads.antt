-- The Qs and Gs of a definition one after the other, as the lines stand, and how they make up its entries.
use Rattle.std.specs.Prelude.{ℕ, cond, List, [], ◌∷◌, eqb}
use Rattle.text.specs.Text.{lines}
use Rattle.text.specs.Records.{records}
use Rattle.command_text.specs.Form.{Group, Record, param, group, item, form}
use Rattle.command_class.specs.Definition.{Item, Parameter, Entry, single, repeated, numbered, under}

-- a Q with the lines under it, or a G with its line
pub data Head : Type 0 where
  is_q : Parameter → Head
  is_g : ℕ → Group → Head

-- the line n, which says this, and the lines behind it, of which the heads are hs
abbrev pub onto : ℕ → Record → List Item → List Head → List Head
onto n (param q) is hs = is_q (record { line = n; says = q; items = under is }) ∷ hs
onto n (group g) is hs = is_g n g ∷ hs
onto n (item d) is hs = hs

unfoldable pub heads : List Item → List Head
heads [] = []
heads (i ∷ is) = onto i.line i.says is (heads is)

-- the heads of a text
abbrev pub heads_of : List ℕ → List Head
heads_of t = heads (numbered 1 (records form (lines t)))

-- T32: the members of a G, if these heads follow it
unfoldable pub members_of : List Head → List Parameter
members_of [] = []
members_of (is_q q ∷ hs) = cond (eqb q.says.level 1) (q ∷ members_of hs) []
members_of (is_g n g ∷ hs) = []

-- a Q of level 0 stands by itself, one of level 1 in its group
unfoldable pub entries_of : List Head → List Entry
entries_of [] = []
entries_of (is_q q ∷ hs) = cond (eqb q.says.level 0) (single q ∷ entries_of hs) (entries_of hs)
entries_of (is_g n g ∷ hs) = repeated n g (members_of hs) ∷ entries_of hs
