-- How the rows are read that an accepted command text is loaded into, and how they are made.
use Rattle.std.specs.Prelude.{ℕ, ◌+◌, ◌*◌, ◌≤◌, ◌<◌, Bool, cond, ◌&&◌, ◌≡◌, List, [], ◌∷◌, eqb, ltb, length, get_or}
use Rattle.rows.specs.Rows.{put}
use Rattle.text.specs.Records.{Readable}
use Rattle.text.specs.declared.Place.{Place}
use Rattle.command_text.specs.Form.{Group, variant}
use Rattle.command_text.specs.Rules.{rules}
use Rattle.command_text.specs.Letters.{letter_q, letter_g}
use Rattle.command_class.specs.Definition.{Parameter, under}
use Rattle.command_class.specs.Find.{from}
use Rattle.command_class.specs.declared.Row.{Row}
use Rattle.command_lengths.specs.Entries.{given}
use Rattle.command_rules.specs.declared.Rule.{Rule}
use Rattle.command_rules.specs.declared.Rule.TheVariants.{Fixed, Open, Counted}
use Rattle.command_rules.specs.Limits.{count_bits, Small}
use Rattle.command_schema.specs.declared.Loaded.{Loaded}
use Rattle.command_schema.specs.declared.items.Gathered.{Gathered}
use Rattle.command_schema.specs.declared.items.Under.{Under}
use Rattle.command_rules.specs.Field.{Field, field_of, rule_of, is_named}
use Rattle.command_schema.specs.Heads.{Head, is_q, is_g, heads_of}
use Rattle.command_schema.specs.Gathered.{Gathers, bitmask_in, array_in, variant_in, open_length, length_number}

-- ---- at most 32 T and S lines under each Q

abbrev pub SmallHead : Head → Type 0
SmallHead (is_q q) = Small q
SmallHead (is_g line g) = Unit {0}

unfoldable pub SmallHeads : List Head → Type 0
SmallHeads [] = Unit {0}
SmallHeads (h ∷ hs) = SmallHead h × SmallHeads hs

-- ---- a loaded row

-- the numbers of a row
abbrev pub loaded_width : ℕ
loaded_width = 12

-- its numbers, in the order of the table
abbrev pub numbers : Loaded → List ℕ
numbers l =
    l.kind ∷ l.level ∷ l.line ∷ l.at ∷ l.optionaloffs ∷ l.optionalmask ∷ l.length ∷ l.paramoffs ∷ l.sizemask ∷ l.sizeoffs ∷ l.bits ∷ l.named ∷ []

-- row i of a table
unfoldable pub loaded_at : List ℕ → ℕ → Loaded
loaded_at d i =
    record {
      kind = get_or d (i * loaded_width) 0;
      level = get_or d (i * loaded_width + 1) 0;
      line = get_or d (i * loaded_width + 2) 0;
      at = get_or d (i * loaded_width + 3) 0;
      optionaloffs = get_or d (i * loaded_width + 4) 0;
      optionalmask = get_or d (i * loaded_width + 5) 0;
      length = get_or d (i * loaded_width + 6) 0;
      paramoffs = get_or d (i * loaded_width + 7) 0;
      sizemask = get_or d (i * loaded_width + 8) 0;
      sizeoffs = get_or d (i * loaded_width + 9) 0;
      bits = get_or d (i * loaded_width + 10) 0;
      named = get_or d (i * loaded_width + 11) 0;
    }

-- what it says of a Q's length
abbrev pub rule_in : Loaded → Rule
rule_in l =
    cond (ltb l.length open_length) (Fixed l.length)
    (cond (eqb l.length open_length) Open (Counted l.paramoffs l.sizemask (record { 0 = l.sizeoffs })))

-- a Q of a group, a Q of the outer list
abbrev pub is_member : Loaded → Bool
is_member l = eqb l.kind letter_q && eqb l.level 1

abbrev pub is_outer : Loaded → Bool
is_outer l = eqb l.kind letter_q && eqb l.level 0

-- the place after the line of a Q
abbrev pub after : Loaded → Place
after l = record { at = l.at; line = l.line + 1 }

-- the Q that it stands for, in the text t
abbrev pub field_in : List ℕ → Loaded → Field
field_in t l =
    record {
      line = l.line;
      offset = given l.optionaloffs;
      mask = given l.optionalmask;
      rule = rule_in l;
      named = eqb l.named 1;
      items = under (from t (after l));
    }

-- the lines under it can be read, and it says how many of them are T and S lines
pub record Stands (t : List ℕ) (l : Loaded) : Type 0 where
  pub readable : Readable rules t (after l)
  pub bits : l.bits ≡ count_bits (under (from t (after l)))
  pub few : l.bits < 65536

-- a row tells a Q
pub record TellsQ (t : List ℕ) (l : Loaded) (q : Parameter) : Type 0 where
  pub kind : l.kind ≡ letter_q
  pub level : l.level ≡ q.says.level
  pub field : field_in t l ≡ field_of q
  pub stands : Stands t l

-- a row tells a G
pub record TellsG (l : Loaded) (line : ℕ) (g : Group) : Type 0 where
  pub kind : l.kind ≡ letter_g
  pub line_is : l.line ≡ line
  pub offset : l.paramoffs ≡ g.offset
  pub mask : l.sizemask ≡ g.mask
  pub shift : l.sizeoffs ≡ g.shift

abbrev pub Tells : List ℕ → Loaded → Head → Type 0
Tells t l (is_q q) = TellsQ t l q
Tells t l (is_g line g) = TellsG l line g

-- the rows of the table d from row i on tell these heads
abbrev pub Told : List ℕ → List ℕ → ℕ → List Head → Type 0
Told t d i [] = Unit {0}
Told t d i (h ∷ hs) = Tells t (loaded_at d i) h × Told t d (i + 1) hs

-- the text t is loaded into n rows of the table d
pub record IsLoaded (t d : List ℕ) (n : ℕ) : Type 0 where
  pub count : n ≡ length (heads_of t)
  pub few : n ≤ 256
  pub size : n * loaded_width ≤ length d
  pub small : SmallHeads (heads_of t)
  pub told : Told t d 0 (heads_of t)

-- ---- the rows that are made

-- the row of a Q that stands at the place p, by the numbers of its line, the place after it and what is gathered of the lines under it
abbrev pub loaded_param : Row → Place → Place → Gathered → Loaded
loaded_param r p next g =
    record {
      kind = letter_q;
      level = r.level;
      line = p.line;
      at = next.at;
      optionaloffs = r.offset;
      optionalmask = r.mask;
      length = length_number (rule_of r.typed (bitmask_in g) (array_in g) (variant_in g));
      paramoffs = g.variant.paramoffs;
      sizemask = g.variant.sizemask;
      sizeoffs = g.variant.sizeoffs;
      bits = g.bits;
      named = cond (is_named r.typed (array_in g) (variant_in g)) 1 0;
    }

-- the row of a G
abbrev pub loaded_group : Row → Place → Loaded
loaded_group r p =
    record {
      kind = letter_g;
      level = 0;
      line = p.line;
      at = 0;
      optionaloffs = 0;
      optionalmask = 0;
      length = 0;
      paramoffs = r.offset;
      sizemask = r.mask;
      sizeoffs = r.shift;
      bits = 0;
      named = 0;
    }

-- a Q is stored as row i, with what is gathered of the lines under it, and the place after them is answered
pub record Stores (t : List ℕ) (p : Place) (row : Row) (next : Place) (i : ℕ) (d : List ℕ) (r : Place) (d' : List ℕ) : Type 0 where
  pub under_it : Under
  pub gathers : Gathers t next under_it
  pub place : r ≡ under_it.next
  pub table : d' ≡ put d (i * loaded_width) (numbers (loaded_param row p next under_it.gathered))
