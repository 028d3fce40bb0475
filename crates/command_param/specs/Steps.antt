-- What the functions answer that read a Q, over the definitions of the rules. The table t, which passes over s rows, becomes t', from row k on.
use Rattle.std.specs.Prelude.{cond, ◌≡◌, List, ℕ, ◌+◌, eqb, length, Option, Some, None}
use Rattle.std.specs.Int.Bits.{bit_and}
use Rattle.records.specs.declared.BodyOffset.{BodyOffset}
use Rattle.command_text.specs.Letters.{letter_t}
use Rattle.command_class.specs.declared.Row.{Row as Line}
use Rattle.command_lengths.specs.Entries.{earlier}
use Rattle.command_rules.specs.Lengths.{masked, wanted, Agrees}
use Rattle.command_rules.specs.declared.Earlier.{Earlier}
use Rattle.command_rules.specs.declared.Length.{Length}
use Rattle.command_rules.specs.Field.{Field}
use Rattle.command_rows.specs.Rows.{written}
use Rattle.command_rules.specs.Param.{size_at, param_rows, param_entry}
use Rattle.command_param.specs.declared.Wrote.{Wrote}
use Rattle.command_param.specs.declared.Param.{Param}

-- the value of a T or S line, by the numbers of the line
abbrev pub bit_number : ℕ → Line → ℕ
bit_number b l = cond (eqb l.kind letter_t) (cond (eqb (bit_and b l.mask) 0) 0 1) (masked b l.mask (record { 0 = l.shift }))

-- a Q of this length is written, its own row as row n
pub record WritesParam (body : List ℕ) (q : Field) (at : ℕ) (size : Length) (n parent s : ℕ) (t t' : List ℕ) (r : Wrote) : Type 0 where
  pub rows : t' ≡ written s t 0 (param_rows body q at size n parent)
  pub count : r.count ≡ length (param_rows body q at size n parent)
  pub entry : earlier r.entry ≡ param_entry body at size.taken

module _ (body : List ℕ) (q : Field) (es : List Earlier) (at n parent s : ℕ) (t : List ℕ) (k : ℕ) (t' : List ℕ) where
  -- a Q is there: where it ends, that its length agrees with what it wanted (L4), which entry it is, how many rows it has
  pub record IsRead (e : BodyOffset) (x c : ℕ) : Type 0 where
    pub size : Length
    pub there : size_at body q es at ≡ Some size
    pub end : e.0 ≡ at + size.taken
    pub agrees : Agrees (wanted q.rule es) size
    pub entry : earlier x ≡ param_entry body at size.taken
    pub count : c ≡ length (param_rows body q at size n parent)
    pub rows : t' ≡ written s t k (param_rows body q at size n parent)

  -- it is not there
  pub record IsAbsent : Type 0 where
    pub there : size_at body q es at ≡ None
    pub rows : t' ≡ t

  abbrev pub ReadsParam : Option Param → Type 0
  ReadsParam (Some p) = IsRead p.end p.entry p.count
  ReadsParam None = IsAbsent
