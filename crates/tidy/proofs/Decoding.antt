-- Decoding by the tidied text is decoding by the text. Assumes nothing.
use mathlib.Core.Path.{◌≡◌}
use mathlib.Core.List.{List}
use Prim.Native.Nat.{ℕ}
use lib.ListN.{length}
use Rattle.command.specs.Answer.{Told, answer_of, Decodes}
use Rattle.command_rules.specs.declared.Offsets.{Offsets}
use Rattle.tidy.specs.Tidy.{tidied}
use Rattle.tidy.proofs.TidiedText.{tidied-verdict, tidied-definition}

-- U4: every payload and every table: the same answer
pub same_answer : (offsets : Offsets) (t payload : List ℕ) (room : ℕ) → answer_of offsets (tidied t) payload room ≡ answer_of offsets t payload room
unfolding answer_of
same_answer offsets t payload room = rw (tidied-verdict t, tidied-definition t)

-- U4: and what a call by the tidied text answers and leaves of a table, one by the text does
pub same_rows : (offsets : Offsets) (t payload table : List ℕ) (r : Told) (table' : List ℕ) → Decodes offsets (tidied t) payload table r table'
    → Decodes offsets t payload table r table'
same_rows offsets t payload table r table' d = record {
  answer = rw (same_answer offsets t payload (length table)) at d.answer;
  table_is = rw (tidied-definition t) at d.table_is;
  adds = rw (tidied-definition t) at d.adds;
}
