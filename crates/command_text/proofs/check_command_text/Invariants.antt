use Prim.Native.Nat.{◌-◌}
use lib.ListN.{length}
use Rattle.text.proofs.Judging.{Checked}
use Rattle.command_text.specs.Rules.{rules as text_rules}
use Rattle.command_text.proofs.Keeping.{Tells}
use Rattle.command_text.proofs.check_command_text.Given as goal

abbrev pub invariant-loop-place : goal.invariant-loop-place
invariant-loop-place l = Checked text_rules Tells l.text l.place l.kept

abbrev pub decreases-loop-place : goal.decreases-loop-place
decreases-loop-place l = length l.text - l.place.at
