use Rattle.std.proofs.Common.{◌≡◌, length}
use Rattle.frame_requests.proofs.frame_table.frame_table.Given as goal

abbrev pub invariant-loop-i : goal.invariant-loop-i
invariant-loop-i l = length l.rows ≡ length l.initial.rows
