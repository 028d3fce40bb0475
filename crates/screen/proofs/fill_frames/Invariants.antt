-- A turn fills record i from row i: the first i records are filled.
use Rattle.std.proofs.Common.{◌≡◌}
use Rattle.screen.specs.Screen.{filled}
use Rattle.screen.proofs.fill_frames.Given as goal

abbrev pub invariant-loop-i : goal.invariant-loop-i
invariant-loop-i l = l.frames ≡ filled l.i l.rows l.initial.frames
