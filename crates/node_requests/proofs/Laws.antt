-- Laws of the answers to requests on nodes. Assumes nothing.
use mathlib.Core.Path.{◌≡◌}
use mathlib.Core.List.{List}
use Prim.Native.Nat.{ℕ, ◌*◌, ◌^◌, ◌<◌}
use native.Mathlib.Omega.{arith}
use lib.ListN.{length}
use mir.Syntax.{w64}
use mir.Val.{Fits}
use Rattle.request.proofs.Laws.{two_laws, request_laws}
use Rattle.request.proofs.RowLaws.{row_laws}
use Rattle.libtap.specs.declared.TapAnswer.{TapAnswer}
use Rattle.libtap.specs.Answers.{Stands}
use Rattle.libtap.proofs.Standing.{node_standing}

pub nodes_fits : (t : List ℕ) (r : TapAnswer) → Stands t r → r.refusal ≡ 0 → length t * 2 < 2 ^ 63 → Fits w64 (r.value * 2)
nodes_fits t r stands z room = omega (arith, stands z)

-- The laws that the proofs of this crate's functions go by.
pub ruleset laws = (request_laws, two_laws, row_laws, nodes_fits, node_standing)
