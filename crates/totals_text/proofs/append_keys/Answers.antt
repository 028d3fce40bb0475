use Rattle.std.proofs.Common.{rules}
use Rattle.totals_text.proofs.Laws.{laws}
use Prim.Native.Nat.{◌-◌}
use Rattle.totals_text.proofs.append_keys.Goals as goal

pub returns : goal.returns
returns c = search (rules, laws)
