use Rattle.std.proofs.Common.{rules}
use Rattle.overlaps.proofs.Laws.{led_laws}
use Rattle.overlaps.proofs.fields.is_led.Goals as goal

pub returns-then-e-rest : goal.returns-then-e-rest
returns-then-e-rest c = search (rules, led_laws)
