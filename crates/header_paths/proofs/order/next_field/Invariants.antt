use Rattle.header_paths.proofs.Choice.{Choosing}
use Rattle.header_paths.proofs.order.next_field.Given as goal

abbrev pub invariant-loop-j : goal.invariant-loop-j
invariant-loop-j l = Choosing l.fields l.count l.level l.first l.order l.place l.best l.least l.j
