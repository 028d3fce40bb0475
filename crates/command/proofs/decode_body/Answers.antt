use Rattle.std.proofs.Common.{rules}
use Rattle.command.proofs.Decoding.{body_laws}
use Rattle.command.proofs.decode_body.Goals as goal

pub returns-then-rows-counted : goal.returns-then-rows-counted
returns-then-rows-counted c = search (rules, body_laws)
