use Rattle.std.proofs.Common.{rules}
use Rattle.command.proofs.Decoding.{body_laws}
use Rattle.command.proofs.write_body.Goals as goal

pub in_payload-requires : goal.in_payload-requires
in_payload-requires c = search (rules, body_laws)

pub returns : goal.returns
returns c = search (rules, body_laws)
