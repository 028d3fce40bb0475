use Rattle.std.proofs.Common.{rules}
use Rattle.command.proofs.Decoding.{accepted_laws}
use Rattle.command.proofs.decode_accepted.Goals as goal

pub returns-then-size-gt-MOST_FRAME : goal.returns-then-size-gt-MOST_FRAME
returns-then-size-gt-MOST_FRAME c = search (rules, accepted_laws)

pub returns-then-size-lt2 : goal.returns-then-size-lt2
returns-then-size-lt2 c = search (rules, accepted_laws)

pub decode_by-requires : goal.decode_by-requires
decode_by-requires c = search (rules, accepted_laws)

pub returns-then-text-le-SHORT : goal.returns-then-text-le-SHORT
returns-then-text-le-SHORT c = search (rules, accepted_laws)

pub decode_by-requires-2 : goal.decode_by-requires-2
decode_by-requires-2 c = search (rules, accepted_laws)

pub returns : goal.returns
returns c = search (rules, accepted_laws)
