use Rattle.std.proofs.Common.{rules}
use Rattle.header_value.proofs.LookupLaws.{symbol_is}
use Rattle.header_value.proofs.lookup.symbol_text.Goals as goal

pub returns : goal.returns
returns c = search (rules, symbol_is)
