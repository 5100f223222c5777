use Rattle.std.proofs.Common.{rules}
use Rattle.wax_lengths.proofs.Picking.{slash_before}
use Rattle.wax_lengths.proofs.span.is_after_slash.Goals as goal

pub returns : goal.returns
returns c = search (rules, slash_before)
