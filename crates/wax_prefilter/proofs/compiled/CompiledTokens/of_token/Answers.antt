use Rattle.wax_prefilter.proofs.Members.{compiled_members}
use Rattle.wax_prefilter.proofs.compiled.CompiledTokens.of_token.Goals as goal

pub returns-clause-compiled : goal.returns-clause-compiled
returns-clause-compiled c =
    compiled_members c.args.token.now _ c.new.result c.concatenation.ensures
    c.new.ensures.means c.new.ensures.length c.new.ensures.longer
