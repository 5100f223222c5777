use Rattle.std.proofs.Common.{◌∙◌, sym}
use Rattle.wax_facts.proofs.Insides.{last_is_body}
use Rattle.wax_facts.proofs.rest.into_last_body.Goals as goal

pub returns : goal.returns
returns c = c.into_body.ensures ∙ sym
    (last_is_body c.args.tokens.items c.pop.new.self.items c.in_ok-pop.field-0 c.in_ok-pop.ensures.items)
