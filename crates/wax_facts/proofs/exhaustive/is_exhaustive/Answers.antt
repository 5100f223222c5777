use Rattle.std.proofs.Common.{sym, ◌∙◌, false}
use Rattle.wax_facts.proofs.Exhaustives.{exhaustive_sound}
use Rattle.wax_facts.proofs.exhaustive.is_exhaustive.Goals as goal

pub returns-clause-always : goal.returns-clause-always
returns-clause-always g c =
    λ e s r m. exhaustive_sound r c.args.token.now (sym c.exhaustive_of.ensures ∙ e) false s m
