use Rattle.std.proofs.Common.{sym, ◌∙◌, false}
use Rattle.wax_facts.proofs.Roots.{root_sound}
use Rattle.wax_facts.proofs.root.has_root.Goals as goal

pub returns-clause-always : goal.returns-clause-always
returns-clause-always g c = λ e s m. root_sound c.args.token.now (sym c.root_of.ensures ∙ e) false s m
