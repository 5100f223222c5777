use Rattle.std.proofs.Common.{◌∙◌, ap, subst, sym, true}
use Rattle.std.specs.List.{All, Contains}
use Rattle.wax_components.proofs.{AllParts.has_each, Runs.components_are_longest}
use Rattle.wax_components.specs.{Parts.{IsComponent, components_in}, TopLevel.tokens_of}
use Rattle.wax_components.proofs.parts.components.Goals as goal

pub returns-clause-longest : goal.returns-clause-longest
returns-clause-longest g c =
    subst (All (IsComponent (tokens_of c.args.token.now)))
    (sym (c.in_ok-components_in.ensures ∙ ap (components_in true) c.top_level.ensures))
    (components_are_longest (tokens_of c.args.token.now))

pub returns-clause-each : goal.returns-clause-each
returns-clause-each g c = λ part h.
    subst (λ parts. Contains parts part)
    (sym (c.in_ok-components_in.ensures ∙ ap (components_in true) c.top_level.ensures))
    (has_each (tokens_of c.args.token.now) part h)
