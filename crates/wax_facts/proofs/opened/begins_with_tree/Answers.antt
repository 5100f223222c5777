use Rattle.std.proofs.Common.{◌≡◌, ◌∙◌, ap, Some, slice_get, rules}
use Rattle.wax_token.specs.Words.{trees}
use Rattle.wax_facts.specs.{Prefix.{opened, opened_last}, Rest.begins_with_tree}
use Rattle.wax_facts.proofs.Openings.{first_tree, opened_members}
use Rattle.wax_facts.proofs.opened.begins_with_tree.Goals as goal

pub returns-in-Some : goal.returns-in-Some
returns-in-Some g c =
    let e : opened_last (trees c.opened_from.result.now) ≡ opened c.args.glob.now =
    c.opened_from.ensures.same ∙ ap opened_last c.concatenation.ensures ∙ opened_members c.args.glob.now in
    let f : slice_get c.opened_from.result.now 0 ≡ Some c.in-Some.first.now = search rules in
    c.is_tree_wildcard.ensures ∙ first_tree c.opened_from.result.now c.in-Some.first.now f
    c.opened_from.ensures.open ∙ ap begins_with_tree e
