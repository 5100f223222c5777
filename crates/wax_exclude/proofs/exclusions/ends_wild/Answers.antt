use Rattle.std.proofs.Common.{◌∙◌, ap, sym}
use Rattle.std.specs.Option.{option_copied}
use Rattle.wax_exclude.specs.Covers.{ends_wild}
use Rattle.wax_exclude.proofs.Steps.{wild_last}
use Rattle.wax_exclude.proofs.exclusions.ends_wild.Goals as goal

pub returns-in-Some : goal.returns-in-Some
returns-in-Some c =
    c.is_tree_wildcard.ensures
    ∙ sym (wild_last c.concatenation.result.now c.in-Some.last.now
    (sym c.last.ensures.value ∙ ap option_copied c.in-Some.is))
    ∙ ap ends_wild c.concatenation.ensures
