use Rattle.std.proofs.Common.{◌∙◌, ap, chars}
use Rattle.wax_facts.proofs.TextSteps.{chars_slash}
use Rattle.wax_facts.proofs.invariant.text_of_leaf.Goals as goal

pub returns-in_ok-from_str-in-Separator : goal.returns-in_ok-from_str-in-Separator
returns-in_ok-from_str-in-Separator c =
    (rw c.in-Separator.is (ap chars c.in_ok-from_str-in-Separator.ensures.ok ∙ chars_slash))
