use Rattle.std.proofs.Common.{sym, ap, ◌∙◌}
use Rattle.wax_token.specs.Words.{listed}
use Rattle.wax_components.proofs.TopLevels.{listed_trees}
use Rattle.wax_components.proofs.kinds.top_level.Goals as goal

pub returns : goal.returns
returns g c = sym (listed_trees c.concatenation.result.now) ∙ ap listed c.concatenation.ensures
