use Rattle.wax_rule.proofs.Lined.{pictures_show}
use Rattle.wax_rule.proofs.error.laws.law_of_pictures.Goals as goal

pub returns : goal.returns
returns c = pictures_show
