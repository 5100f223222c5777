use Rattle.wax_filter.proofs.Separating.{answered}
use Rattle.wax_filter.proofs.filter.separation.Separation.filter_tree_by_substituent.Goals as goal

pub returns-in-Some-clause-separates : goal.returns-in-Some-clause-separates
returns-in-Some-clause-separates g c = (
  c.in-Some.said,
  answered _ _ c.substituent.result c.in-Some.said c.substituent.ensures c.in-Some.is,
  c.separated_by.ensures.separates,
  c.separated_by.ensures.cancels,
)
