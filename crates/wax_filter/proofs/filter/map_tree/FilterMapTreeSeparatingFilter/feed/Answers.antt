use Rattle.std.proofs.Common.{refl}
use Rattle.std.specs.Prelude.{Some}
use Rattle.wax_filter.proofs.filter.map_tree.FilterMapTreeSeparatingFilter.feed.Goals as goal

pub returns-clause-steps : goal.returns-clause-steps
returns-clause-steps g c = (
  Some c.in_ok-separation.separation,
  c.feed.new.self,
  c.in_ok-separation.ensures.steps,
  (c.made_of.result, rw c.new-cancellation.ensures.now at c.made_of.ensures.makes, refl),
)
