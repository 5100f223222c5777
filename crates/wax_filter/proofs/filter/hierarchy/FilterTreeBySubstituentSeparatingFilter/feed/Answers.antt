use Rattle.std.proofs.Common.{refl}
use Rattle.std.specs.Prelude.{Some}
use Rattle.wax_filter.proofs.filter.hierarchy.FilterTreeBySubstituentSeparatingFilter.feed.Goals as goal

pub returns-clause-steps : goal.returns-clause-steps
returns-clause-steps g c = (
  Some c.in_ok-separation.separation,
  c.feed.new.self,
  c.in_ok-separation.ensures.steps,
  (
    c.separated_by.result,
    (
      c.said_of-said.result,
      c.said_of-said.ensures.says,
      c.separated_by.ensures.separates,
      rw c.new-cancellation.ensures.now at c.separated_by.ensures.cancels,
    ),
    refl,
  ),
)
