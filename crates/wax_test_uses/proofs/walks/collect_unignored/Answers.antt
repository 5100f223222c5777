use Rattle.wax.specs.Walks.{not_ignored, request_excluding}
use Rattle.std.proofs.Common.{◌∷◌, []}
use Rattle.wax_test_uses.proofs.walks.collect_unignored.Goals as goal

pub returns-in-Ok-collect : goal.returns-in-Ok-collect
returns-in-Ok-collect g c = (
  c.in-Ok.list,
  c.in-Ok.ensures,
  λ d request s opened comes may shows told.
      c.in-Ok-collect.ensures.wanted d (request_excluding request (not_ignored c.in-Ok.list ∷ [])) s opened
      (c.ignore.ensures.comes d request comes) may shows told,
)
