use Rattle.std.proofs.Common.{rules}
use Rattle.wax_parse.proofs.Runs.{class_more, class_start}
use Rattle.wax_parse.proofs.parse.class.read_archetypes.Goals as goal

pub loop-after-init : goal.loop-after-init
loop-after-init c = (search rules, class_start _ _ c.new-archetypes.ensures.items)

pub loop-after-preserved : goal.loop-after-preserved
loop-after-preserved c = (
  search rules,
  rw c.in_ok-push.ensures.items (class_more _ _ _ _ _ _ c.in_default.ensures c.in-Some-read_archetype.ensures
      c.loop-after.invariant.1.1 c.loop-after.invariant.1.2),
)
