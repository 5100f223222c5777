use Rattle.std.proofs.Common.{refl, sym, true≢false}
use Rattle.wax_program.proofs.Others.{none_found, none_more, one_found}
use Rattle.wax_program.proofs.instruction.list_other.Goals as goal

pub loop-archetype-preserved : goal.loop-archetype-preserved
loop-archetype-preserved c =
    none_more c.args.archetypes.now c.loop-archetype.archetype-index _ c.has_other.result
    c.loop-archetype-test.true c.requires c.has_other.ensures c.if-has_other.false c.loop-archetype.invariant

pub returns-then-has_other : goal.returns-then-has_other
returns-then-has_other c = (
  (λ t. one_found c.args.archetypes.now c.loop-archetype.archetype-index _ c.has_other.result
      c.loop-archetype-test.true c.requires c.has_other.ensures c.if-has_other.true),
  (λ h. refl),
)

pub returns : goal.returns
returns c = (
  (λ t. absurd (true≢false (sym t))),
  (λ h. absurd (none_found c.args.archetypes.now c.loop-archetype.archetype-index c.loop-archetype-test.false
      c.loop-archetype.invariant h)),
)
