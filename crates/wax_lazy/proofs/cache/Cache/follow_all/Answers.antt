use Rattle.std.proofs.Common.{arith, refl, sym, subst}
use Rattle.wax_states.specs.States.{LeadOn}
use Rattle.wax_lazy.proofs.Tables.{all_leads}
use Rattle.wax_lazy.proofs.cache.Cache.follow_all.Goals as goal

pub enter-requires-clause-next : goal.enter-requires-clause-next
enter-requires-clause-next c =
    let code = c.args.program.now.0 in
    subst (λ z. LeadOn code c.args.c z c.step.new.reached.items) (sym c.places-places.ensures)
    (all_leads code c.args.c _ _ c.in_ok-step.field-0 c.in_ok-step.ensures.reaches)

pub returns-clause-less : goal.returns-clause-less
returns-clause-less c = λ small. omega (arith, c.step.ensures.above, c.enter.ensures.less small refl)
