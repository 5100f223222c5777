use Rattle.std.proofs.Common.{◌∙◌, [], true, ap, sym, subst}
use Rattle.wax_states.specs.{Reached.{AreReached, taken_if}, States.{IsDead, LeadOn, places_or_none}}
use Rattle.wax_lazy.specs.inner.Table.{own_in}
use Rattle.wax_lazy.proofs.Tables.{all_leads, nowhere_dead}
use Rattle.wax_lazy.proofs.cache.Cache.step_own.Goals as goal

pub returns-clause-nowhere : goal.returns-clause-nowhere
returns-clause-nowhere c = λ no.
    let code = c.args.program.now.0 in
    let own = ap own_in c.state.ensures ∙ sym c.deref.ensures.value in
    let none = subst (λ b. AreReached code c.args.c c.deref.result.now (taken_if b
    c.places_or_none-also.result.now) c.step.new.reached.items) no c.in_ok-leads.ensures.reaches in
    let empty = subst (λ z. AreReached code c.args.c c.deref.result.now [] z)
    (c.in_ok-leads.ensures.nowhere no) none in
    subst (λ z. IsDead code z c.args.c) (sym own) (nowhere_dead code c.args.c _ empty)

pub returns-clause-reaches : goal.returns-clause-reaches
returns-clause-reaches c = λ yes.
    let code = c.args.program.now.0 in
    let own = ap own_in c.state.ensures ∙ sym c.deref.ensures.value in
    let all = subst (λ b. AreReached code c.args.c c.deref.result.now (taken_if b
    c.places_or_none-also.result.now) c.step.new.reached.items) yes c.in_ok-leads.ensures.reaches in
    let here = subst (λ z. AreReached code c.args.c c.deref.result.now z c.step.new.reached.items)
    (sym c.places_or_none-also.ensures) all in
    record {
      reached = subst (λ z. AreReached code c.args.c z (places_or_none c.args.self.now.table.states.items
          c.args.target) c.step.new.reached.items) (sym own) here;
      others = subst (λ z. LeadOn code c.args.c z c.step.new.own.items) (sym own)
          (all_leads code c.args.c _ _ true c.in_ok-leads.ensures.own);
    }
