use Rattle.std.proofs.Common.{IfOk, sym, subst}
use Rattle.wax_states.specs.States.{LeadsNext, places_or_none}
use Rattle.wax_lazy.proofs.cache.Cache.follow_failure.Goals as goal

pub returns-in-Some-clause-leads : goal.returns-in-Some-clause-leads
returns-in-Some-clause-leads c =
    subst (λ o. IfOk c.follow_cell.result (LeadsNext c.args.program.now.0
    c.follow_cell.new.self.table.states.items (places_or_none c.args.self.now.table.states.items o)
    c.args.c)) (sym c.in-Some.is) c.follow_cell.ensures.leads
