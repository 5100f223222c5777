use Rattle.std.proofs.Common.{IfOk, subst}
use Rattle.wax_lazy.proofs.Costs.{fill_all}
use Rattle.wax_states.specs.States.{LeadsNext}
use Rattle.wax_lazy.proofs.cache.Cache.follow_within.Goals as goal

pub returns-in-None-clause-leads : goal.returns-in-None-clause-leads
returns-in-None-clause-leads c =
    subst (λ z. IfOk c.follow_all-in-None.result (LeadsNext c.args.program.now.0
    c.follow_all-in-None.new.self.table.states.items z c.args.c))
    (c.in_ok-found.ensures.grows.kept c.args.state c.requires.here.has_state).1
    c.follow_all-in-None.ensures.leads

pub returns-then-size-lt-LEAST_PARTED-clause-above : goal.returns-then-size-lt-LEAST_PARTED-clause-above
returns-then-size-lt-LEAST_PARTED-clause-above c = fill_all c.args.program.now.0 c.args.meter.now
    c.follow_all.new.meter c.follow_all.ensures.above c.follow_all.ensures.less
