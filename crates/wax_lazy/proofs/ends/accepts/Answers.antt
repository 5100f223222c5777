use Rattle.std.proofs.Common.{chars}
use Rattle.wax_states.specs.States.{places_at}
use Rattle.wax_lazy.proofs.{Ahead.{matches_all, matches_at, matches_none}, Walking.decides_by}
use Rattle.wax_lazy.proofs.ends.accepts.Goals as goal

pub returns-in-To-clause-decides : goal.returns-in-To-clause-decides
returns-in-To-clause-decides c =
    let leads = (rw c.in-To.is at c.in_ok-state.ensures.leads).1 in
    let places = places_at c.follow_text.new.cache.table.states.items c.in-To.state in
    decides_by c.accepts.result _ _ (matches_at c.args.program.now.0 c.args.cache.now.start
    (chars c.args.text.now) places leads) c.accepts.ensures.accepts

pub returns-in-Nothing-clause-decides : goal.returns-in-Nothing-clause-decides
returns-in-Nothing-clause-decides c =
    matches_none c.args.program.now.0 c.args.cache.now.start (chars c.args.text.now)
    (rw c.in-Nothing.is at c.in_ok-state.ensures.leads)

pub returns-in-Everything-clause-decides : goal.returns-in-Everything-clause-decides
returns-in-Everything-clause-decides c =
    matches_all c.args.program.now.0 c.args.cache.now.start (chars c.args.text.now)
    (rw c.in-Everything.is at c.in_ok-state.ensures.leads)
