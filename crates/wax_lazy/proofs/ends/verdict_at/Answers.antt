use Rattle.std.proofs.Common.{◌↔◌, IsTrue, subst, sym}
use Rattle.wax_states.specs.States.{places_at}
use Rattle.wax_lazy.specs.inner.Cached.{AnyAhead}
use Rattle.wax_lazy.proofs.Ahead.{ahead_at, matches_at, verdict_everything, verdict_nothing}
use Rattle.wax_lazy.proofs.Walking.{decides_by}
use Rattle.wax_lazy.proofs.ends.verdict_at.Goals as goal

pub returns-in-To-clause-decides : goal.returns-in-To-clause-decides
returns-in-To-clause-decides c = λ text led.
    let code = c.args.program.now.0 in
    let start = c.args.cache.now.start in
    let states = c.args.cache.now.table.states.items in
    let places = places_at states c.in-To.state in
    let onward = c.args.onward.now in
    let leads = (rw c.in-To.is at led).1 in
    let ahead = subst (λ p. IsTrue c.any_ahead.result ↔ AnyAhead onward c.args.m p)
    (sym c.places.ensures) c.any_ahead.ensures in
    record {
      matches = decides_by c.accepts.result _ _ (matches_at code start text places leads)
          c.accepts.ensures.accepts;
      ahead = decides_by c.any_ahead.result _ _
          (ahead_at code start text places leads c.args.most c.args.m onward c.requires.onward) ahead;
    }

pub returns-in-Nothing-clause-decides : goal.returns-in-Nothing-clause-decides
returns-in-Nothing-clause-decides c = λ text led.
    verdict_nothing c.args.program.now.0 c.args.cache.now.start text c.args.most c.args.m
    (rw c.in-Nothing.is at led)

pub returns-in-Everything-clause-decides : goal.returns-in-Everything-clause-decides
returns-in-Everything-clause-decides c = λ text led.
    verdict_everything c.args.program.now.0 c.args.cache.now.start text c.args.most c.args.m c.has_text.result
    c.has_text.ensures (rw c.in-Everything.is at led)
