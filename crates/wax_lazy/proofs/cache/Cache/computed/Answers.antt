use Rattle.std.proofs.Common.{[], arith, refl, sym, ◌∙◌, subst}
use Rattle.wax_states.specs.States.{HasState, places_at}
use Rattle.wax_lazy.proofs.{Chains.{own_ends, failure_ends, said_ends}, Tables.failure_at, Walking.decides_by}
use Rattle.wax_program.specs.Threads.{AnyAmong}
use Rattle.wax_lazy.proofs.cache.Cache.computed.Goals as goal

pub returns-in-Some-clause-accepts : goal.returns-in-Some-clause-accepts
returns-in-Some-clause-accepts c =
    let l = c.loop-part in
    let held = l.invariant in
    let ends = said_ends c.args.program.now.0 l.self.table.states.items l.self.table.cells.items l.here
    c.state-kept.result.now held.cache.table c.state-kept.ensures c.in-Some.accepts c.in-Some.is in
    decides_by c.in-Some.accepts _ _ (held.same.1, held.same.0) ends

pub returns-then-own_accept-clause-accepts : goal.returns-then-own_accept-clause-accepts
returns-then-own_accept-clause-accepts c =
    let l = c.loop-part in
    let held = l.invariant in
    let all = own_ends c.args.program.now.0 l.self.table.states.items l.self.table.cells.items l.here
    c.state-kept.result.now held.cache.table c.state-kept.ensures c.in-Some-failure.failure
    c.in-Some-failure.is (c.own_accept.ensures.accepts.0 c.if-own_accept.true) in
    ((λ _. held.same.1 all), (λ _. refl))

pub loop-part-preserved : goal.loop-part-preserved
loop-part-preserved c =
    let l = c.loop-part in
    let held = l.invariant in
    let code = c.args.program.now.0 in
    let failure = c.in-Some-failure.failure in
    let parted = failure_at code l.self.table.states.items l.self.table.cells.items l.here
    c.state-kept.result.now failure held.cache.table c.state-kept.ensures c.in-Some-failure.is in
    let ends = failure_ends code l.self.table.states.items l.self.table.cells.items l.here
    c.state-kept.result.now held.cache.table c.state-kept.ensures failure c.own_accept.result
    c.in-Some-failure.is c.if-own_accept.false c.own_accept.ensures.accepts in
    let now = c.own_accept.ensures.table in
    record {
      cache = c.own_accept.ensures.kept.cache;
      start = c.own_accept.ensures.kept.start ∙ held.start;
      table = now ∙ held.table;
      rows = c.own_accept.ensures.rows ∙ held.rows;
      first = c.own_accept.ensures.first ∙ held.first;
      above = omega (arith, c.if-ticks-most.false, c.ticks-in-loop-part.ensures, c.own_accept.ensures.above);
      steady = omega (arith, held.steady, c.own_accept.ensures.steady);
      has_state = subst (λ z. HasState z.states.items failure) (sym now) parted.has_state;
      same = (
        (λ h. subst (λ z. AnyAmong code (places_at z.states.items failure) []) (sym now)
            (ends.0 (held.same.0 h))),
        (λ h. held.same.1 (ends.1 (subst (λ z. AnyAmong code (places_at z.states.items failure) []) now h))),
      );
    }
