use Rattle.std.proofs.Common.{IfOk, ◌∙◌, subst, arith}
use Rattle.wax_states.specs.States.{LeadsNext}
use Rattle.wax_lazy.proofs.Caches.{cache_restarted, restarted_one, restarted_place, restarted_places}
use Rattle.wax_lazy.proofs.Tables.{state_at}
use Rattle.wax_lazy.proofs.cache.Cache.fill.Goals as goal

pub follow_within-requires-clause-here : goal.follow_within-requires-clause-here
follow_within-requires-clause-here c =
    let (s, is) = state_at c.args.self.now.table.states.items c.args.state c.requires.here.has_state in
    record {
      cache = cache_restarted c.args.program.now.0 c.args.self.now c.restart.new.self c.requires.here.cache s
          (c.requires.here.cache.table.rows _ s is) (c.in_ok-restart.ensures.ok s is);
      has_state = restarted_place c.args.self.now c.restart.new.self s (c.in_ok-restart.ensures.ok s is);
    }

pub follow_within-requires-clause-few : goal.follow_within-requires-clause-few
follow_within-requires-clause-few c =
    let (s, is) = state_at c.args.self.now.table.states.items c.args.state c.requires.here.has_state in
    omega (arith, restarted_one c.args.self.now c.restart.new.self s (c.in_ok-restart.ensures.ok s is))

pub returns-then-is_full-clause-kept : goal.returns-then-is_full-clause-kept
returns-then-is_full-clause-kept c =
    let (s, is) = state_at c.args.self.now.table.states.items c.args.state c.requires.here.has_state in
    record {
      cache = c.follow_within.ensures.kept.cache;
      start = c.follow_within.ensures.kept.start ∙ (c.in_ok-restart.ensures.ok s is).maker.start;
    }

pub returns-then-is_full-clause-leads : goal.returns-then-is_full-clause-leads
returns-then-is_full-clause-leads c =
    let (s, is) = state_at c.args.self.now.table.states.items c.args.state c.requires.here.has_state in
    let same = restarted_places c.args.self.now c.restart.new.self s
    (c.in_ok-restart.ensures.ok s is) c.args.state is in
    subst (λ z. IfOk c.follow_within.result
    (LeadsNext c.args.program.now.0 c.follow_within.new.self.table.states.items z
    c.args.c)) same c.follow_within.ensures.leads
