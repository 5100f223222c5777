use Rattle.std.proofs.Common.{◌≤◌, ℕ, ap, length, refl, sym, ◌∙◌, subst, arith, inl, inr}
use Rattle.wax_lazy.specs.{inner.Cached.AreStepped, inner.Table.{KeepsStates, Leads, own_at}}
use Rattle.wax_states.specs.States.{IsDead, IsTransition, LeadOn, LeadsNext, TakesAll, cell_of_next}
use Rattle.wax_states.specs.States.{places_at, places_or_none}
use Rattle.wax_lazy.proofs.Caches.{cache_filled}
use Rattle.wax_lazy.proofs.Tables.{cell_says, keeps_more, leads_as_part, leads_known, leads_later}
use Rattle.wax_lazy.proofs.Tables.{target_leads, target_parted, next_within, part_takes_all, parts_lead}
use Rattle.wax_lazy.proofs.Tables.{placed_keeps, failure_at, failure_later}
use Rattle.wax_lazy.proofs.cache.Cache.+follow.Goals as goal

pub follow-follow_known-requires : goal.follow-follow_known-requires
follow-follow_known-requires t c =
    let was = c.requires.here.cache in
    let held =
    failure_at c.args.program.now.0 c.args.self.now.table.states.items c.args.self.now.table.cells.items
    c.args.state c.state.result.now c.in-Some.failure was.table c.state.ensures c.in-Some.is in (
      omega (arith, c.decreases, c.if-depth-eq0.false),
      (
        record {
          cache = record {
            size = was.size;
            start = was.start;
            table = was.table;
            wide = was.wide;
            rows = was.rows;
            letters = was.letters;
            first = was.first;
          };
          has_state = held.has_state;
        },
        (omega (arith, c.requires.few), c.requires.most),
      ),
    )

pub follow-returns-in-Everything-clause-kept : goal.follow-returns-in-Everything-clause-kept
follow-returns-in-Everything-clause-kept t c =
    let code = c.args.program.now.0 in
    let was = c.requires.here.cache in
    let old = c.args.self.now.table.states.items in
    let new = c.follow_known.new.self.table.states.items in
    let keeps = c.in_ok-found.ensures.grows.kept in
    let now = c.follow_known.ensures.kept.cache in
    let later = failure_later code old new c.args.self.now.table.cells.items c.args.state c.state.result.now
    c.in-Some.failure was.table c.requires.here.has_state c.state.ensures c.in-Some.is keeps in
    let leads = leads_later code old new c.args.self.now.table.cells.items c.args.state c.state.result.now
    c.in-Some.failure c.args.c c.in-Some-found.next was.table c.state.ensures c.in-Some.is keeps
    (rw c.in-Some-found.is at c.in_ok-found.ensures.leads) in
    let failure = rw c.in-Everything.is at leads in
    let all = part_takes_all code c.args.c (places_at old c.args.state) (places_at new c.in-Some.failure)
    (own_at new c.args.state) later.union failure in
    let here =
    subst (λ z. TakesAll code z c.args.c) (sym (keeps c.args.state c.requires.here.has_state).1) all in
    record {
      cache = cache_filled code c.follow_known.new.self _ c.args.state c.args.c 2 now
          (placed_keeps old new keeps c.args.state c.requires.here.has_state) (inr (inr (inl (refl, here))))
          now.size refl refl c.write.ensures.states c.write.ensures.filled c.write.ensures.unfilled
          c.write.ensures.wide refl now.letters;
      start = c.follow_known.ensures.kept.start;
    }

pub follow-returns-in-Everything-clause-leads : goal.follow-returns-in-Everything-clause-leads
follow-returns-in-Everything-clause-leads t c =
    let code = c.args.program.now.0 in
    let was = c.requires.here.cache in
    let old = c.args.self.now.table.states.items in
    let new = c.follow_known.new.self.table.states.items in
    let keeps = c.in_ok-found.ensures.grows.kept in
    let later = failure_later code old new c.args.self.now.table.cells.items c.args.state c.state.result.now
    c.in-Some.failure was.table c.requires.here.has_state c.state.ensures c.in-Some.is keeps in
    let leads = leads_later code old new c.args.self.now.table.cells.items c.args.state c.state.result.now
    c.in-Some.failure c.args.c c.in-Some-found.next was.table c.state.ensures c.in-Some.is keeps
    (rw c.in-Some-found.is at c.in_ok-found.ensures.leads) in
    let failure = rw c.in-Everything.is at leads in
    let all = part_takes_all code c.args.c (places_at old c.args.state) (places_at new c.in-Some.failure)
    (own_at new c.args.state) later.union failure in
    subst (λ n. LeadsNext code c.write.new.self.states.items (places_at old c.args.state) c.args.c n)
    (sym c.in-Everything.is) all

pub follow-cell_of-requires : goal.follow-cell_of-requires
follow-cell_of-requires t c =
    let code = c.args.program.now.0 in
    let old = c.args.self.now.table.states.items in
    let made = c.follow_known.new.self.table.states.items in
    let few : length made ≤ 65533 =
    omega (arith, c.in_ok-found.ensures.grows.few, c.requires.few, c.if-depth-eq0.false) in
    next_within code made (places_at old c.in-Some.failure) c.args.c c.in-Some-found.next 65533
    (rw c.in-Some-found.is at c.in_ok-found.ensures.leads) few

pub follow-returns-then-not-leads : goal.follow-returns-then-not-leads
follow-returns-then-not-leads t c =
    let code = c.args.program.now.0 in
    let was = c.requires.here.cache in
    let old = c.args.self.now.table.states.items in
    let new = c.step_own.new.self.table.states.items in
    let same = ap (λ z. z.states.items) c.step_own.ensures.table in
    let keeps = subst (KeepsStates old) (sym same) c.in_ok-found.ensures.grows.kept in
    let now = c.step_own.ensures.kept.cache in
    let failure : ℕ = c.in-Some.failure in
    let next = c.in-Some-found.next in
    let here = places_at old c.args.state in
    let later = failure_later code old new c.args.self.now.table.cells.items c.args.state c.state.result.now
    failure was.table c.requires.here.has_state c.state.ensures c.in-Some.is keeps in
    let known = subst (λ z. LeadsNext code z (places_at old failure) c.args.c next)
    (sym same) (rw c.in-Some-found.is at c.in_ok-found.ensures.leads) in
    let part = leads_later code old new c.args.self.now.table.cells.items c.args.state c.state.result.now
    failure c.args.c next was.table c.state.ensures c.in-Some.is keeps known in
    let dead = subst (λ z. IsDead code (own_at z c.args.state) c.args.c) (sym same)
    (c.in_ok-leads.ensures.nowhere c.if-not-leads.true) in
    let leads = leads_as_part code c.args.c here (places_at new failure)
    (own_at new c.args.state) later.union dead new next part in
    let says = subst (λ z. IsTransition code new z c.args.c (cell_of_next next)) (sym
    (keeps c.args.state c.requires.here.has_state).1) (cell_says code new here c.args.c next leads) in
    let written =
    subst (IsTransition code new (places_at new c.args.state) c.args.c) (sym c.cell_of.ensures) says in
    record {
      kept = record {
        cache = cache_filled code c.step_own.new.self _ c.args.state c.args.c c.cell_of.result now
            (placed_keeps old new keeps c.args.state c.requires.here.has_state) written
            now.size refl refl c.write-then-not-leads.ensures.states c.write-then-not-leads.ensures.filled
            c.write-then-not-leads.ensures.unfilled c.write-then-not-leads.ensures.wide refl
            now.letters;
        start = c.step_own.ensures.kept.start ∙ c.follow_known.ensures.kept.start;
      };
      leads = rw c.write-then-not-leads.ensures.states leads;
      grows = record {
        kept = subst (λ z. KeepsStates old z.items) (sym c.write-then-not-leads.ensures.states) keeps;
        few = omega (
          arith,
          ap (λ z. length z.items) c.write-then-not-leads.ensures.states,
          ap length same,
          c.in_ok-found.ensures.grows.few,
        );
      };
      above = omega (arith, c.if-ticks-most.false, c.ticks.ensures, c.step_own.ensures.above);
      steady = omega (arith, c.follow_known.ensures.steady, c.step_own.ensures.steady);
    }

pub follow-enter-requires : goal.follow-enter-requires
follow-enter-requires t c =
    let code = c.args.program.now.0 in
    let was = c.requires.here.cache in
    let old = c.args.self.now.table.states.items in
    let new = c.step_own.new.self.table.states.items in
    let same = ap (λ z. z.states.items) c.step_own.ensures.table in
    let keeps = subst (KeepsStates old) (sym same) c.in_ok-found.ensures.grows.kept in
    let failure : ℕ = c.in-Some.failure in
    let target = c.state-target.result in
    let here = places_at old c.args.state in
    let part = places_at new failure in
    let own = own_at new c.args.state in
    let later = failure_later code old new c.args.self.now.table.cells.items c.args.state c.state.result.now
    failure was.table c.requires.here.has_state c.state.ensures c.in-Some.is keeps in
    let known = subst (λ z. LeadsNext code z (places_at old failure) c.args.c c.in-Some-found.next)
    (sym same) (rw c.in-Some-found.is at c.in_ok-found.ensures.leads) in
    let leads = leads_later code old new c.args.self.now.table.cells.items c.args.state c.state.result.now
    failure c.args.c c.in-Some-found.next was.table c.state.ensures c.in-Some.is keeps known in
    let by = subst (λ z. Leads code new part c.args.c z) (sym c.state-target.ensures)
    (leads_known code new part c.args.c c.in-Some-found.next leads c.in_default-next.not-Everything) in
    let stepped = subst (λ z. AreStepped code z c.args.state target c.args.c c.step_own.new.self) (sym same)
    (c.in_ok-leads.ensures.reaches c.if-not-leads.false) in
    let next =
    parts_lead code c.args.c here part own (places_or_none new target) c.step_own.new.self.reached.items
    later.union (target_leads code new part c.args.c target by) stepped.reached in
    record {
      here = record {
        cache = c.step_own.ensures.kept.cache;
        has_state = placed_keeps old new keeps c.args.state c.requires.here.has_state;
      };
      few =
          omega (
            arith,
            ap length same,
            c.in_ok-found.ensures.grows.few,
            c.requires.few,
            c.if-depth-eq0.false,
          );
      next = subst (λ z. LeadOn code c.args.c z c.step_own.new.self.reached.items)
          (sym (keeps c.args.state c.requires.here.has_state).1) next;
      target = target_parted code new part c.args.c own c.step_own.new.self.reached.items
          c.step_own.new.self.others.items target by stepped.reached stepped.others;
    }

pub follow-returns : goal.follow-returns
follow-returns t c =
    let code = c.args.program.now.0 in
    let old = c.args.self.now.table.states.items in
    let new = c.enter.new.self.table.states.items in
    let same = ap (λ z. z.states.items) c.step_own.ensures.table in
    let keeps = subst (KeepsStates old) (sym same) c.in_ok-found.ensures.grows.kept in
    let more = c.in_ok-enter.ensures.grows in
    record {
      kept = record {
        cache = c.enter.ensures.kept.cache;
        start = c.enter.ensures.kept.start ∙ c.step_own.ensures.kept.start
            ∙ c.follow_known.ensures.kept.start;
      };
      leads = subst (λ z. LeadsNext code new z c.args.c c.in_ok-enter.field-0)
          (keeps c.args.state c.requires.here.has_state).1 c.in_ok-enter.ensures.leads;
      grows = record {
        kept = keeps_more old c.step_own.new.self.table.states.items new keeps more.kept;
        few = omega (arith, ap length same, c.in_ok-found.ensures.grows.few, more.few, c.if-depth-eq0.false);
      };
      above = omega (
        arith,
        c.if-ticks-most.false,
        c.ticks.ensures,
        c.step_own.ensures.above,
        c.enter.ensures.above,
      );
      steady = omega (
        arith,
        c.follow_known.ensures.steady,
        c.step_own.ensures.steady,
        c.enter.ensures.steady,
      );
    }
