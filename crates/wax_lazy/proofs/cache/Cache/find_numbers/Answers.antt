use Rattle.std.proofs.Common.{IfOk, Some, subst, sym, ◌∙◌}
use Rattle.wax_lazy.proofs.{Joining.joined_keeps, Tables.{known_are, placed_keeps, places_keep}}
use Rattle.wax_lazy.specs.{inner.Cached.numbers_at, inner.Table.{AreNumbersOf, KeepsStates, numbers_in}}
use Rattle.wax_states.specs.States.{HasState, places_at, places_in}
use Rattle.wax_lazy.proofs.cache.Cache.find_numbers.Goals as goal

pub returns-then-is_some-clause-numbers : goal.returns-then-is_some-clause-numbers
returns-then-is_some-clause-numbers c =
    let code = c.args.program.now.0 in
    let s = c.state.result.now in
    let are = known_are code s.places.items s.numbers (sym c.is_some.ensures ∙ c.if-is_some.true)
    (c.requires.here.cache.table.rows c.args.state s c.state.ensures).numbers in
    subst (λ o. AreNumbersOf code (places_in o) (numbers_in o)) (sym c.state.ensures) are

pub returns-then-rest-state-clause-numbers : goal.returns-then-rest-state-clause-numbers
returns-then-rest-state-clause-numbers c =
    let code = c.args.program.now.0 in
    let found = c.find_all_numbers-2.new.self in
    let known = subst (λ z. AreNumbersOf code (places_at z.states.items c.in_ok-rest.rest)
    (numbers_at found (Some c.in_ok-rest.rest))) c.list_own_numbers.ensures.table
    c.in_ok-find_all_numbers.ensures.numbers in
    let old = c.args.self.now.table.states.items in
    subst (λ t. AreNumbersOf code (places_at old t) (numbers_at found (Some t))) c.if-rest-state.true known

pub join_numbers-requires-clause-here : goal.join_numbers-requires-clause-here
join_numbers-requires-clause-here c =
    let old = c.args.self.now.table.states.items in
    let new = c.find_all_numbers-2.new.self.table.states.items in
    let keeps = subst (λ z. KeepsStates z.states.items new) c.list_own_numbers.ensures.table
    c.find_all_numbers-2.ensures.states in
    record {
      cache = c.find_all_numbers-2.ensures.kept.cache;
      has_state = placed_keeps old new keeps c.args.state c.requires.here.has_state;
    }

pub join_numbers-requires-clause-joined : goal.join_numbers-requires-clause-joined
join_numbers-requires-clause-joined c =
    let old = c.args.self.now.table.states.items in
    let new = c.find_all_numbers-2.new.self.table.states.items in
    let keeps = subst (λ z. KeepsStates z.states.items new) c.list_own_numbers.ensures.table
    c.find_all_numbers-2.ensures.states in
    joined_keeps c.args.program.now.0 old new keeps c.args.state c.in_ok-rest.rest
    c.list_own_numbers.new.own.items c.requires.here.has_state c.in_ok-rest.ensures.has_state
    c.in_ok-rest.ensures.joined

pub join_numbers-requires-clause-known : goal.join_numbers-requires-clause-known
join_numbers-requires-clause-known c =
    let code = c.args.program.now.0 in
    let mid = c.list_own_numbers.new.self.table.states.items in
    let found = c.find_all_numbers-2.new.self in
    let rest = c.in_ok-rest.rest in
    let has = subst (λ z. HasState z.states.items rest) (sym c.list_own_numbers.ensures.table)
    c.in_ok-rest.ensures.has_state in
    subst (λ z. AreNumbersOf code z (numbers_at found (Some rest)))
    (sym (places_keep mid found.table.states.items c.find_all_numbers-2.ensures.states rest has))
    c.in_ok-find_all_numbers.ensures.numbers

pub returns-clause-numbers : goal.returns-clause-numbers
returns-clause-numbers c =
    let code = c.args.program.now.0 in
    let old = c.args.self.now.table.states.items in
    let new = c.find_all_numbers-2.new.self.table.states.items in
    let keeps = subst (λ z. KeepsStates z.states.items new) c.list_own_numbers.ensures.table
    c.find_all_numbers-2.ensures.states in
    subst (λ z. IfOk c.join_numbers.result
    (λ _. AreNumbersOf code z (numbers_at c.join_numbers.new.self (Some c.args.state))))
    (places_keep old new keeps c.args.state c.requires.here.has_state) c.join_numbers.ensures.numbers
