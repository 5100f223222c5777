use Rattle.std.proofs.Common.{sym, ◌∙◌, subst}
use Rattle.wax_states.specs.States.{places_in}
use Rattle.wax_lazy.proofs.Tables.{known_are}
use Rattle.wax_lazy.specs.inner.Table.{AreNumbersOf, numbers_in}
use Rattle.wax_lazy.proofs.cache.Cache.find_all_numbers.Goals as goal

pub returns-then-is_some-clause-numbers : goal.returns-then-is_some-clause-numbers
returns-then-is_some-clause-numbers c =
    let code = c.args.program.now.0 in
    let s = c.state.result.now in
    let are = known_are code s.places.items s.numbers (sym c.is_some.ensures ∙ c.if-is_some.true)
    (c.requires.here.cache.table.rows c.args.state s c.state.ensures).numbers in
    subst (λ o. AreNumbersOf code (places_in o) (numbers_in o)) (sym c.state.ensures) are

pub keep_numbers-requires-clause-listed : goal.keep_numbers-requires-clause-listed
keep_numbers-requires-clause-listed c =
    let ends = c.in_ok-list_ends.ensures in
    subst (λ z. AreNumbersOf c.args.program.now.0 z c.list_ends.new.numbers.items)
    (sym c.places-places.ensures) (ends.ends, ends.ascending)
