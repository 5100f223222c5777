use Rattle.std.proofs.Common.{[], Some, chars, refl}
use Rattle.wax_states.specs.States.{places_at}
use Rattle.wax_lazy.proofs.Numbering.{numbers_led, numbers_never, numbers_none}
use Rattle.wax_lazy.specs.inner.Cached.{numbers_at}
use Rattle.wax_lazy.proofs.ends.find_numbers.Goals as goal

pub unreachable-requires : goal.unreachable-requires
unreachable-requires c =
    numbers_never c.args.program.now.0 c.args.cache.now.start (chars c.args.text.now) c.requires.closed
    (rw c.in-Everything.is at c.in_ok-state.ensures.leads)

pub returns-in_ok-find_numbers-in-To-clause-numbers : goal.returns-in_ok-find_numbers-in-To-clause-numbers
returns-in_ok-find_numbers-in-To-clause-numbers c =
    let leads = (rw c.in-To.is at c.in_ok-state.ensures.leads).1 in
    let places = places_at c.follow_text.new.cache.table.states.items c.in-To.state in
    numbers_led c.args.program.now.0 c.args.cache.now.start (chars c.args.text.now) places (numbers_at
    c.find_numbers.new.self (Some c.in-To.state)) leads c.in_ok-find_numbers-in-To.ensures.numbers

pub returns-in-Nothing-clause-numbers : goal.returns-in-Nothing-clause-numbers
returns-in-Nothing-clause-numbers c =
    numbers_none c.args.program.now.0 c.args.cache.now.start (chars c.args.text.now) [] refl
    (rw c.in-Nothing.is at c.in_ok-state.ensures.leads)
