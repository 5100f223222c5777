use Rattle.std.proofs.Common.{◌+◌, ℕ, List, arith, drop, get_or, length}
use Rattle.wax_states.specs.States.{places_at}
use Rattle.wax_lazy.specs.Cost.{char_visits}
use Rattle.wax_lazy.proofs.{Costs.{spent_all, spent_one}, Chains.next_decides, Walking.next_of}
use Rattle.wax_lazy.proofs.following.advance_in.Goals as goal

pub returns-in-Some-clause-decides : goal.returns-in-Some-clause-decides
returns-in-Some-clause-decides c =
    let code = c.args.program.now.0 in
    let text : List ℕ = c.args.text.now in
    let states = c.args.cache.now.table.states.items in
    next_decides code states (places_at states c.args.state) (drop c.args.index text)
    (drop (c.args.index + 1) text) (get_or text c.args.index 0) c.in-Some.next
    (next_of text c.args.index c.requires.within) (c.in-Some.ensures code c.requires.here.cache)

pub returns-in-Some-clause-spent : goal.returns-in-Some-clause-spent
returns-in-Some-clause-spent c = spent_one (char_visits c.args.program.now.0) c.args.index c.args.index
    c.args.meter.now c.args.meter.now c.args.meter.now 0 (omega arith) (omega arith) (omega arith)

pub returns-in-Some-clause-most : goal.returns-in-Some-clause-most
returns-in-Some-clause-most c = spent_all (char_visits c.args.program.now.0) c.args.index c.args.index
    (length c.args.text.now) c.args.meter.now c.args.meter.now (omega arith) (omega arith)
