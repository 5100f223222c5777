use Rattle.std.proofs.Common.{◌≡◌, ◌+◌, ◌∷◌, ℕ, List, arith, drop, length, sym, ◌∙◌, ap}
use Rattle.wax_states.specs.States.{places_at}
use Rattle.wax_lazy.specs.Cost.{char_visits}
use Rattle.wax_lazy.proofs.{Costs.{fill_after, spent_all, spent_one}, Chains.next_decides, Walking.next_of}
use Rattle.wax_lazy.proofs.cache.Cache.advance_far.Goals as goal

pub returns-clause-decides : goal.returns-clause-decides
returns-clause-decides c =
    let text : List ℕ = c.args.text.now in
    let after : List ℕ = drop (c.args.index + 1) text in
    let one : drop c.args.index text ≡ c.from-c.result ∷ after =
    next_of text c.args.index c.requires.within ∙ ap (λ k. k ∷ after) (sym c.from-c.ensures) in
    next_decides c.args.program.now.0 c.fill.new.self.table.states.items
    (places_at c.args.self.now.table.states.items c.args.state) (drop c.args.index text) after
    c.from-c.result c.in_ok-next.next one c.in_ok-next.ensures.leads

pub returns-clause-spent : goal.returns-clause-spent
returns-clause-spent c =
    let code = c.args.program.now.0 in
    let one = fill_after code c.args.meter.now c.chain_taking.new.meter c.fill.new.meter
    c.chain_taking.ensures.above c.chain_taking.ensures.less c.fill.ensures.above in
    spent_one (char_visits code) c.args.index c.args.index c.args.meter.now c.args.meter.now c.fill.new.meter
    (char_visits code) (omega arith) one (omega arith)

pub returns-clause-most : goal.returns-clause-most
returns-clause-most c = spent_all (char_visits c.args.program.now.0) c.args.index (c.args.index + 1)
    (length c.args.text.now) c.args.meter.now c.fill.new.meter (omega (arith, c.requires.within))
    (returns-clause-spent c)

pub returns-in_err-next-clause-most : goal.returns-in_err-next-clause-most
returns-in_err-next-clause-most c =
    let code = c.args.program.now.0 in
    let one = fill_after code c.args.meter.now c.chain_taking.new.meter c.fill.new.meter
    c.chain_taking.ensures.above c.chain_taking.ensures.less c.fill.ensures.above in
    spent_all (char_visits code) c.args.index (c.args.index + 1) (length c.args.text.now) c.args.meter.now
    c.fill.new.meter (omega (arith, c.requires.within))
    (spent_one (char_visits code) c.args.index c.args.index c.args.meter.now c.args.meter.now
    c.fill.new.meter (char_visits code) (omega arith) one (omega arith))
