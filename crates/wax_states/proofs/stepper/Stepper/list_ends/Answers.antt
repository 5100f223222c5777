use Rattle.std.proofs.Common.{◌≡◌, ◌∙◌, length}
use Rattle.wax_states.proofs.Listings.{list_marked, numbers_ascend, numbers_sorted}
use Rattle.wax_states.proofs.stepper.Stepper.list_ends.Goals as goal

pub returns-clause-ends : goal.returns-clause-ends
returns-clause-ends c =
    let code = c.args.program.now.0 in
    let loaded = c.load.new.self in
    let sized : loaded.size ≡ length code = c.load.ensures.size ∙ c.self.view_is ∙ c.requires.size in
    numbers_sorted code c.args.places.now c.list_ends-listed.new.numbers.items c.sort_unstable.new.self.items
    c.dedup.new.self.items
    c.sort_unstable.ensures.permutation c.dedup.ensures.filtered
    (list_marked code c.args.places.now loaded c.advance.new.sets c.list_ends-listed.new.numbers.items
    c.requires.closed sized
    (c.advance.ensures.size ∙ sized) c.load.ensures.loaded c.advance.ensures.done c.advance.ensures.round
    c.in_ok-listed.ensures.ends)

pub returns-clause-ascending : goal.returns-clause-ascending
returns-clause-ascending c = numbers_ascend c.sort_unstable.new.self.items c.dedup.new.self.items
    c.sort_unstable.ensures.sorted c.dedup.ensures.filtered
