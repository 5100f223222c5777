use Rattle.std.proofs.Common.{◌≡◌, ◌∙◌, [], arith, length}
use Rattle.wax_states.proofs.Listings.{joined_nothing, lists_sorted, numbers_ascend, reached_listed}
use Rattle.wax_states.proofs.Listings.{same_sorted}
use Rattle.wax_states.proofs.stepper.Stepper.reach.Goals as goal

pub returns-clause-reaches : goal.returns-clause-reaches
returns-clause-reaches c =
    let code = c.args.program.now.0 in
    let loaded = c.load.new.self in
    let sized : loaded.size ≡ length code = c.load.ensures.size ∙ c.self.view_is ∙ c.requires in
    let next = c.advance.new.sets.next in
    reached_listed code c.args.places.now loaded.size loaded.pending sized c.load.ensures.loaded c.args.c []
    c.dedup.new.self.items next next c.advance.ensures.advances (joined_nothing next loaded.size)
    (lists_sorted c.list_next-listed.new.places.items c.sort_unstable.new.self.items c.dedup.new.self.items
    next c.sort_unstable.ensures.permutation c.dedup.ensures.filtered c.in_ok-listed.ensures.lists)

pub returns-clause-ascending : goal.returns-clause-ascending
returns-clause-ascending c = numbers_ascend c.sort_unstable.new.self.items c.dedup.new.self.items
    c.sort_unstable.ensures.sorted c.dedup.ensures.filtered

pub returns-clause-within : goal.returns-clause-within
returns-clause-within c = λ k h.
    let loaded = c.load.new.self in
    let sized : loaded.size ≡ length c.args.program.now.0 =
    c.load.ensures.size ∙ c.self.view_is ∙ c.requires in
    let same = same_sorted c.list_next-listed.new.places.items c.sort_unstable.new.self.items
    c.dedup.new.self.items c.sort_unstable.ensures.permutation c.dedup.ensures.filtered k in
    omega (arith, c.in_ok-listed.ensures.within k (same.0 h), c.advance.ensures.size, sized)
