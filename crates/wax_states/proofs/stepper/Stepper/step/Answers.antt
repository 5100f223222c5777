use Rattle.std.proofs.Common.{◌≡◌, ◌∙◌, [], length}
use Rattle.wax_states.proofs.Listings.{joined_nothing, lists_permuted, reached_listed, reached_nothing}
use Rattle.wax_states.proofs.stepper.Stepper.step.Goals as goal

pub returns-then-leads_nowhere-clause-reaches : goal.returns-then-leads_nowhere-clause-reaches
returns-then-leads_nowhere-clause-reaches c =
    let code = c.args.program.now.0 in
    let loaded = c.load.new.self in
    let sized : loaded.size ≡ length code = c.load.ensures.size ∙ c.self.view_is ∙ c.requires in
    rw c.clear-then-leads_nowhere.ensures.items
    (reached_nothing code c.args.places.now loaded.size loaded.pending sized c.load.ensures.loaded c.args.c
    c.advance.new.sets.next c.advance.ensures.advances (c.leads_nowhere.ensures c.if-leads_nowhere.true))

pub returns-clause-reaches : goal.returns-clause-reaches
returns-clause-reaches c =
    let code = c.args.program.now.0 in
    let loaded = c.load.new.self in
    let sized : loaded.size ≡ length code = c.load.ensures.size ∙ c.self.view_is ∙ c.requires in
    let same : c.add_next.new.self.size ≡ loaded.size = c.add_next.ensures.size ∙ c.advance.ensures.size in
    let listed = lists_permuted c.list_next-listed.new.places.items c.sort_unstable.new.self.items
    c.add_next.new.self.next c.sort_unstable.ensures.permutation c.in_ok-listed.ensures.lists in
    reached_listed code c.args.places.now loaded.size loaded.pending sized c.load.ensures.loaded c.args.c
    c.args.also.now c.sort_unstable.new.self.items
    c.advance.new.sets.next c.add_next.new.self.next c.advance.ensures.advances
    (rw same at c.add_next.ensures.added) listed

pub returns-then-leads_nowhere-clause-own : goal.returns-then-leads_nowhere-clause-own
returns-then-leads_nowhere-clause-own c =
    let code = c.args.program.now.0 in
    let loaded = c.load.new.self in
    let sized : loaded.size ≡ length code = c.load.ensures.size ∙ c.self.view_is ∙ c.requires in
    rw c.clear-then-leads_nowhere-2.ensures.items
    (reached_nothing code c.args.places.now loaded.size loaded.pending sized c.load.ensures.loaded c.args.c
    c.advance.new.sets.next c.advance.ensures.advances (c.leads_nowhere.ensures c.if-leads_nowhere.true))

pub returns-clause-own : goal.returns-clause-own
returns-clause-own c =
    let code = c.args.program.now.0 in
    let loaded = c.load.new.self in
    let sized : loaded.size ≡ length code = c.load.ensures.size ∙ c.self.view_is ∙ c.requires in
    let next = c.advance.new.sets.next in
    reached_listed code c.args.places.now loaded.size loaded.pending sized c.load.ensures.loaded c.args.c []
    c.list_next-listed_own.new.places.items
    next next c.advance.ensures.advances (joined_nothing next loaded.size) c.in_ok-listed_own.ensures.lists
