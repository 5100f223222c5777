use Rattle.std.proofs.Common.{◌≡◌, ◌++◌, map, drop}
use Rattle.wax_fold.specs.{Order.conjuncts, Walking.walk_entry}
use Rattle.wax_fold.proofs.walk.iterator.push_conjuncts.Given as goal

abbrev pub invariant-loop-child : goal.invariant-loop-child
invariant-loop-child g l =
    map walk_entry l.queue.items ++ conjuncts l.position (map (λ c. c.now) (drop l.child-index l.chosen))
    ≡ map walk_entry l.initial.queue.items ++ conjuncts l.position (map (λ c. c.now) l.chosen)
