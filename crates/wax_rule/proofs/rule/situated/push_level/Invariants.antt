use Rattle.std.proofs.Common.{◌≡◌, ◌++◌, ◌-◌, take, drop}
use Rattle.std.specs.List.{flat_map}
use Rattle.wax_rule.specs.inner.Queue.{children, only_branches}
use Rattle.wax_rule.proofs.rule.situated.push_level.Given as goal

abbrev pub invariant-loop-index : goal.invariant-loop-index
invariant-loop-index l =
    l.row.items ≡ l.initial.row.items
    ++ only_branches (flat_map children (take (l.index - l.from) (drop l.from l.initial.row.items)))
