use Rattle.std.proofs.Common.{◌≡◌, ◌≤◌, ◌++◌, length, take, drop}
use Rattle.wax_facts.specs.Situated.{breadth_first}
use Rattle.wax_rule.specs.inner.Queue.{all_levels, only_branches}
use Rattle.wax_rule.proofs.Branches.{listed}
use Rattle.wax_rule.proofs.rule.situated.breadth_first.Given as goal

abbrev pub invariant-loop-from : goal.invariant-loop-from
invariant-loop-from l = record {
  within : l.from ≤ length l.row.items;
  branches : only_branches (drop l.from l.row.items) ≡ drop l.from l.row.items;
  row : take l.from l.row.items ++ only_branches (listed (drop l.from l.row.items))
      ≡ only_branches (breadth_first l.whole);
}

abbrev pub decreases-loop-from : goal.decreases-loop-from
decreases-loop-from l = length (all_levels (drop l.from l.row.items))
