use Rattle.std.proofs.Common.{◌≡◌, ◌≤◌}
use Rattle.wax_token.specs.Syntax.{tree_size}
use Rattle.wax_facts.specs.Alternatives.{levels}
use Rattle.wax_facts.proofs.alternatives.opened.opened.Given as goal

abbrev pub invariant-loop-only : goal.invariant-loop-only
invariant-loop-only g l = record {
  levels : levels l.token ≡ levels l.fn.token;
  size : tree_size l.token ≤ tree_size l.fn.token;
}

abbrev pub decreases-loop-only : goal.decreases-loop-only
decreases-loop-only g l = tree_size l.token
