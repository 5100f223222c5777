use Rattle.std.proofs.Common.{◌≡◌, drop}
use Rattle.wax_facts.specs.Rules.{first_that_holds}
use Rattle.wax_rule.proofs.rule.branch.first_that_holds.Given as goal

abbrev pub invariant-loop-row : goal.invariant-loop-row
invariant-loop-row l = first_that_holds (drop l.row-index l.rows) ≡ first_that_holds l.rows
