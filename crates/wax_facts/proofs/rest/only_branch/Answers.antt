use Rattle.std.proofs.Common.{◌≢◌, length, sym, rules}
use Rattle.wax_facts.proofs.Openings.{closed_branches}
use Rattle.wax_facts.proofs.rest.only_branch.Goals as goal

pub returns-then-len-ne1 : goal.returns-then-len-ne1
returns-then-len-ne1 c = λ s.
    let n : length c.args.branches.items ≢ 1 = search rules in
    sym (closed_branches s c.args.branches.items n)
