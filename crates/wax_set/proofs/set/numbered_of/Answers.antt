use Rattle.std.proofs.{Common.refl, lemmas.Result.IfOk-weaker}
use Rattle.wax_set.proofs.Numbers.{branch_added, branch_counted, branches_shorter, indexed_program}
use Rattle.wax_set.proofs.set.numbered_of.Goals as goal

pub loop-number-preserved : goal.loop-number-preserved
loop-number-preserved c = record {
  indexed = branch_added c.args.branches.now c.loop-number.number c.index-branches-number.result
      c.loop-number.patterns.items c.push.new.self.items _
      c.loop-number-test.true c.index-branches-number.is c.in_ok-push.ensures.items refl refl
      c.loop-number.invariant.indexed;
  length = branch_counted c.args.branches.now c.loop-number.number c.index-branches-number.result
      c.loop-number.patterns.items c.push.new.self.items _
      c.loop-number-test.true c.index-branches-number.is c.in_ok-push.ensures.items refl
      c.loop-number.invariant.length;
}

pub returns-clause-means : goal.returns-clause-means
returns-clause-means c = IfOk-weaker c.compile_numbered.result _ _ (λ p means.
    indexed_program c.args.branches.now c.loop-number.number c.loop-number.patterns.items c.deref.result.now
    p.0 c.loop-number-test.false c.deref.ensures.value
    c.loop-number.invariant.indexed means) c.compile_numbered.ensures.means

pub returns-clause-shorter : goal.returns-clause-shorter
returns-clause-shorter c = IfOk-weaker c.compile_numbered.result _ _ (λ p le.
    branches_shorter c.args.branches.now c.loop-number.number c.loop-number.patterns.items c.deref.result.now
    p.0 c.loop-number-test.false c.deref.ensures.value
    c.loop-number.invariant.length le) c.compile_numbered.ensures.length
