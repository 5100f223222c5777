use Rattle.wax_tree.proofs.Making.{fed_on, lacking_fed}
use Rattle.wax_tree.proofs.walk_tree.WalkTreeSeparatingFilter.feed.Goals as goal

pub returns-in_err-item-clause-steps : goal.returns-in_err-item-clause-steps
returns-in_err-item-clause-steps g c =
    rw c.from_residual.ensures
    (fed_on g.D.Directory.law c.args.self.now (record c.args.self.now { steps = c.run.new.self }) _
    c.if-self.false c.if-self.false c.in_err-item.ensures.feeds)

pub returns-clause-steps : goal.returns-clause-steps
returns-clause-steps g c =
    rw c.new-2.ensures (fed_on g.D.Directory.law c.args.self.now
    (record c.args.self.now { steps = c.run.new.self }) _ c.if-self.false c.if-self.false
    c.in_ok-item.ensures.feeds)

pub returns-then-self-clause-steps : goal.returns-then-self-clause-steps
returns-then-self-clause-steps g c =
    rw c.new.ensures (lacking_fed g.D.Directory.law c.args.self.now c.if-self.true)
