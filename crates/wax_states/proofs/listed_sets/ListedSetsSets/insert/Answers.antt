use Rattle.wax_states.proofs.Listings.{inserts_here, listed_here}
use Rattle.wax_states.proofs.listed_sets.ListedSetsSets.insert.Goals as goal

pub invariant_of-self : goal.invariant_of-self
invariant_of-self c =
    let s = c.self.inside in
    listed_here s.size s.taken s.here s.next s.read c.self.invariant c.args.at c.if-at-self.true
    c.insert.new.self c.insert.ensures

pub returns-then-at-self : goal.returns-then-at-self
returns-then-at-self c =
    let s = c.self.inside in
    rw (← c.self.view_is) (inserts_here s.size s.taken s.here s.next s.read c.self.invariant c.args.at
    c.if-at-self.true c.insert.new.self c.insert.ensures)
