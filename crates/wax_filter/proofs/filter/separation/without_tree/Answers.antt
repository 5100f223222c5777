use Rattle.std.proofs.Common.{rules, refl}
use Rattle.wax_filter.proofs.filter.separation.without_tree.Goals as goal

pub returns-in-Filtrate-clause-separates : goal.returns-in-Filtrate-clause-separates
returns-in-Filtrate-clause-separates g c =
    let h = c.filter_tree.ensures.gives in
    rw c.in-Filtrate.is (c.filter_tree.result, h.0, h.1, h.2, refl)

pub returns-in-Node-clause-separates : goal.returns-in-Node-clause-separates
returns-in-Node-clause-separates g c = rw c.in-Residue.is (c.new.result, search rules, refl)

pub returns-in-Tree-clause-separates : goal.returns-in-Tree-clause-separates
returns-in-Tree-clause-separates g c = rw c.in-Residue.is (c.new-in-Tree.result, search rules, refl)
