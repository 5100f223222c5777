use Rattle.std.proofs.Common.{rules, refl}
use Rattle.wax_filter.proofs.filter.separation.Separation.filter_map_tree.Goals as goal

pub returns-in-Filtrate-clause-separates : goal.returns-in-Filtrate-clause-separates
returns-in-Filtrate-clause-separates g c = let h = c.filter_map_tree.ensures.gives in
    rw c.in-Filtrate.is (c.filter_map_tree.result, h.0, h.1, h.2, refl)

pub returns-in-Node-clause-separates : goal.returns-in-Node-clause-separates
returns-in-Node-clause-separates g c = rw c.in-Residue.is (c.new.result, search rules, refl)

pub returns-clause-separates : goal.returns-clause-separates
returns-clause-separates g c = rw c.in-Residue.is (c.new-in-Tree.result, search rules, refl)
