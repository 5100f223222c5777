use Rattle.std.proofs.Common.{◌≡◌, [], ap}
use Rattle.wax_tree.specs.Prefix.{from_last}
use Rattle.wax_tree.proofs.Making.{begins_plain}
use Rattle.wax_tree.proofs.walk_tree.WalkTree.with_range.Goals as goal

pub returns-clause-begins : goal.returns-clause-begins
returns-clause-begins g c =
    let none : from_last c.new-none.result.items ≡ [] = ap from_last c.new-none.ensures.items in
    begins_plain g.D.Directory.law _ _ _ _ _ none c.to_place.ensures.begins
