use Rattle.std.proofs.Common.{map}
use Rattle.wax_directory.proofs.Planting.{tree_stands}
use Rattle.wax_directory.proofs.tree.Tree.from_paths.Goals as goal

pub returns-clause-shows : goal.returns-clause-shows
returns-clause-shows c = λ path.
    tree_stands c.of_nodes.result c.in_ok-working.working c.in_ok-root.root
    (map (λ x. x.now) c.args.paths.now) path c.of_nodes.ensures.nodes.0 c.of_nodes.ensures.nodes.1
    c.in_ok-working.ensures.stands c.in_ok-root.ensures.stands c.in_ok-working.ensures.distinct
    c.in_ok-root.ensures.distinct
