use Rattle.std.proofs.Common.{◌≡◌, Some, map, drop}
use Rattle.wax_directory.specs.Nodes.{node_at, reached}
use Rattle.wax_directory.proofs.tree.Node.locate.Given as goal

abbrev pub invariant-loop-name : goal.invariant-loop-name
invariant-loop-name l =
    (reached (map (λ x. x.now) (drop l.name-index l.names)) l.node ≡ reached (map (λ x. x.now) l.names)
    l.self) × (node_at l.places.items l.self ≡ Some l.node)
