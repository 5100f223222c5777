use Rattle.std.proofs.Common.{◌≡◌, ℕ, List, true, Bor, take}
use Rattle.std.specs.{List.list_any, Str.bytes_eq, HashSet.contains_by}
use Rattle.wax_directory.specs.{Names.are_distinct, Nodes.names_of}
use Rattle.wax_directory.proofs.tree.hold_distinct_names.Given as goal

abbrev pub invariant-loop-item : goal.invariant-loop-item
invariant-loop-item l =
    ((q : Bor (List ℕ)) → contains_by (λ k. bytes_eq q.now k.now) l.seen ≡ list_any (λ x. bytes_eq q.now x)
    (names_of (take l.item-index l.items))) × (are_distinct (names_of (take l.item-index l.items)) ≡ true)
