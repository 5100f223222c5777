use Rattle.std.proofs.Common.{◌≡◌, ◌++◌, length, map, string_bytes}
use Rattle.wax_tree.specs.Prefix.{from_last}
use Rattle.wax_exclude.proofs.prefixes.shared_names.Given as goal

abbrev pub invariant-loop-name : goal.invariant-loop-name
invariant-loop-name l =
    (from_last l.initial.names.items ≡ map string_bytes l.shared.items ++ from_last l.names.items)
    × (from_last l.initial.others.items ≡ map string_bytes l.shared.items ++ from_last l.others.items)

abbrev pub decreases-loop-name : goal.decreases-loop-name
decreases-loop-name l = length (from_last l.names.items)
