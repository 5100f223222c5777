use Rattle.std.proofs.Common.{◌≡◌, ◌++◌, drop, map, string_bytes}
use Rattle.wax_directory.specs.Names.{names_in_path}
use Rattle.wax_exclude.proofs.prefixes.names_from_last.Given as goal

abbrev pub invariant-loop-name : goal.invariant-loop-name
invariant-loop-name l = map string_bytes l.copies.items ++ map (λ x. x.now) (drop l.name-index l.name-items)
    ≡ names_in_path l.path
