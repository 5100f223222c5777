use Rattle.std.proofs.Common.{◌≡◌, ◌++◌, map, drop, filter}
use Rattle.wax_directory.specs.PathTails.{tail_of, tails_from, starts_at}
use Rattle.wax_directory.proofs.paths.given_paths.Given as goal

abbrev pub invariant-loop-text : goal.invariant-loop-text
invariant-loop-text l =
    l.paths.items ++ map tail_of (filter (starts_at l.at_root) (map (λ x. x.now) (drop l.text-index l.texts)))
    ≡ tails_from l.at_root (map (λ x. x.now) l.texts)
