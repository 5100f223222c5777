use Rattle.std.proofs.Common.{◌≡◌, map, drop, length}
use Rattle.wax_walk.specs.{Candidates.in_characters, Given.combined_mark}
use Rattle.wax_tree.specs.Programs.{any_mark}
use Rattle.wax_tree.proofs.Rules.{so_far}
use Rattle.wax_tree.proofs.glob_walk.filter_any.FilterAnyExclude.residue.Given as goal

-- what was said so far, and what the other rules say
abbrev pub invariant-loop-at : goal.invariant-loop-at
invariant-loop-at g l =
    let candidate = in_characters l.candidate in
    record {
      says : combined_mark (so_far l.is_excluded)
          (any_mark (map g.R.Exclude.rule (drop l.at l.self.rules.items)) candidate)
          ≡ any_mark (map g.R.Exclude.rule l.fn.self.rules.items) candidate;
      many : length l.self.rules.items ≡ length l.fn.self.rules.items;
      same : map g.R.Exclude.rule l.self.rules.items ≡ map g.R.Exclude.rule l.fn.self.rules.items;
    }
