use Rattle.std.proofs.Common.{◌↔◌, length}
use Rattle.wax_exclude.specs.Prefix.{HasEmptyName}
use Rattle.wax_exclude.proofs.prefixes.has_empty_name.Given as goal

abbrev pub invariant-loop-first : goal.invariant-loop-first
invariant-loop-first l = HasEmptyName l.rest ↔ HasEmptyName l.text

abbrev pub decreases-loop-first : goal.decreases-loop-first
decreases-loop-first l = length l.rest
