use Rattle.std.proofs.Common.{chars, string_bytes}
use Rattle.wax_token.specs.{Syntax.trees_size, Words.trees}
use Rattle.wax_facts.specs.{Prefix.opened_last, inner.Opening.IsOpened}
use Rattle.wax_facts.proofs.CutSteps.{Taken}
use Rattle.wax_facts.proofs.prefix.cut_prefix.Given as goal

abbrev pub invariant-loop-first : goal.invariant-loop-first
invariant-loop-first g l = record {
  first : IsOpened (trees l.left);
  taken : Taken (opened_last (trees l.tokens)) (opened_last (trees l.left)) l.taken l.cut.0
      (chars (string_bytes l.cut.1)) (chars (string_bytes l.after_slash));
}

abbrev pub decreases-loop-first : goal.decreases-loop-first
decreases-loop-first g l = trees_size (trees l.left)
