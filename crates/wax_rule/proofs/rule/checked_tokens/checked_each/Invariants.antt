use Rattle.std.proofs.Common.{◌≡◌, ◌++◌, length}
use Rattle.std.specs.Vec.Iter.{into_iter_items, into_iter_len}
use Rattle.wax_rule.proofs.rule.checked_tokens.checked_each.Given as goal

-- the parts that were taken over, and those that are left
abbrev pub invariant-loop-token : goal.invariant-loop-token
invariant-loop-token l = record {
  items : l.all.items ++ into_iter_items l.token-iterator ≡ l.fn.tokens.items;
  count : into_iter_len l.token-iterator ≡ length (into_iter_items l.token-iterator);
}
