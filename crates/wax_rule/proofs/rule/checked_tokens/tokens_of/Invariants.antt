use Rattle.std.proofs.Common.{◌≡◌, ◌++◌, length, map}
use Rattle.std.specs.{List.Contains, Vec.Iter.{into_iter_items, into_iter_len}}
use Rattle.wax_rule.specs.Keeping.{KeepsRules}
use Rattle.wax_token.specs.{Reads.Span, Syntax.Tree}
use Rattle.wax_rule.proofs.rule.checked_tokens.tokens_of.Given as goal

-- the tokens that were taken, and those that are left
abbrev pub invariant-loop-checked : goal.invariant-loop-checked
invariant-loop-checked g l = record {
  items : l.tokens.items ++ map g.T.TokenTree.token (into_iter_items l.checked-iterator)
      ≡ map g.T.TokenTree.token l.fn.all.items;
  count : into_iter_len l.checked-iterator ≡ length (into_iter_items l.checked-iterator);
  rules : (t : Tree Span) → Contains l.tokens.items t → KeepsRules t;
}
