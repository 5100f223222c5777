use Rattle.std.proofs.Common.{◌≡◌, map, take}
use Rattle.wax_c.specs.Spans.{wax_spans}
use Rattle.wax_c.proofs.spans.capturing_spans.Given as goal

abbrev pub invariant-loop-index : goal.invariant-loop-index
invariant-loop-index l = l.spans.items ≡ wax_spans (map (λ token. token.1) (take l.index l.tokens.items))
