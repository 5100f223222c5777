use Rattle.std.proofs.Common.{◌≡◌, ◌+◌, ◌<◌, ◌^◌, fold, drop}
use Rattle.wax_query.specs.Spans.{span_union}
use Rattle.wax_token.specs.Words.{annotation_of}
use Rattle.wax_components.specs.Parts.{joint_span}
use Rattle.wax_components.proofs.parts.Component+ExpressionMetadata.span.Given as goal

abbrev pub invariant-loop-token : goal.invariant-loop-token
invariant-loop-token l = record {
  joint : fold (λ s u. span_union s (annotation_of u)) l.span (drop l.token-index l.token-items)
      ≡ joint_span l.self;
  fits : l.span.0 + l.span.1 < 2 ^ 64;
}
