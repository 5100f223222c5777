use Rattle.std.proofs.Common.{◌∙◌, ap, false, subst}
use Rattle.wax_capture.specs.Pieces.{ArePieces}
use Rattle.wax_prefilter.specs.Compiled.{IsCompiled}
use Rattle.wax_token.specs.Words.{members}
use Rattle.wax.proofs.glob.compiled.Goals as goal

pub invariant_of-result : goal.invariant_of-result
invariant_of-result c = record {
  compiled = subst (λ t. IsCompiled t.token c.in_ok-compiled.compiled) c.as_ref.ensures.same
      c.in_ok-compiled.ensures.compiled;
  split =
      let same = c.concatenation.ensures ∙ ap (λ t. members t.token) c.as_ref.ensures.same in
      subst (λ ts. ArePieces ts false false c.in_ok-pieces.pieces) same c.in_ok-pieces.ensures;
  kept = c.requires;
}
