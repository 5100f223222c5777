use Rattle.std.proofs.Common.{◌≡◌, ◌↔◌, ◌++◌, ◌∷◌, [], ◌∙◌, ap, sym, subst}
use Rattle.wax_match.proofs.EndPieces.{ends_accept}
use Rattle.wax_match.specs.Numbered.{MeansNumbered}
use Rattle.wax_program.specs.{Closed.IsClosed, Machine.{Accepts, mark}}
use Rattle.wax_match.proofs.encode.ends.compile_numbered.Goals as goal

pub returns-clause-means : goal.returns-clause-means
returns-clause-means c = λ number s.
    let e : c.new.result.0 ≡ c.put_numbered.new.self =
    ap (λ p. p.0) c.new.ensures ∙ c.into_instructions-instructions.ensures in
    subst (λ z. Accepts z 0 (s ++ mark number ∷ []) ↔ MeansNumbered c.args.patterns.now number s) (sym e)
    (ends_accept c.in_ok-put_numbered.ensures.written.ends number s)

pub returns-clause-closed : goal.returns-clause-closed
returns-clause-closed c =
    let e : c.new.result.0 ≡ c.put_numbered.new.self =
    ap (λ p. p.0) c.new.ensures ∙ c.into_instructions-instructions.ensures in
    subst IsClosed (sym e)
    (c.in_ok-put_numbered.ensures.written.closed (subst IsClosed (sym c.in_ok-tail.ensures) tt))
