use Rattle.std.proofs.Common.{◌∙◌, ◌≤◌, ap, subst, sym}
use Rattle.wax_token.specs.Cost.{program_length}
use Rattle.wax.specs.GlobView.{IsKept}
use Rattle.wax.proofs.glob.Glob.token.Goals as goal

pub returns-clause-same : goal.returns-clause-same
returns-clause-same c = ap (λ t. t.token) c.as_ref.ensures.same ∙ ap (λ g. g.tree) c.self.view_is

pub returns-clause-kept : goal.returns-clause-kept
returns-clause-kept c = subst IsKept (ap (λ t. t.token) (sym c.as_ref.ensures.same)) c.self.invariant.kept

pub returns-clause-fits : goal.returns-clause-fits
returns-clause-fits c = subst (λ t. program_length t ≤ 1048576)
    (ap (λ t. t.token) (sym c.as_ref.ensures.same)) c.self.invariant.compiled.fits
