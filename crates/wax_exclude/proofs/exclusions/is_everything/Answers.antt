use Rattle.std.proofs.Common.{◌≡◌, arith, false, subst, sym}
use Rattle.wax_exclude.specs.Covers.{is_everything}
use Rattle.wax_exclude.proofs.Steps.{not_alone}
use Rattle.wax_exclude.proofs.exclusions.is_everything.Goals as goal

pub returns-in_default-2-clause-value : goal.returns-in_default-2-clause-value
returns-in_default-2-clause-value c =
    sym (subst (λ z. is_everything z ≡ false) c.concatenation.ensures
    (not_alone c.concatenation.result.now (λ e. omega (arith, e, c.in_default.len_at_least))))
