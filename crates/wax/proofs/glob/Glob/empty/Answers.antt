use Rattle.std.proofs.{Common.{◌∙◌, subst}, lemmas.Str.chars-nil}
use Rattle.wax_token.specs.Reads.{Reads}
use Rattle.wax.proofs.Globs.{is_empty_glob}
use Rattle.wax.proofs.glob.Glob.empty.Goals as goal

pub returns-in-Ok : goal.returns-in-Ok
returns-in-Ok c =
    is_empty_glob c.in-Ok.glob (c.in-Ok.ensures.build.expression ∙ chars-nil)
    (subst (λ e. Reads e c.in-Ok.glob.tree) chars-nil c.in-Ok.ensures.build.spells)
