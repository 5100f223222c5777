use Rattle.std.proofs.Common.{◌≡◌, ◌∙◌, subst}
use Rattle.wax_token.specs.{Reads.{Reads, Span}, Syntax.Tree}
use Rattle.wax.proofs.Globs.{chars_stars, is_tree_glob}
use Rattle.wax.proofs.glob.Glob.tree.Goals as goal

pub returns-in-Ok : goal.returns-in-Ok
returns-in-Ok c =
    let g = c.in-Ok.glob in
    is_tree_glob g (c.in-Ok.ensures.build.expression ∙ chars_stars)
    (subst (λ e. (t : Tree Span) → Reads e t → t ≡ g.tree) chars_stars c.in-Ok.ensures.build.only)
