use Rattle.std.proofs.Common.{◌≡◌, ◌∙◌, rules, subst}
use Rattle.wax_token.specs.{Syntax.{leaf, literal}, Words.annotation_of}
use Rattle.wax.specs.GlobView.{empty_tree}
use Rattle.wax.proofs.Globs.{empty_leaf, leaf_empty, means_nothing, no_bytes, no_text}
use Rattle.wax.proofs.glob.Glob.is_empty.Goals as goal

pub returns-in-Some-Literal-clause-tree : goal.returns-in-Some-Literal-clause-tree
returns-in-Some-Literal-clause-tree c =
    let t = c.token.result.now in
    let l = c.in-Some-Literal.literal in
    let same : t ≡ c.args.self.now.tree = c.token.ensures.same in
    let here : t ≡ leaf (annotation_of t) (literal l.0 l.1) = search rules in (
      λ h. subst (λ z. z ≡ empty_tree) same (leaf_empty t c.token.ensures.kept (annotation_of t) l.0 l.1 here
          (no_bytes c.text.result.now l.1 c.text.ensures (search rules))),
      λ e. (let n = no_text c.text.result.now l.1 c.text.utf8 c.text.ensures
          (empty_leaf t (annotation_of t) l.0 l.1 here (same ∙ e)) in search rules),
    )

pub returns-in-Some-Literal-clause-means : goal.returns-in-Some-Literal-clause-means
returns-in-Some-Literal-clause-means c h =
    means_nothing c.args.self.now.tree ((returns-in-Some-Literal-clause-tree c).0 h)
