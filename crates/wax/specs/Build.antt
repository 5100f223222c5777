-- How the building of a glob ends.
use Rattle.std.specs.Prelude.{◌≡◌, ◌↔◌, ℕ, List, [], codes, Result, Ok, Err}
use Rattle.wax.specs.GlobView.{GlobView, IsMeant, empty_tree}
use Rattle.wax_rule.specs.declared.error.build_error.BuildError.{BuildError}
pub use Rattle.wax_exclude.specs.TreeRequests.{tree_alone}

-- the glob of the empty expression: an empty literal, which means the empty text alone
pub record IsEmptyGlob (g : GlobView) : Type 0 where
  pub expression : g.expression ≡ []
  pub tree : g.tree ≡ empty_tree
  pub means : (text : List ℕ) → IsMeant g text ↔ (text ≡ [])

-- the glob of `**`, which means each text
pub record IsTreeGlob (g : GlobView) : Type 0 where
  pub expression : g.expression ≡ codes "**"
  pub tree : g.tree ≡ tree_alone
  pub means : (text : List ℕ) → IsMeant g text

-- a build without what else was answered with it
abbrev pub build_of : {W : Type 0} → Result (GlobView × W) BuildError → Result GlobView BuildError
build_of (Ok r) = Ok r.0
build_of (Err e) = Err e
