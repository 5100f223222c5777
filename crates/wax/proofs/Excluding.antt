-- What comes of a walk less what a pattern means or what lines ignore.
use Rattle.std.proofs.Common.{◌≡◌, ◌∙◌, List, ap, false, refl, subst, sym}
use Rattle.wax_directory.specs.Law.{Law}
use Rattle.wax_exclude.proofs.Wanting.{comes_excluding}
use Rattle.wax_exclude.specs.{Ignored.{Line, ignore_mark}, Marks.not_mark, GlobRequests.ComesExcluding}
use Rattle.wax_exclude.specs.Wanted.{not_ignored, not_meant}
use Rattle.wax_token.specs.{Reads.Span, Syntax.Tree}
use Rattle.wax_walk.specs.{Candidates.Candidate, Given.Mark, Ruled.ruled_view, View.{IsSeenAs, WalkView}}
use Rattle.wax.specs.Exclusions.{IsExclusionOf, IsWalkExcluding}

-- the walk is without what the pattern means if the rule is that of its tree
pub excludes_pattern : {D : Type 0} (inner outer : WalkView D) (SpellsTree : Tree Span → Type 0)
    (rule : Candidate → Mark) → IsExclusionOf SpellsTree rule → IsSeenAs (ruled_view inner rule false) outer
    → IsWalkExcluding SpellsTree inner outer
excludes_pattern inner outer SpellsTree rule is seen =
    (is.0, is.1, subst (λ r. IsSeenAs (ruled_view inner r false) outer) is.2 seen)

module _ {D C : Type 0} (law : Law D C) (inner outer : WalkView D) where
  -- the tree that is spelled is the only one
  pub comes_excluding_pattern : (SpellsTree : Tree Span → Type 0) (rule : Candidate → Mark)
      → IsExclusionOf SpellsTree rule
      → IsSeenAs (ruled_view inner rule false) outer
      → (t : Tree Span) → SpellsTree t → ComesExcluding law (not_meant t) inner outer
  comes_excluding_pattern SpellsTree rule left seen t spells =
      let same : t ≡ left.0 = left.1.only.1 t spells in
      comes_excluding law (not_meant t) rule inner outer
      (λ c. ap (λ r. r c) (left.2 ∙ ap not_mark (sym same))) seen

  pub comes_ignoring : (lines : List (Line Span))
      → IsSeenAs (ruled_view inner (ignore_mark lines) false) outer
      → ComesExcluding law (not_ignored lines) inner outer
  comes_ignoring lines seen =
      comes_excluding law (not_ignored lines) (ignore_mark lines) inner outer (λ c. refl) seen
