-- Whether a path is ignored, from what is excluded of it.
use Rattle.std.proofs.Common.{◌≡◌, Bool, true, false, not, is_some, Some, None, Option, List, refl, ap, ◌∙◌}
use Rattle.std.proofs.lemmas.Bool.{false≢true, true≢false}
use Rattle.wax_exclude.proofs.Ignored.{ignore_keeps}
use Rattle.wax_exclude.specs.{Ignored.{Line, ignore_mark, is_ignored}, inner.Stacks.keeps}
use Rattle.wax_token.specs.Reads.{Span}
use Rattle.wax_walk.specs.{Candidates.Candidate, Said.mark_of, declared.iterator.EntryResidue.EntryResidue}
use Rattle.wax_walk.specs.declared.iterator.EntryResidue.TheVariants.{File, Tree}

some_excluded : (r : Option EntryResidue) (ignored : Bool) → keeps (mark_of r) ≡ not ignored
    → is_some r ≡ ignored
some_excluded None true h = absurd (true≢false h)
some_excluded None false h = refl
some_excluded (Some File) true h = refl
some_excluded (Some File) false h = absurd (false≢true h)
some_excluded (Some Tree) true h = refl
some_excluded (Some Tree) false h = absurd (false≢true h)

-- something is excluded exactly if the lines ignore the text
pub excluded_if_ignored : (lines : List (Line Span)) (c : Candidate) (r : Option EntryResidue)
    → mark_of r ≡ ignore_mark lines c → is_some r ≡ is_ignored lines c.text
excluded_if_ignored lines c r said =
    some_excluded r (is_ignored lines c.text) (ap keeps said ∙ ignore_keeps lines c)
