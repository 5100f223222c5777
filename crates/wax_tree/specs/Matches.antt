-- What contracts see of entries that a glob matches.
use Rattle.std.specs.Prelude.{ℕ, List, Option, Some, None, Result, Ok, Err, chars}
use Rattle.wax_query.specs.Matched.{MatchedView, IsMatchOf}
use Rattle.wax_filter.specs.declared.filter.separation.Separation.{Separation}
use Rattle.wax_filter.specs.declared.filter.separation.Separation.TheVariants.{Filtrate, Residue}
use Rattle.wax_filter.specs.{declared.filter.tree_residue.TreeResidue.TreeResidue, Leaving.residue_item}
use Rattle.wax_walk.specs.{declared.entry.TreeEntry.TreeEntry, declared.error.WalkError.WalkError}
use Rattle.wax_walk.specs.{Entries.facts_of, Given.Facts}
use Rattle.wax_tree.specs.declared.glob_walk.entry.GlobEntry.{GlobEntry}

-- the entry as one of a plain walk, and what was captured of it
abbrev pub tree_entry : GlobEntry → TreeEntry
tree_entry e = e.entry

abbrev pub match_of : GlobEntry → MatchedView
match_of e = e.matched

abbrev pub glob_facts : GlobEntry → Facts
glob_facts e = facts_of (tree_entry e)

-- the entry of an item, if it isn't an error
abbrev pub shown_outcome : Result GlobEntry WalkError → Option TreeEntry
shown_outcome (Ok e) = Some (tree_entry e)
shown_outcome (Err e) = None

abbrev pub shown_entry : {S : Type 0} → Separation S (Result GlobEntry WalkError) (TreeResidue TreeEntry)
    → Option TreeEntry
shown_entry (Filtrate x) = shown_outcome x.inner
shown_entry (Residue x) = Some (residue_item x.inner)

-- the captures of an entry are those of its candidate
abbrev pub IsMatchedEntry : (List ℕ → Type 0) → (List ℕ → List (List ℕ) → Type 0) → GlobEntry → Type 0
IsMatchedEntry Means Captured e =
    IsMatchOf Means Captured (chars (glob_facts e).candidate) (Some (match_of e))
