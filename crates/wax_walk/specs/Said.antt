use Rattle.std.specs.Prelude.{◌≡◌, ⊤, IfOk, Option, Some, None, Result}
use Rattle.wax_filter.specs.declared.filter.tree_residue.TreeResidue.{TreeResidue}
use Rattle.wax_query.specs.declared.diagnostics.NoMemory.{NoMemory}
use Rattle.wax_walk.specs.declared.iterator.EntryResidue.{EntryResidue}
use Rattle.wax_walk.specs.{declared.iterator.EntryResidue.TheVariants.{File, Tree}, Candidates.Candidate}
use Rattle.wax_walk.specs.Given.{Mark, kept, alone, with_tree}
use Rattle.wax_filter.specs.declared.filter.tree_residue.TreeResidue.TheVariants as residue

abbrev pub mark_of : Option EntryResidue → Mark
mark_of None = kept
mark_of (Some File) = alone
mark_of (Some Tree) = with_tree

-- what a filter excludes, as a residue without an entry
abbrev pub tree_residue : EntryResidue → TreeResidue ⊤
tree_residue File = residue.Node tt
tree_residue Tree = residue.Tree tt

-- A rule was called for a candidate: it returns what it decides about the candidate, unless allocation
-- fails, and it decides about every candidate as before.
pub record RuleStep {A : Type 0} (rule : A → Candidate → Mark) (old new : A) (candidate : Candidate)
    (outcome : Result (Option EntryResidue) NoMemory) : Type 0 where
  pub says : IfOk outcome (λ r. mark_of r ≡ rule old candidate)
  pub same : rule new ≡ rule old
