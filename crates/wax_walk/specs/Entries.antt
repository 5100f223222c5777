-- What contracts see of entries and of errors.
use Rattle.std.specs.Prelude.{List, ℕ, Option, Some, None, Result, Ok, Err, string_bytes}
use Rattle.std.specs.declared.io.ErrorKind.{ErrorKind}
use Rattle.wax_filter.specs.declared.filter.separation.Separation.{Separation}
use Rattle.wax_filter.specs.declared.filter.separation.Separation.TheVariants.{Filtrate, Residue}
use Rattle.wax_filter.specs.declared.filter.tree_residue.TreeResidue.{TreeResidue}
use Rattle.wax_filter.specs.declared.filter.tree_residue.TreeResidue.TheVariants.{Node, Tree}
use Rattle.wax_filter.specs.Leaving.{residue_item}
use Rattle.wax_walk.specs.{declared.entry.TreeEntry.TreeEntry, declared.error.WalkError.WalkError}
use Rattle.wax_walk.specs.declared.error.WalkError.TheVariants.{Fault, Memory}
use Rattle.wax_walk.specs.{declared.error.FaultKind.FaultKind, declared.error.WalkErrorKind.WalkErrorKind}
use Rattle.wax_walk.specs.Paths.{PathTexts}
use Rattle.wax_walk.specs.Given.{Facts, Given, entry, fault, no_memory, kept, alone, with_tree}
use Rattle.std.specs.declared.io.ErrorKind.TheVariants as IoKind
use Rattle.wax_walk.specs.declared.error.FaultKind.TheVariants as F
use Rattle.wax_walk.specs.declared.error.WalkErrorKind.TheVariants as K

-- the facts of an entry of a plain walk
abbrev pub facts_of : TreeEntry → Facts
facts_of e = record {
  path = e.at.path;
  root = e.at.root;
  candidate = e.at.candidate;
  depth = e.depth;
  kind = e.kind;
}

abbrev pub entry_texts : Facts → PathTexts
entry_texts f = record { path = f.path; root = f.root; candidate = f.candidate }

-- ---- errors

abbrev pub kind_of_fault : FaultKind → WalkErrorKind
kind_of_fault F.NotFound = K.NotFound
kind_of_fault F.NotAFolder = K.NotAFolder
kind_of_fault F.Listing = K.Listing
kind_of_fault F.BadName = K.BadName
kind_of_fault F.NotText = K.NotText
kind_of_fault F.Budget = K.Budget

abbrev pub error_kind : WalkError → WalkErrorKind
error_kind (Fault kind path depth) = kind_of_fault kind
error_kind Memory = K.Memory

-- the nearest kind of an error of std
abbrev pub io_kind_of : WalkErrorKind → ErrorKind
io_kind_of K.NotFound = IoKind.NotFound
io_kind_of K.NotAFolder = IoKind.NotADirectory
io_kind_of K.Listing = IoKind.Other
io_kind_of K.BadName = IoKind.Other
io_kind_of K.NotText = IoKind.InvalidData
io_kind_of K.Budget = IoKind.Other
io_kind_of K.Memory = IoKind.OutOfMemory

abbrev pub error_path : WalkError → Option (List ℕ)
error_path (Fault kind path depth) = Some (string_bytes path)
error_path Memory = None

abbrev pub error_depth : WalkError → ℕ
error_depth (Fault kind path depth) = depth
error_depth Memory = 0

-- ---- items

-- an error as an item of a walk
abbrev pub given_error : WalkError → Given
given_error (Fault kind path depth) = fault kind (string_bytes path) depth
given_error Memory = no_memory

-- the entry of an item, if it isn't an error
abbrev pub outcome_entry : {A : Type 0} → Result A WalkError → Option A
outcome_entry (Ok e) = Some e
outcome_entry (Err e) = None

abbrev pub entry_in : {S A : Type 0} → Separation S (Result A WalkError) (TreeResidue A) → Option A
entry_in (Filtrate x) = outcome_entry x.inner
entry_in (Residue x) = Some (residue_item x.inner)

module _ {T R : Type 0} (of_entry : T → Facts) (of_residue : R → Facts) where
  -- an entry that is kept, or an error
  abbrev pub given_outcome : Result T WalkError → Given
  given_outcome (Ok e) = entry kept (of_entry e)
  given_outcome (Err e) = given_error e

  -- an entry that is excluded, by itself or with everything below it
  abbrev pub given_residue : TreeResidue R → Given
  given_residue (Node e) = entry alone (of_residue e)
  given_residue (Tree e) = entry with_tree (of_residue e)

  abbrev pub given_of : {S : Type 0} → Separation S (Result T WalkError) (TreeResidue R) → Given
  given_of (Filtrate x) = given_outcome x.inner
  given_of (Residue x) = given_residue x.inner

  abbrev pub answer_of : {S : Type 0} → Option (Separation S (Result T WalkError) (TreeResidue R))
      → Option Given
  answer_of None = None
  answer_of (Some x) = Some (given_of x)
