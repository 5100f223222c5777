-- What a directory answered: the results of its calls, in order, but for those where allocation failed.
use Rattle.std.specs.Prelude.{ℕ, List, [], ◌∷◌, Option, Some, None, Result, Ok, Err}
use Rattle.wax_query.specs.declared.diagnostics.NoMemory.{NoMemory}
use Rattle.wax_directory.specs.{declared.directory.FileType.FileType, declared.directory.ListItem.ListItem}
use Rattle.wax_directory.specs.declared.directory.DirectoryFault.{DirectoryFault}
use Rattle.wax_directory.specs.declared.directory.DirectoryFault.TheVariants.{Failed, Memory}
use Rattle.wax_directory.specs.{Answers.listed_of, Shown.Listed}

pub data Answer : Type 0 where
  found : List ℕ → FileType → Answer  -- `kind`: this is at the path
  absent : List ℕ → Answer  -- `kind`: nothing is there
  unseen : List ℕ → Answer  -- `kind`: the path can't be read
  opened : List ℕ → Answer  -- `open`: the folder is being listed
  refused : List ℕ → Answer  -- `open`: it can't be listed
  listed : Listed → Answer  -- `next`: an item
  at_end : Answer  -- `next`: no more

abbrev pub kind_answers : List ℕ → Result (Option FileType) DirectoryFault → List Answer
kind_answers path (Ok (Some kind)) = found path kind ∷ []
kind_answers path (Ok None) = absent path ∷ []
kind_answers path (Err Failed) = unseen path ∷ []
kind_answers path (Err Memory) = []

abbrev pub opening_answers : {C : Type 0} → List ℕ → Result C DirectoryFault → List Answer
opening_answers path (Ok cursor) = opened path ∷ []
opening_answers path (Err Failed) = refused path ∷ []
opening_answers path (Err Memory) = []

abbrev pub next_answers : Result (Option ListItem) NoMemory → List Answer
next_answers (Ok (Some x)) = listed (listed_of x) ∷ []
next_answers (Ok None) = at_end ∷ []
next_answers (Err e) = []
