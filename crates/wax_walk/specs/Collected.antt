-- What a walk yielded, to its end.
use Rattle.std.specs.Prelude.{◌≡◌, Bool, ℕ, ◌+◌, ◌<◌, ◌≤◌, ◌⊎◌, cond, length, List, [], ◌∷◌, ◌++◌, Some, ⊤}
use Rattle.std.specs.List.{Contains}
use Rattle.wax_directory.specs.{Counting.{no_counts, grown, plus}, History.Answer, Law.Law}
use Rattle.wax_directory.specs.declared.tally.Tally.{Tally}
use Rattle.wax_walk.specs.declared.error.FaultKind.TheVariants.{NotAFolder, Budget}
use Rattle.wax_walk.specs.Course.{Course, CutsShort, IsKnownFirst, IsKnownWhole, answers, calls_of, items_of}
use Rattle.wax_walk.specs.Forest.{Pending, all_pending, preorder, listings}
use Rattle.wax_walk.specs.{Given.{Facts, Given, fault, no_memory}, Opened.items_listed}
use Rattle.wax_walk.specs.View.{WalkView, CountsFaults, IsLast, IsErrorAt, IsFolderAt, MayFail, fault_counts}
use Rattle.wax_walk.specs.View.{is_to_open, items_lost, IsMemoryError, MayTake}

-- the items are a prefix of `all`, and then x
abbrev pub IsCutShort : List Given → Given → List Given → Type 0
IsCutShort all x xs = (before : List Given) × (rest : List Given) × (xs ≡ before ++ x ∷ []) ×
    (before ++ rest ≡ all)

-- a walk yielded all that was to come, and listed the folders for it; or a prefix of that and then one error,
-- because allocation failed, or because the budget was reached in a listed folder, which happens only if no
-- fewer items were to be taken than were allowed
pub data Yielded (tells : List (List ℕ) → Type 0) (allowed : ℕ) (p : Pending Given) (xs : List Given) : Type 0
  where
    whole : xs ≡ preorder (all_pending p) → tells (p.listed ++ listings (all_pending p))
        → Yielded tells allowed p xs
    lacks_memory : IsCutShort (preorder (all_pending p)) no_memory xs → Yielded tells allowed p xs
    over_budget : (path : List ℕ) (depth : ℕ) → allowed ≤ p.items
        → Contains (p.listed ++ listings (all_pending p)) path
        → IsCutShort (preorder (all_pending p)) (fault Budget path depth) xs → Yielded tells allowed p xs

-- the errors among these items, as counts of a directory
abbrev pub all_fault_counts : List Given → Tally
all_fault_counts [] = no_counts
all_fault_counts (x ∷ xs) = plus (fault_counts (Some x)) (all_fault_counts xs)

-- at most how many items were taken for these whose faults aren't among them
abbrev pub all_items_lost : List Given → ℕ
all_items_lost [] = 0
all_items_lost (x ∷ xs) = items_lost (Some x) + all_items_lost xs

-- allocation never failed
abbrev pub NoMemoryError : List Given → Type 0
NoMemoryError [] = ⊤
NoMemoryError (x ∷ xs) = ¬ (IsMemoryError (Some x)) × NoMemoryError xs

-- an item that ends a walk is the last of these
abbrev pub EndsThere : List Given → Type 0
EndsThere xs = (before after : List Given) (x : Given) → xs ≡ before ++ x ∷ after → IsLast (Some x)
    → after ≡ []

-- no item ends the walk
abbrev pub NoneLast : List Given → Type 0
NoneLast [] = ⊤
NoneLast (x ∷ xs) = ¬ (IsLast (Some x)) × NoneLast xs

-- how many folders that are opened are among the items, without those that are excluded with everything below
abbrev pub count_to_open : (Facts → Bool) → List Given → ℕ
count_to_open opens [] = 0
count_to_open opens (x ∷ xs) = cond (is_to_open opens x) 1 0 + count_to_open opens xs

-- a folder of this path and depth is among the items, which is opened and not excluded with everything
-- below it
abbrev pub HasFolder : (Facts → Bool) → List ℕ → ℕ → List Given → Type 0
HasFolder opens path depth xs = (x : Given) × Contains xs x × IsFolderAt opens path depth (Some x)

-- each error is of a folder that was yielded before it, or of one of the paths `first`
abbrev pub AreOfFolders : (List ℕ → ℕ → Type 0) → (Facts → Bool) → List Given → Type 0
AreOfFolders first opens xs = (before after : List Given) (x : Given) (path : List ℕ) (depth : ℕ)
    → xs ≡ before ++ x ∷ after → IsErrorAt path depth (Some x)
    → first path depth ⊎ HasFolder opens path depth before

-- the answers and the items are those of a course that was ahead of the walk; or those of its beginning, and
-- then one error came
pub data TookCourse {D : Type 0} (walk : WalkView D) (told : List Answer) (xs : List Given) : Type 0 where
  whole : (c : Course) → MayTake walk c → IsKnownWhole c → told ≡ answers (calls_of c) → xs ≡ items_of c
      → TookCourse walk told xs
  cut_short : (c : Course) (x : Given) → MayTake walk c → IsKnownFirst c → told ≡ answers (calls_of c)
      → xs ≡ items_of c ++ x ∷ [] → CutsShort (calls_of c) x → TookCourse walk told xs

-- among these answers are at most as many items of folders as were allowed: all of these if the budget is
-- reached, and fewer if no item ended the walk
pub record SpendsWithin (allowed : ℕ) (told : List Answer) (xs : List Given) : Type 0 where
  pub within : items_listed told ≤ allowed
  pub spent : (path : List ℕ) (depth : ℕ) → Contains xs (fault Budget path depth)
      → items_listed told ≡ allowed
  pub going : NoneLast xs → 0 < allowed → items_listed told < allowed

-- a walk yielded these items to its end, and left the directory as `new`, unchanged if the walk was idle
pub record Took {D C : Type 0} (law : Law D C) (walk : WalkView D) (new : D) (xs : List Given) : Type 0 where
  pub all : (p : Pending Given) → walk.to_come p → Yielded (law.tells new) walk.listings_left p xs
  pub told : List Answer
  pub answered : law.answered new ≡ law.answered walk.directory ++ told
  pub course : TookCourse walk told xs
  pub spends : SpendsWithin walk.listings_left told xs
  pub counts : CountsFaults (all_fault_counts xs) (all_items_lost xs) (law.tally walk.directory)
      (law.tally new)
  pub taken : ℕ
  pub counted : (law.tally new).items ≡ grown taken (law.tally walk.directory).items
  pub within : taken ≤ walk.listings_left
  pub spent : (path : List ℕ) (depth : ℕ) → Contains xs (fault Budget path depth) → taken ≡ walk.listings_left
  pub misplaced : (path : List ℕ) (depth : ℕ) → Contains xs (fault NotAFolder path depth)
      → 0 < walk.names_left
  pub ends_there : EndsThere xs
  pub of_folders : AreOfFolders (MayFail walk) walk.may_open xs
  pub unasked : walk.is_idle → new ≡ walk.directory
  -- unless allocation failed, each item that was taken from a listing was yielded, or passed if there is a
  -- least depth; nothing else was but the entry where the walk begins, and errors of folders that couldn't be
  -- opened
  pub passed : ℕ
  pub passes : walk.yields_from ≡ 0 → passed ≡ 0
  pub refused : ℕ
  pub refuses : refused ≤ (all_fault_counts xs).failures
  pub gives : NoMemoryError xs → taken + (refused + walk.to_begin) ≡ length xs + passed
  pub going : NoneLast xs → 0 < walk.listings_left → taken < walk.listings_left
  -- unless allocation failed, just the yielded folders were opened, and those that were passed; if no item
  -- ended the walk, each listing was read to its end
  pub opened : ℕ
  pub opened_is : (law.tally new).opened ≡ grown opened (law.tally walk.directory).opened
  pub ended : ℕ
  pub ended_is : (law.tally new).ended ≡ grown ended (law.tally walk.directory).ended
  pub folders : ℕ
  pub folders_passed : folders ≤ passed
  pub opens : NoMemoryError xs → opened ≡ walk.to_open + (folders + count_to_open walk.may_open xs)
  pub closes : NoneLast xs → walk.listings_open + opened ≡ ended
