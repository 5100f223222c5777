-- The course of a walk: its calls of the directory, each with its answer, and the items between them.
use Rattle.std.specs.Prelude.{◌≡◌, ◌⊎◌, ℕ, Bool, true, false, cond, List, [], ◌∷◌, ◌++◌, map, ⊤}
use Rattle.wax_directory.specs.{History.{Answer, listed}, Shown.Listed}
use Rattle.wax_walk.specs.declared.error.FaultKind.TheVariants.{Budget}
use Rattle.wax_walk.specs.Given.{Given, Mark, fault, no_memory, with_mark}

-- a call about the file or folder at this path, and its answer; a call that takes an item is about the folder
pub record DirectoryCall : Type 0 where
  pub path : List ℕ
  pub answer : Answer

abbrev pub call : List ℕ → Answer → DirectoryCall
call path answer = record { path = path; answer = answer }

pub data Course : Type 0 where
  stop : Course
  unknown : Course  -- it may go on
  asks : DirectoryCall → Course → Course
  yields : Given → Course → Course → Course  -- an item, what comes below it, and what comes after that

-- one course and then another
abbrev pub continued : Course → Course → Course
continued stop d = d
continued unknown d = unknown
continued (asks q c) d = asks q (continued c d)
continued (yields x below after) d = yields x below (continued after d)

-- these calls, and then the course
abbrev pub asking : List DirectoryCall → Course → Course
asking [] c = c
asking (q ∷ calls) c = asks q (asking calls c)

abbrev pub items_of : Course → List Given
items_of stop = []
items_of unknown = []
items_of (asks q c) = items_of c
items_of (yields x below after) = x ∷ (items_of below ++ items_of after)

abbrev pub calls_of : Course → List DirectoryCall
calls_of stop = []
calls_of unknown = []
calls_of (asks q c) = q ∷ calls_of c
calls_of (yields x below after) = calls_of below ++ calls_of after

abbrev pub answers : List DirectoryCall → List Answer
answers calls = map (λ q. q.answer) calls

-- the course is known to its end
abbrev pub IsKnownWhole : Course → Type 0
IsKnownWhole stop = ⊤
IsKnownWhole unknown = ⊥
IsKnownWhole (asks q c) = IsKnownWhole c
IsKnownWhole (yields x below after) = IsKnownWhole below × IsKnownWhole after

-- the course is known up to some point
abbrev pub IsKnownFirst : Course → Type 0
IsKnownFirst stop = ⊤
IsKnownFirst unknown = ⊤
IsKnownFirst (asks q c) = IsKnownFirst c
IsKnownFirst (yields x below after) = IsKnownFirst below × IsKnownFirst after
    × (IsKnownWhole below ⊎ (after ≡ unknown))

-- the course c is d, or d as far as it is known
abbrev pub IsStartOf : Course → Course → Type 0
IsStartOf unknown d = ⊤
IsStartOf stop d = d ≡ stop
IsStartOf (asks q c) d = (e : Course) × (d ≡ asks q e) × IsStartOf c e
IsStartOf (yields x below after) d = (b : Course) × (a : Course) × (d ≡ yields x b a) × IsStartOf below b
    × IsStartOf after a

-- what is ahead of a walk: below the last yielded item, and after it
pub record Ahead : Type 0 where
  pub below : Course
  pub after : Course

abbrev pub ahead : Course → Course → Ahead
ahead below after = record { below = below; after = after }

abbrev pub all_ahead : Ahead → Course
all_ahead a = continued a.below a.after

-- nothing comes, as far as it is known
abbrev pub IsNothing : Course → Type 0
IsNothing c = IsStartOf c stop

-- ---- filters

-- nothing comes below an item that is cut, else what is filtered
abbrev pub ComesBelow : Bool → Type 0 → Course → Type 0
ComesBelow true filtered below = IsNothing below
ComesBelow false filtered below = filtered

-- d is the course c, as far as d is known, with each item marked and cut as allowed, and without what comes
-- below the items that are cut
abbrev pub IsFiltered : (Given → Mark → Bool → Type 0) → Course → Course → Type 0
IsFiltered allows unknown d = d ≡ unknown
IsFiltered allows stop d = (d ≡ unknown) ⊎ (d ≡ stop)
IsFiltered allows (asks q c) d = (d ≡ unknown) ⊎ ((e : Course) × (d ≡ asks q e) × IsFiltered allows c e)
IsFiltered allows (yields x below after) d = (d ≡ unknown) ⊎ ((m : Mark) × (cut : Bool) × allows x m cut
    × (b : Course) × (a : Course) × (d ≡ yields (with_mark x m) b a)
    × ComesBelow cut (IsFiltered allows below b) b × IsFiltered allows after a)

-- a known course with each item changed, and without what comes below the items that are cut
abbrev pub filtered_course : (Given → Given) → (Given → Bool) → Course → Course
filtered_course change cut stop = stop
filtered_course change cut unknown = unknown
filtered_course change cut (asks q c) = asks q (filtered_course change cut c)
filtered_course change cut (yields x below after) = yields (change x)
    (cond (cut x) stop (filtered_course change cut below)) (filtered_course change cut after)

-- what is ahead after a filter, if `inner` holds of what is ahead before it
abbrev pub AheadFiltered : (Ahead → Type 0) → (Given → Mark → Bool → Type 0) → Ahead → Type 0
AheadFiltered inner allows q = (p : Ahead) × inner p × IsFiltered allows p.below q.below
    × IsFiltered allows p.after q.after

-- ---- errors that cut a course short

-- the item is the error that memory ran out, or that the budget was reached in the folder of which the last
-- call returned an item
abbrev pub CutsShort : List DirectoryCall → Given → Type 0
CutsShort calls no_memory = ⊤
CutsShort calls (fault Budget path depth) = (before : List DirectoryCall) × (x : Listed)
    × (calls ≡ before ++ call path (listed x) ∷ [])
CutsShort calls x = ⊥
