-- Sets of places that are also listed.
use Rattle.std.specs.Prelude.{◌≡◌, ◌↔◌, ◌⊎◌, ℕ, ◌+◌, ◌<◌, ◌≤◌, Bool, not, ◌&&◌, List, [], ◌∷◌, Contains, Some}
use Rattle.std.specs.Prelude.{length, slice_get}
use Rattle.wax_program.specs.{Places.{HoldsPlace, IsEmpty, Within, member_count}, Threads.Position}

-- a set of places below `limit`: its flags, and its places in the order in which they were inserted
pub record Listing : Type 0 where
  pub limit : ℕ
  pub flags : List Bool
  pub places : List ℕ

-- the places are exactly those of the set
abbrev pub Lists : List ℕ → List Bool → Type 0
Lists places set = (k : ℕ) → Contains places k ↔ HoldsPlace set k

-- the list has each place of the set once, and there is room for every place below the limit
pub record IsListing (limit : ℕ) (flags : List Bool) (places : List ℕ) (capacity : ℕ) : Type 0 where
  pub room : limit ≤ length flags
  pub within : Within limit flags
  pub lists : Lists places flags
  pub counted : length places ≡ member_count flags
  pub fits : limit ≤ capacity

-- the places that were reached here and not read
abbrev pub unread : List Bool → List Bool → List Bool
unread [] read = []
unread (b ∷ here) [] = b ∷ here
unread (b ∷ here) (r ∷ read) = (b && not r) ∷ unread here read

-- the place is in the list, at an index from `taken` on
abbrev pub Waits : List ℕ → ℕ → ℕ → Type 0
Waits places taken k = (j : ℕ) × (taken ≤ j) × (slice_get places j ≡ Some k)

-- the place was inserted: it is in the set, nothing else is new, places that wait still do, and it waits if
-- it wasn't in the set
pub record Inserts (old new : Listing) (at : ℕ) : Type 0 where
  pub limit : new.limit ≡ old.limit
  pub has : HoldsPlace new.flags at
  pub keeps : (k : ℕ) → HoldsPlace old.flags k → HoldsPlace new.flags k
  pub only : (k : ℕ) → HoldsPlace new.flags k → HoldsPlace old.flags k ⊎ (k ≡ at)
  pub lists : Lists new.places new.flags
  pub longer : length old.places ≤ length new.places
  pub stays : (taken k : ℕ) → Waits old.places taken k → Waits new.places taken k
  pub waits : (taken : ℕ) → taken ≤ length old.places → HoldsPlace old.flags at ⊎ Waits new.places taken at

-- the places that were reached here, those of them that were read, and those of the next position, for a
-- program of `size` instructions: a place that is still to be read is in the list, at an index from `taken`
-- on
pub record AreHeld (size : ℕ) (here : Listing) (taken : ℕ) (read : List Bool) (next : Listing) :
    Type 0 where
  pub here_room : size < here.limit
  pub next_room : size < next.limit
  pub read_room : size < length read
  pub here_within : Within (size + 1) here.flags
  pub read_within : Within size read
  pub next_within : Within (size + 1) next.flags
  pub next_lists : Lists next.places next.flags
  pub taken_within : taken ≤ length here.places
  pub read_here : (k : ℕ) → HoldsPlace read k → HoldsPlace here.flags k
  pub waiting : (k : ℕ) → k < size → HoldsPlace (unread here.flags read) k → Waits here.places taken k

-- from the index `from` on and before `end`, each place in the list that is below `size` was read
abbrev pub AreRead : List ℕ → ℕ → ℕ → ℕ → List Bool → Type 0
AreRead places from end size read = (j k : ℕ) → from ≤ j → j < end → slice_get places j ≡ Some k → k < size
    → HoldsPlace read k

-- the first place in the list, from the index `from` on, that is below `size` and wasn't read; and the index
-- after it
pub record IsNextUnread (places : List ℕ) (from size : ℕ) (read : List Bool) (next at : ℕ) : Type 0 where
  pub index : ℕ
  pub next_is : next ≡ index + 1
  pub before : AreRead places from index size read
  pub is : slice_get places index ≡ Some at
  pub below : at < size
  pub fresh : ¬ (HoldsPlace read at)

-- the set has lost the places of the list, and nothing else is new
pub record HasLost (old : List Bool) (places : List ℕ) (new : List Bool) : Type 0 where
  pub room : length new ≡ length old
  pub fewer : (k : ℕ) → HoldsPlace new k → HoldsPlace old k
  pub gone : (k : ℕ) → Contains places k → ¬ (HoldsPlace new k)

-- the set has places of the list, and each of them that a program of `size` instructions has, or its end
pub record IsLoaded (places : List ℕ) (size : ℕ) (set : List Bool) : Type 0 where
  pub only : (k : ℕ) → HoldsPlace set k → Contains places k
  pub all : (k : ℕ) → Contains places k → k ≤ size → HoldsPlace set k

-- the set has the places of another, and of the list in the same way
pub record IsJoined (old : List Bool) (places : List ℕ) (size : ℕ) (set : List Bool) : Type 0 where
  pub only : (k : ℕ) → HoldsPlace set k → HoldsPlace old k ⊎ Contains places k
  pub keeps : (k : ℕ) → HoldsPlace old k → HoldsPlace set k
  pub all : (k : ℕ) → Contains places k → k ≤ size → HoldsPlace set k

-- no place is in the sets
pub record HoldsNothing (p : Position) : Type 0 where
  pub pending : IsEmpty p.pending
  pub read : IsEmpty p.read
  pub next : IsEmpty p.next
