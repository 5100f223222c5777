-- What a walk has yet to yield.
use Rattle.std.specs.{Prelude.{◌≡◌, ℕ, List, [], ◌∷◌, ◌++◌, Option, Some, None, Bool, cond}, List.Contains}

-- items in order, each with what is below it; and paths of folders, at the points where they are listed
pub data Forest (A : Type 0) : Type 0 where
  nothing : Forest A
  item : A → Forest A → Forest A → Forest A
  lists : List ℕ → Forest A → Forest A

-- one forest and then another
abbrev pub followed_by : {A : Type 0} → Forest A → Forest A → Forest A
followed_by nothing g = g
followed_by (item x below after) g = item x below (followed_by after g)
followed_by (lists path after) g = lists path (followed_by after g)

-- the items in order, each before what is below it
abbrev pub preorder : {A : Type 0} → Forest A → List A
preorder nothing = []
preorder (item x below after) = x ∷ (preorder below ++ preorder after)
preorder (lists path after) = preorder after

-- the folders listed, in order
abbrev pub listings : {A : Type 0} → Forest A → List (List ℕ)
listings nothing = []
listings (item x below after) = listings below ++ listings after
listings (lists path after) = path ∷ listings after

-- the folders that are listed before the next item
abbrev pub listed_next : {A : Type 0} → Forest A → List (List ℕ)
listed_next nothing = []
listed_next (item x below after) = []
listed_next (lists path after) = path ∷ listed_next after

-- what is to come below the last yielded item, and after it; the folders that were listed; and at most how
-- many items are taken from listings for what is to come
pub record Pending (A : Type 0) : Type 0 where
  pub below : Forest A
  pub after : Forest A
  pub listed : List (List ℕ)
  pub items : ℕ

abbrev pub pending : {A : Type 0} → Forest A → Forest A → List (List ℕ) → ℕ → Pending A
pending below after listed items = record { below = below; after = after; listed = listed; items = items }

-- what is to come if nothing is cancelled
abbrev pub all_pending : {A : Type 0} → Pending A → Forest A
all_pending p = followed_by p.below p.after

-- a folder that was listed, or is listed before the next item
abbrev pub IsListed : {A : Type 0} → Pending A → List ℕ → Type 0
IsListed p path = Contains (p.listed ++ listed_next (all_pending p)) path

-- what is to come if everything below the last yielded item is cancelled
abbrev pub cancelled : {A : Type 0} → Pending A → Pending A
cancelled p = pending nothing p.after p.listed p.items

-- r is the first item of a forest, if any, and `then` holds of what is to come after it
abbrev pub FirstIs : {A : Type 0} → (Pending A → Type 0) → Forest A → List (List ℕ) → ℕ → Option A → Type 0
FirstIs then nothing listed items r = (r ≡ None) × then (pending nothing nothing listed items)
FirstIs then (item x below after) listed items r = (r ≡ Some x) × then (pending below after listed items)
FirstIs then (lists path after) listed items r = FirstIs then after (listed ++ path ∷ []) items r

-- the forest with each item changed, and without what is below the items that are cut
abbrev pub filtered : {A B : Type 0} → (A → B) → (A → Bool) → Forest A → Forest B
filtered change cut nothing = nothing
filtered change cut (item x below after) = item (change x) (cond (cut x) nothing (filtered change cut below))
    (filtered change cut after)
filtered change cut (lists path after) = lists path (filtered change cut after)

abbrev pub filtered_pending : {A B : Type 0} → (A → B) → (A → Bool) → Pending A → Pending B
filtered_pending change cut p = pending (filtered change cut p.below) (filtered change cut p.after) p.listed
    p.items
