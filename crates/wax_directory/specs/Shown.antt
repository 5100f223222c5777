-- What a directory shows: trees of files, links and folders, with errors in their places.
use Rattle.std.specs.Prelude.{◌≡◌, ℕ, Bool, true, false, cond, List, [], ◌∷◌, ◌++◌, Option, Some, None, ⊤}
use Rattle.std.specs.{List.Contains, Str.{bytes_eq, IsUtf8}}
use Rattle.wax_query.specs.Below.{ends_open}
use Rattle.wax_directory.specs.declared.directory.FileType.{FileType}
use Rattle.wax_directory.specs.declared.directory.FileType.TheVariants.{File, Link, Folder}

-- the items of a folder, in order; a folder among them has its own items
pub data Items : Type 0 where
  end : Items
  leaf : List ℕ → Bool → Items → Items  -- a file, or a link
  folder : List ℕ → Items → Items → Items
  sealed : List ℕ → Items → Items  -- a folder that can't be listed
  misnamed : List ℕ → FileType → Items → Items  -- under a name that no path can hold
  unread : Items → Items  -- an item that couldn't be read
  not_text : Items → Items  -- an item whose name isn't text

-- what is at a path
pub data Shown : Type 0 where
  a_leaf : Bool → Shown
  a_folder : Items → Shown
  a_sealed : Shown
  missing : Shown
  failing : Shown

-- a name that a path can hold: a text that is not empty, neither `.` nor `..`, and has no `/`
pub record IsPlain (name : List ℕ) : Type 0 where
  pub text : IsUtf8 name
  pub not_empty : ¬ (name ≡ [])
  pub not_here : ¬ (name ≡ 46 ∷ [])
  pub not_above : ¬ (name ≡ 46 ∷ 46 ∷ [])
  pub one_name : ¬ (Contains name 47)

-- the path of a name in a folder
abbrev pub join : List ℕ → List ℕ → List ℕ
join path name = cond (ends_open path) (path ++ name) (path ++ 47 ∷ name)

-- each entry of a folder has a plain name and is shown at its path; a misnamed entry has no plain name
abbrev pub ShowsIn : (List ℕ → Shown → Type 0) → List ℕ → Items → Type 0
ShowsIn shows path end = ⊤
ShowsIn shows path (leaf x link rest) = IsPlain x × shows (join path x) (a_leaf link) × ShowsIn shows path
    rest
ShowsIn shows path (folder x inner rest) = IsPlain x × shows (join path x) (a_folder inner) × ShowsIn shows
    path rest
ShowsIn shows path (sealed x rest) = IsPlain x × shows (join path x) a_sealed × ShowsIn shows path rest
ShowsIn shows path (misnamed x kind rest) = ¬ (IsPlain x) × ShowsIn shows path rest
ShowsIn shows path (unread rest) = ShowsIn shows path rest
ShowsIn shows path (not_text rest) = ShowsIn shows path rest

-- what a folder has under a name
abbrev pub child_in : List ℕ → Items → Shown
child_in x end = missing
child_in x (leaf y link rest) = cond (bytes_eq y x) (a_leaf link) (child_in x rest)
child_in x (folder y inner rest) = cond (bytes_eq y x) (a_folder inner) (child_in x rest)
child_in x (sealed y rest) = cond (bytes_eq y x) a_sealed (child_in x rest)
child_in x (misnamed y kind rest) = child_in x rest
child_in x (unread rest) = child_in x rest
child_in x (not_text rest) = child_in x rest

-- what is under a name in what is shown: a folder that can't be listed hides it, and nothing is in a file or
-- a link
abbrev pub child_shown : List ℕ → Shown → Shown
child_shown x (a_leaf link) = missing
child_shown x (a_folder l) = child_in x l
child_shown x a_sealed = failing
child_shown x missing = missing
child_shown x failing = failing

-- no entry of the folder has this name
abbrev pub IsNew : List ℕ → Items → Type 0
IsNew x end = ⊤
IsNew x (leaf y link rest) = ¬ (y ≡ x) × IsNew x rest
IsNew x (folder y inner rest) = ¬ (y ≡ x) × IsNew x rest
IsNew x (sealed y rest) = ¬ (y ≡ x) × IsNew x rest
IsNew x (misnamed y kind rest) = IsNew x rest
IsNew x (unread rest) = IsNew x rest
IsNew x (not_text rest) = IsNew x rest

-- the names in each folder are distinct
abbrev pub AreDistinct : Items → Type 0
AreDistinct end = ⊤
AreDistinct (leaf x link rest) = IsNew x rest × AreDistinct rest
AreDistinct (folder x inner rest) = IsNew x rest × AreDistinct inner × AreDistinct rest
AreDistinct (sealed x rest) = IsNew x rest × AreDistinct rest
AreDistinct (misnamed x kind rest) = AreDistinct rest
AreDistinct (unread rest) = AreDistinct rest
AreDistinct (not_text rest) = AreDistinct rest

abbrev pub IsDistinct : Shown → Type 0
IsDistinct (a_folder l) = AreDistinct l
IsDistinct s = ⊤

-- an item of a listing: a name and a kind, an item that couldn't be read, or a name that isn't text
pub data Listed : Type 0 where
  named : List ℕ → FileType → Listed
  no_item : Listed
  no_name : Listed

abbrev pub leaf_kind : Bool → FileType
leaf_kind true = Link
leaf_kind false = File

abbrev pub first_item : Items → Option Listed
first_item end = None
first_item (leaf x link rest) = Some (named x (leaf_kind link))
first_item (folder x inner rest) = Some (named x Folder)
first_item (sealed x rest) = Some (named x Folder)
first_item (misnamed x kind rest) = Some (named x kind)
first_item (unread rest) = Some no_item
first_item (not_text rest) = Some no_name

abbrev pub rest_of : Items → Items
rest_of end = end
rest_of (leaf x link rest) = rest
rest_of (folder x inner rest) = rest
rest_of (sealed x rest) = rest
rest_of (misnamed x kind rest) = rest
rest_of (unread rest) = rest
rest_of (not_text rest) = rest

-- the items as they are listed, without what is below them
abbrev pub listing : Items → List Listed
listing end = []
listing (leaf x link rest) = named x (leaf_kind link) ∷ listing rest
listing (folder x inner rest) = named x Folder ∷ listing rest
listing (sealed x rest) = named x Folder ∷ listing rest
listing (misnamed x kind rest) = named x kind ∷ listing rest
listing (unread rest) = no_item ∷ listing rest
listing (not_text rest) = no_name ∷ listing rest
