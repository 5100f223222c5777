-- The folders of which a walk may yield an error, by its state.
use Rattle.std.specs.Prelude.{◌≡◌, ◌<◌, ◌≤◌, ◌⊎◌, ℕ, ◌+◌, ◌-◌, ◌^◌, false, length, List, [], ◌∷◌, ◌++◌}
use Rattle.std.specs.Prelude.{Option, Some, None}
use Rattle.wax_tree.specs.{declared.steps.OpenFolder.OpenFolder, declared.steps.StartPoint.StartPoint}
use Rattle.wax_tree.specs.{declared.steps.Steps.Steps, Prefix.{ArePlain, from_last, path_from}}
use Rattle.wax_tree.specs.declared.location.Location as code

-- a relation of paths and of depths of what is in the folders there
abbrev pub FolderSet : Type 1
FolderSet = List ℕ → ℕ → Type 0

abbrev pub no_folders : FolderSet
no_folders path inside = ⊥

abbrev pub OneFolder : List ℕ → ℕ → FolderSet
OneFolder path inside p n = (p ≡ path) × (n ≡ inside)

-- plain names lead to the folder from one of these, and if there are any, it is above the least depth, so
-- that it isn't yielded
pub record LeadsUnseen (least : ℕ) (from : FolderSet) (path : List ℕ) (inside : ℕ) : Type 0 where
  pub top : List ℕ
  pub above : ℕ
  pub names : List (List ℕ)
  pub begins : from top above
  pub plain : ArePlain names
  pub path_is : path ≡ path_from top names
  pub depth_is : inside ≡ above + length names
  pub unseen : (names ≡ []) ⊎ (inside ≤ least)

-- a place on the way from a start point along its names; nothing is said of a depth that is no `usize`
abbrev pub OnWay : StartPoint → FolderSet
OnWay place path inside = (front rest : List (List ℕ)) × (from_last place.names.items ≡ front ++ rest)
    × (path ≡ path_from place.at.path.path front)
    × (place.at.depth + length front < 2 ^ 64 → inside ≡ place.at.depth + length front + 1)

abbrev pub IsOf : code.Location → FolderSet
IsOf folder path inside = (path ≡ folder.path.path) × (inside ≡ folder.depth)

abbrev pub OfFirst : Option StartPoint → FolderSet
OfFirst None path inside = ⊥
OfFirst (Some place) path inside = OnWay place path inside

abbrev pub OfEntered : Option code.Location → FolderSet
OfEntered None path inside = ⊥
OfEntered (Some folder) path inside = IsOf folder path inside

abbrev pub OfLevels : {C : Type 0} → List (OpenFolder C) → FolderSet
OfLevels [] path inside = ⊥
OfLevels (level ∷ inner) path inside = IsOf level.folder path inside ⊎ OfLevels inner path inside

module _ {D C : Type 0} where
  -- these folders, the start point and the open folders
  abbrev pub OfAny : Steps D C → FolderSet → FolderSet
  OfAny w more path inside = more path inside
      ⊎ (OfFirst w.first path inside ⊎ OfLevels w.levels.items path inside)

  -- what the walk reaches from them without yielding a folder
  abbrev pub ReachesFrom : Steps D C → FolderSet → FolderSet
  ReachesFrom w more = LeadsUnseen w.min (OfAny w more)

  -- the folders that the walk reaches, if it hasn't ended, and those of the folder that is to be entered
  abbrev pub MayReach : Steps D C → FolderSet
  MayReach w path inside = (w.has_ended ≡ false)
      × (ReachesFrom w no_folders path inside ⊎ LeadsUnseen w.min (OfEntered w.entered) path inside)

  -- the paths, each with its depth, of which errors may come
  abbrev pub MayFailAt : Steps D C → List ℕ → ℕ → Type 0
  MayFailAt w path depth = (w.has_ended ≡ false)
      × (inside : ℕ) × (depth ≡ inside - 1) × ReachesFrom w no_folders path inside

  -- those of the last yielded folder, if it is to be entered
  abbrev pub MayFailBelow : Steps D C → List ℕ → ℕ → Type 0
  MayFailBelow w path depth = (w.has_ended ≡ false)
      × (inside : ℕ) × (depth ≡ inside - 1) × LeadsUnseen w.min (OfEntered w.entered) path inside
