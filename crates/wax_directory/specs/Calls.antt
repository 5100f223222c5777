-- What one call of a directory does.
use Rattle.std.specs.Prelude.{◌≡◌, ℕ, List, [], ◌∷◌, ◌++◌, ◌⊎◌, Option, Result, Err}
use Rattle.wax_query.specs.declared.diagnostics.NoMemory.{NoMemory}
use Rattle.wax_directory.specs.{declared.directory.FileType.FileType, declared.directory.ListItem.ListItem}
use Rattle.wax_directory.specs.declared.directory.DirectoryFault.{DirectoryFault}
use Rattle.wax_directory.specs.declared.directory.DirectoryFault.TheVariants.{Memory}
use Rattle.wax_directory.specs.Answers.{KindIs, Opens, NextIs}
use Rattle.wax_directory.specs.Counting.{Counts, kind_counts, opening_counts, next_counts}
use Rattle.wax_directory.specs.History.{kind_answers, opening_answers, next_answers}
use Rattle.wax_directory.specs.{Law.{Law, ShowsSame, HoldsSame, HoldsLast}, Shown.{Items, Shown}}

-- the reported list of opened folders after this result of `open`: the path was appended; if allocation
-- failed, it was appended or not
abbrev pub ReportsOpened : {A : Type 0} → (List (List ℕ) → Type 0) → List ℕ → Result A DirectoryFault
    → List (List ℕ) → Type 0
ReportsOpened tells path (Err Memory) told = tells told ⊎ tells (told ++ path ∷ [])
ReportsOpened tells path r told = tells (told ++ path ∷ [])

module _ {D C : Type 0} (law : Law D C) where
  -- `open` at the path returned r; a returned cursor is the last open one, and the others have what they had
  abbrev pub OpensAt : D → List ℕ → Result C DirectoryFault → D → Type 0
  OpensAt old path r new = (cursors : List C) (ls : List Items) (s : Shown) → law.holds old cursors ls
      → law.shows old path s → Opens (HoldsLast law new cursors ls) s r

  -- `next` of the last open cursor returned r and left it as `next`; the others have what they had
  abbrev pub Nexts : D → C → Result (Option ListItem) NoMemory → D → C → Type 0
  Nexts old cursor r new next = (cursors : List C) (ls : List Items) (l : Items)
      → HoldsLast law old cursors ls cursor l → NextIs (HoldsLast law new cursors ls) l r next

  pub record KindCall (old : D) (path : List ℕ) (r : Result (Option FileType) DirectoryFault) (new : D) : Type
      0 where
    pub kind : (s : Shown) → law.shows old path s → KindIs s r
    pub shown : ShowsSame law old new
    pub held : HoldsSame law old new
    pub told : (t : List (List ℕ)) → law.tells old t → law.tells new t
    pub counted : Counts (kind_counts r) (law.tally old) (law.tally new)
    pub answered : law.answered new ≡ law.answered old ++ kind_answers path r

  pub record OpenCall (old : D) (path : List ℕ) (r : Result C DirectoryFault) (new : D) : Type 0 where
    pub opens : OpensAt old path r new
    pub shown : ShowsSame law old new
    pub held : HoldsSame law old new
    pub told : (t : List (List ℕ)) → law.tells old t → ReportsOpened (law.tells new) path r t
    pub counted : Counts (opening_counts r) (law.tally old) (law.tally new)
    pub answered : law.answered new ≡ law.answered old ++ opening_answers path r

  pub record NextCall (old : D) (cursor : C) (r : Result (Option ListItem) NoMemory) (new : D)
      (next : C) : Type 0 where
    pub nexts : Nexts old cursor r new next
    pub shown : ShowsSame law old new
    pub told : (t : List (List ℕ)) → law.tells old t → law.tells new t
    pub counted : Counts (next_counts r) (law.tally old) (law.tally new)
    pub answered : law.answered new ≡ law.answered old ++ next_answers r
