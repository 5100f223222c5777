-- What is kept of a glob's walk, without what two patterns match and what lines ignore, and what it opens.
use Rattle.std.specs.{List.AllZip, Prelude.{◌≡◌, ◌⊎◌, ℕ, List, [], ◌∷◌, ◌++◌, All, filter}}
use Rattle.wax.specs.{GlobView.GlobView, GlobWalks.{Beginning, wants, origin_from, within}}
use Rattle.wax.specs.{Headline.{MayList, Wanted}, Ignoring.{IsReadAs, Line, written_lines}}
use Rattle.wax.specs.{Language.{Span, Tree}, Patterns.IsOnly, Queries.{Bounds, Depth}}
use Rattle.wax.specs.Walks.{ArePlain, behavior_at, behavior_range, Budget, ComesWanted, fault, Filter, Given}
use Rattle.wax.specs.Walks.{CanBegin, is_kept_entry, KeepsWanted, Law, no_memory, not_ignored, not_meant}
use Rattle.wax.specs.Walks.{Shown, GlobRequest, request_excluding, Origin, Unbounded, WalkView}
use Rattle.wax.specs.Walks.{wanted_entries}

-- A directory of which it is known what it shows where the walk of the glob begins, and which folders were
-- opened before.
pub record IsKnownFrom {D C : Type 0} (g : GlobView) (law : Law D C) (d : D) (start : List ℕ) : Type 0 where
  pub beginning : Beginning g.tree
  pub are_plain : ArePlain beginning.names
  pub shown : Shown
  pub shows : law.shows d (origin_from start beginning.rooted beginning.names).path shown
  pub opened : List (List ℕ)
  pub tells : law.tells d opened

-- The last item says that memory ran out, or that the budget is reached.
pub data IsCutOff (items : List Given) : Type 0 where
  lacks_memory : (before : List Given) → items ≡ before ++ no_memory ∷ [] → IsCutOff items
  over_budget : (before : List Given) (path : List ℕ) (depth : ℕ)
      → items ≡ before ++ fault Budget path depth ∷ [] → IsCutOff items

-- ---- filters

-- Filters by the only tree of each of two patterns, and by the lines of a list's text.
pub record AreFilters (FirstSpells SecondSpells : Tree Span → Type 0) (list : List ℕ)
    (filters : List (Filter Span)) : Type 0 where
  pub first : Tree Span
  pub first_only : IsOnly FirstSpells first
  pub second : Tree Span
  pub second_only : IsOnly SecondSpells second
  pub lines : List (Line Span)
  pub are_read : AllZip IsReadAs (written_lines list) lines
  pub all : filters ≡ not_meant first ∷ not_meant second ∷ not_ignored lines ∷ []

-- whatever is wanted of a walk: if it comes, then what the filters don't leave out of it was kept
abbrev pub KeepsExcluding : {D C : Type 0} → Law D C → WalkView D → List (Filter Span) → D → List Given
    → Type 0
KeepsExcluding {D} law view filters new items = (d : D) (request : GlobRequest) (s : Shown)
    (opened : List (List ℕ))
    → ComesWanted law d request view → CanBegin (request_excluding request filters)
    → law.shows d request.origin.path s
    → law.tells d opened → KeepsWanted (law.tells new) (request_excluding request filters) s opened items

-- ---- of a glob's walk

module _ {D C : Type 0} {g : GlobView} {law : Law D C} {d : D} {start : List ℕ}
    (known : IsKnownFrom g law d start) where
  abbrev pub wants_excluding : List (Filter Span) → Wanted Span
  wants_excluding filters = wants g.tree known.beginning filters

  abbrev pub origin_of_known : Origin
  origin_of_known = origin_from start known.beginning.rooted known.beginning.names

  -- of the whole walk, the entries whose paths the glob means and no filter leaves out, in order
  abbrev pub entries_wanted : List (Filter Span) → List Given
  entries_wanted filters =
      wanted_entries (wants_excluding filters) (behavior_range (behavior_at Unbounded)) origin_of_known
      known.shown

  -- the entries among the items are exactly those, unless the items are cut off
  abbrev pub AreEntriesWanted : List (Filter Span) → List Given → Type 0
  AreEntriesWanted filters items = IsCutOff items ⊎ (filter is_kept_entry items ≡ entries_wanted filters)

  -- The folders that were opened in between, each of which may be opened: its names match the leading
  -- components, and no filter excludes it with everything below it.
  pub record OpenedFew (filters : List (Filter Span)) (tells : List (List ℕ) → Type 0) : Type 0 where
    pub depth : Bounds
    pub depth_is : Depth g.tree depth
    pub folders : List (List ℕ)
    pub told : tells (known.opened ++ folders)
    pub may_be : All (MayList (wants_excluding filters)
        (within (behavior_range (behavior_at Unbounded)) depth) origin_of_known) folders

  -- Unless the items are cut off, the entries among them are exactly those that are wanted, and only folders
  -- were opened in between that may be.
  pub record KeepsFiltered (filters : List (Filter Span)) (tells : List (List ℕ) → Type 0)
      (items : List Given) : Type 0 where
    pub entries : AreEntriesWanted filters items
    pub folders : IsCutOff items ⊎ OpenedFew filters tells
