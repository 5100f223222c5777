-- What is kept of the walk of a set.
use Rattle.std.specs.Prelude.{◌≡◌, ◌≤◌, ◌⊎◌, ℕ, List, [], ◌∷◌, chars}
use Rattle.wax.specs.{Language.{Span, Tree}, Patterns.OneMeans}
use Rattle.wax.specs.Walks.{ArePlain, DepthRange, entry, Given, GlobRequest, kept, KeepsWanted, Law, Selects}
use Rattle.wax.specs.Walks.{Shown, Unbounded, behavior_at, behavior_range, wanted_entries}
use Rattle.wax.specs.Headline.{origin_location, whole_at}

-- a kept entry whose depth is in range, of which one of the patterns means the candidate
abbrev pub IsMatchedEntryOf : {P : Type 0} → (P → Tree Span → Type 0) → List P → DepthRange → Given → Type 0
IsMatchedEntryOf SpellsTree patterns range (entry kept f) = (range.min ≤ f.depth) × (f.depth ≤ range.max)
    × OneMeans SpellsTree patterns (chars f.candidate)
IsMatchedEntryOf SpellsTree patterns range x = ⊥

-- A walk from the start or from the root gave these items. What is wanted of it, and so what is kept unless
-- an error ended it, are exactly the entries of the whole walk that one of the patterns means, in order.
pub record KeepsMatches {P D C : Type 0} (SpellsTree : P → Tree Span → Type 0) (patterns : List P)
    (law : Law D C) (d new : D) (ys : List Given) : Type 0 where
  pub request : GlobRequest
  pub begins : (request.origin.path ≡ []) ⊎ (request.origin.path ≡ 47 ∷ [])
  pub asked : request.asked ≡ behavior_range (behavior_at Unbounded)
  pub matched : (s : Shown) → Selects (IsMatchedEntryOf SpellsTree patterns request.asked)
      (whole_at (origin_location request.origin) s)
      (wanted_entries request.wanted request.asked request.origin s)
  pub keeps : ArePlain request.origin.names → (s : Shown) (listed : List (List ℕ))
      → law.shows d request.origin.path s → law.tells d listed
      → KeepsWanted (law.tells new) request s listed ys
