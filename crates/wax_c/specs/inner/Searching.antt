-- What a search for a path does.
use Rattle.std.specs.Prelude.{◌≤◌, ℕ, List, chars, length, string_bytes}
use Rattle.wax_c.specs.Comparing.{IsOfBoth, IsOfFirstOnly, IsOfOneOnly, IsShortestPath}
use Rattle.wax_c.specs.declared.comparing.Asked.{Asked}
use Rattle.wax_c.specs.declared.comparing.Asked.TheVariants.{Both, FirstOnly, OneOnly}
use Rattle.wax_c.specs.declared.comparing.Found.{Found}
use Rattle.wax_c.specs.declared.comparing.Found.TheVariants as found

-- a path that the search looks for
abbrev pub IsAskedFor : Asked → (List ℕ → Type 0) → (List ℕ → Type 0) → List ℕ → Type 0
IsAskedFor Both Selects Selects' = IsOfBoth Selects Selects'
IsAskedFor FirstOnly Selects Selects' = IsOfFirstOnly Selects Selects'
IsAskedFor OneOnly Selects Selects' = IsOfOneOnly Selects Selects'

-- there is no such path, a shortest one, of at most so many characters, or this takes too much
abbrev pub IsSearchResult : (List ℕ → Type 0) → Type 0 → ℕ → Found → Type 0
IsSearchResult Wanted TakesTooMuch most found.Nothing = (path : List ℕ) → Wanted path → ⊥
IsSearchResult Wanted TakesTooMuch most (found.Path t) =
    IsShortestPath Wanted (string_bytes t) × (length (chars (string_bytes t)) ≤ most)
IsSearchResult Wanted TakesTooMuch most found.Unknown = TakesTooMuch
