-- What is known of the only text of a tree.
use Rattle.std.specs.Prelude.{◌≡◌, List, MatchOption, Option, IfSome, chars, ℕ}
use Rattle.wax.specs.{Language.{Span, Tree}, Matching.MeansText, Queries.{Text, Variant}}

-- the bytes of the text that the tokens show, which alone the tree matches, if there is one
abbrev pub ShowsText : Tree Span → Option (List ℕ) → Type 0
ShowsText t text =
    MatchOption text (Variant t) (λ shown. Text t (chars shown))
    × IfSome text (λ shown. (path : List ℕ) → MeansText t path → path ≡ chars shown)
