-- Globs that match a folder and everything below it.
use Rattle.std.proofs.Common.{◌≡◌, ◌↔◌, ℕ, false, List, Option, None, Some, IfSome, Bor, chars, subst}
use Rattle.wax_facts.proofs.Means.{as_members, of_members}
use Rattle.wax_prefilter.specs.Within.{IsInFolder}
use Rattle.wax_token.specs.{Meaning.{Means, MeansEach}, Reads.Span, Syntax.{Tree, Trees}, Words.members}

members_in : (t : Tree Span) (folder : List ℕ)
    → ((text : List ℕ) → MeansEach (members t) false false text ↔ IsInFolder folder text)
    → (text : List ℕ) → Means t false false text ↔ IsInFolder folder text
members_in t folder h text = (
  λ meant. (h text).0 (as_members t false false text meant),
  λ within. of_members t false false text ((h text).1 within),
)

-- what the tokens of a glob match, the glob matches
pub folder_meant : (t : Tree Span) (ts : Trees Span) (known : Option (Bor (List ℕ))) → ts ≡ members t
    → IfSome known
    (λ folder. (text : List ℕ) → MeansEach ts false false text ↔ IsInFolder (chars folder.now) text)
    → IfSome known (λ folder. (text : List ℕ) → Means t false false text ↔ IsInFolder (chars folder.now) text)
folder_meant t ts None e h = h
folder_meant t ts (Some folder) e h =
    members_in t (chars folder.now) (subst
    (λ us. (text : List ℕ) → MeansEach us false false text ↔ IsInFolder (chars folder.now) text) e h)
