-- What an excluded pattern covers: candidates with everything that can be below them.
use Rattle.std.specs.Prelude.{◌≡◌, ℕ, ◌≤◌, Bool, true, false, ◌&&◌, ◌||◌, nat_lt, ◌⊎◌, List, [], ◌∷◌}
use Rattle.std.specs.List.{list_any}
use Rattle.wax_token.specs.{Decided.means_test, Kinds.is_tree_wildcard, Meaning.Means}
use Rattle.wax_token.specs.{Syntax.{Tree, leaf, tree, Trees, none, more}, Words.members}
use Rattle.wax_walk.specs.Candidates.{Candidate}

-- a `**` that isn't rooted
abbrev pub is_unrooted : {A : Type 0} → Tree A → Bool
is_unrooted (leaf a (tree false)) = true
is_unrooted t = false

-- a single `**` that isn't rooted
abbrev pub is_everything : {A : Type 0} → Trees A → Bool
is_everything none = false
is_everything (more t none) = is_unrooted t
is_everything (more t (more u us)) = false

-- the last token is a `**`
abbrev pub ends_wild : {A : Type 0} → Trees A → Bool
ends_wild none = false
ends_wild (more t none) = is_tree_wildcard t
ends_wild (more t (more u us)) = ends_wild (more u us)

-- the alternative is a single unrooted `**`; or it ends with `**` and matches the candidate, which has a name
abbrev pub Covers : {A : Type 0} → Tree A → Candidate → Type 0
Covers t c = (is_everything (members t) ≡ true)
    ⊎ ((ends_wild (members t) ≡ true) × Means t false false c.text × (1 ≤ c.depth))

-- some alternative covers the candidate
abbrev pub CoversSome : {A : Type 0} → List (Tree A) → Candidate → Type 0
CoversSome [] c = ⊥
CoversSome (t ∷ ts) c = Covers t c ⊎ CoversSome ts c

-- ---- as Boolean tests

-- some alternative is a single unrooted `**`
abbrev pub some_everything : {A : Type 0} → List (Tree A) → Bool
some_everything ts = list_any (λ t. is_everything (members t)) ts

-- some alternative that ends with a `**` matches the text
abbrev pub WildMeans : {A : Type 0} → List (Tree A) → List ℕ → Type 0
WildMeans [] s = ⊥
WildMeans (t ∷ ts) s = ((ends_wild (members t) ≡ true) × Means t false false s) ⊎ WildMeans ts s

abbrev pub wild_test : {A : Type 0} → List (Tree A) → List ℕ → Bool
wild_test [] s = false
wild_test (t ∷ ts) s = (ends_wild (members t) && means_test t false false s) || wild_test ts s

abbrev pub covers_test : {A : Type 0} → List (Tree A) → Candidate → Bool
covers_test ts c = some_everything ts || (nat_lt 0 c.depth && wild_test ts c.text)
