-- The leading components of a glob: those that the first names of each matching candidate match.
use Rattle.std.specs.Prelude.{ℕ, Bool, true, false, ◌&&◌, not, if◌then◌else◌, ⊤, List, [], ◌∷◌}
use Rattle.std.specs.List.{before_first, list_any}
use Rattle.wax_token.specs.{Decided.{holds, each_decided}, Kinds.{is_separator, has_boundary}}
use Rattle.wax_token.specs.{Meaning.MeansEach, Syntax.Tree, Words.trees}
use Rattle.wax_components.specs.{Parts.components, TopLevel.tokens_of}

-- the components before the first one that has a boundary, at any depth
abbrev pub leading : {A : Type 0} → Tree A → List (List (Tree A))
leading t = before_first (list_any has_boundary) (components t)

abbrev pub begins_with_separator : {A : Type 0} → List (Tree A) → Bool
begins_with_separator [] = false
begins_with_separator (t ∷ ts) = is_separator t

-- The leading components of a walk. In a walk from the root, candidates begin with `/`: if the glob's first
-- token isn't that `/`, its components aren't at the places of the names, and none is a leading component.
abbrev pub leading_of : {A : Type 0} → Bool → Tree A → List (List (Tree A))
leading_of rooted t = if rooted && not (begins_with_separator (tokens_of t)) then [] else leading t

-- each name matches the component at its position; names past the last component are free
abbrev pub Lead : {A : Type 0} → List (List (Tree A)) → List (List ℕ) → Type 0
Lead [] names = ⊤
Lead (c ∷ cs) [] = ⊤
Lead (c ∷ cs) (n ∷ names) = MeansEach (trees c) false false n × Lead cs names

-- whether the component matches the name
abbrev pub component_test : {A : Type 0} → List (Tree A) → List ℕ → Bool
component_test c n = holds (each_decided (trees c) false false n)

-- whether each name matches the component at its position
abbrev pub lead_test : {A : Type 0} → List (List (Tree A)) → List (List ℕ) → Bool
lead_test [] names = true
lead_test (c ∷ cs) [] = true
lead_test (c ∷ cs) (n ∷ names) = component_test c n && lead_test cs names
