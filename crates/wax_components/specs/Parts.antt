-- The components of a glob: what stands between its boundaries, and each `**`.
use Rattle.std.specs.Prelude.{◌≡◌, ℕ, Bool, true, false, ◌&&◌, ◌==◌, if◌then◌else◌, not, ◌⊎◌, ◌<◌, length}
use Rattle.std.specs.{Prelude.{List, [], ◌∷◌, ◌++◌, fold}, List.{Contains, before_first, flat_map, list_all}}
use Rattle.wax_query.specs.Spans.{Span, span_union}
use Rattle.wax_token.specs.{Syntax.Tree, Words.annotation_of}
use Rattle.wax_token.specs.Kinds.{is_separator, is_tree_wildcard, is_boundary, is_literal}
use Rattle.wax_components.specs.TopLevel.{tokens_of, literal_text}

-- the component that begins with a token, if one does: a `/` begins none, a `**` is one, and any other
-- token begins one at an edge, which goes on up to the next boundary
abbrev pub begun : {A : Type 0} → Bool → Tree A → List (Tree A) → List (List (Tree A))
begun at_edge t ts =
    if is_separator t then []
    else if is_tree_wildcard t then (t ∷ []) ∷ []
    else if at_edge then (t ∷ before_first is_boundary ts) ∷ []
    else []

-- the components that begin in these tokens; after a boundary, and at the beginning, there is an edge
abbrev pub components_in : {A : Type 0} → Bool → List (Tree A) → List (List (Tree A))
components_in at_edge [] = []
components_in at_edge (t ∷ ts) = begun at_edge t ts ++ components_in (is_boundary t) ts

abbrev pub components : {A : Type 0} → Tree A → List (List (Tree A))
components t = components_in true (tokens_of t)

abbrev pub begins_with_boundary : {A : Type 0} → List (Tree A) → Bool
begins_with_boundary [] = true
begins_with_boundary (t ∷ ts) = is_boundary t

abbrev pub ends_with_boundary : {A : Type 0} → List (Tree A) → Bool
ends_with_boundary [] = true
ends_with_boundary (t ∷ []) = is_boundary t
ends_with_boundary (t ∷ u ∷ us) = ends_with_boundary (u ∷ us)

abbrev pub IsTreeAlone : {A : Type 0} → List (Tree A) → Type 0
IsTreeAlone {A} part = (t : Tree A) × (part ≡ t ∷ []) × (is_tree_wildcard t ≡ true)

abbrev pub IsRun : {A : Type 0} → List (Tree A) → Type 0
IsRun part = (0 < length part) × (list_all (λ t. not (is_boundary t)) part ≡ true)

-- a `**` alone, or tokens that are no boundaries, with a boundary or an end at both sides
abbrev pub IsLongest : {A : Type 0} → List (Tree A) → List (Tree A) → List (Tree A) → Type 0
IsLongest before part after =
    IsTreeAlone part
    ⊎ (IsRun part × (ends_with_boundary before ≡ true) × (begins_with_boundary after ≡ true))

-- a part of the tokens that can't be made longer
abbrev pub IsComponent : {A : Type 0} → List (Tree A) → List (Tree A) → Type 0
IsComponent {A} all part =
    (before after : List (Tree A)) × (all ≡ before ++ (part ++ after)) × IsLongest before part after

-- each part of the tokens that can't be made longer is among these
abbrev pub HasEach : {A : Type 0} → List (Tree A) → List (List (Tree A)) → Type 0
HasEach {A} all parts = (part : List (Tree A)) → IsComponent all part → Contains parts part

-- the least span that holds the spans of the tokens
abbrev pub joint_span : List (Tree Span) → Span
joint_span [] = (0, 0)
joint_span (t ∷ ts) = fold (λ s u. span_union s (annotation_of u)) (annotation_of t) ts

-- what literals spell together
abbrev pub literals_text : {A : Type 0} → List (Tree A) → List ℕ
literals_text ts = flat_map literal_text ts

-- a component with its text, if it is of literals alone
abbrev pub with_text : {A : Type 0} → List (Tree A) → List (List (Tree A) × List ℕ)
with_text ts = if list_all is_literal ts then (ts, literals_text ts) ∷ [] else []

-- `.` or `..`
abbrev pub is_semantic : List ℕ → Bool
is_semantic [] = false
is_semantic (c ∷ []) = c == 46
is_semantic (c ∷ d ∷ []) = (c == 46) && (d == 46)
is_semantic (c ∷ d ∷ e ∷ s) = false
