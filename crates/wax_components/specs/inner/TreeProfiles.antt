-- The profile of a tree in each context, and the numbers of components that it comes to.
use Rattle.std.specs.Prelude.{◌+◌, ◌-◌, ◌&&◌, if◌then◌else◌, Bool, None, Option, Some, ℕ, false, nat_le, true}
use Rattle.wax_query.specs.Components.{slashes}
use Rattle.wax_token.specs.Syntax.{Leaf, Tree, Trees, alternation, class, concatenation, leaf, literal, more}
use Rattle.wax_token.specs.Syntax.{none, one, repetition, separator, tree, zero_or_more}
use Rattle.wax_components.specs.{declared.profile.Profile.Profile, inner.Intervals.{Interval, hull, kept}}
use Rattle.wax_components.specs.inner.Profiles.{concatenated, empty_text, no_text, only, power_range, profile}
use Rattle.wax_components.specs.{inner.Profiles.{single, union}, inner.Shapes.{Shape, empty, ended, shape}}

-- all texts of a shape
abbrev pub every_text : Shape → Interval
every_text empty = Some (0, Some 0)
every_text (ended false false) = Some (0, None)
every_text (ended false true) = Some (1, None)
every_text (ended true false) = Some (1, None)
every_text (ended true true) = Some (1, None)

-- the shapes of a tree wildcard's texts
abbrev pub tree_allows : Bool → Bool → Bool → Shape → Bool
tree_allows false false false a = true
tree_allows false false true empty = false
tree_allows false false true (ended x y) = x
tree_allows false true false empty = true
tree_allows false true false (ended x y) = y
tree_allows false true true empty = false
tree_allows false true true (ended x y) = x && y
tree_allows true true rooted empty = false
tree_allows true true rooted (ended x y) = x && y
tree_allows true false rooted empty = true
tree_allows true false rooted (ended x y) = x

abbrev pub leaf_profile : Leaf → Bool → Bool → Profile
leaf_profile (literal insensitive t) before after = single (shape t) (slashes t)
leaf_profile (class negated xs) before after = single (ended false false) 0
leaf_profile separator before after = single (ended true true) 1
leaf_profile one before after = single (ended false false) 0
leaf_profile (zero_or_more evaluation) before after = single (ended false false) 0
leaf_profile (tree rooted) before after =
    profile (λ a. kept (tree_allows before after rooted a) (every_text a))

-- the first copy, those between, the last
abbrev pub two_or_more : ℕ → Option ℕ → (Bool → Bool → Profile) → Bool → Bool → Profile
two_or_more low high body before after =
    concatenated (body before true) (concatenated (power_range low high (body true true)) (body true after))

abbrev pub less_two : Option ℕ → Option ℕ
less_two None = None
less_two (Some n) = Some (n - 2)

abbrev pub admits : ℕ → ℕ → Option ℕ → Bool
admits k low None = nat_le low k
admits k low (Some high) = nat_le low k && nat_le k high

abbrev pub admits_two : ℕ → Option ℕ → Bool
admits_two low None = true
admits_two low (Some high) = nat_le 2 high && nat_le low high

-- none, one, and two copies or more
abbrev pub repeated_profile : ℕ → Option ℕ → (Bool → Bool → Profile) → Bool → Bool → Profile
repeated_profile low high body before after =
    union (only (admits 0 low high) empty_text) (union (only (admits 1 low high) (body before after))
    (only (admits_two low high) (two_or_more (low - 2) (less_two high) body before after)))

abbrev mutual
  pub tree_profile : {A : Type 0} → Tree A → Bool → Bool → Profile
  tree_profile (leaf a l) before after = leaf_profile l before after
  tree_profile (alternation a ts) before after = some_profile ts before after
  tree_profile (concatenation a ts) before after = each_profile ts before after
  tree_profile (repetition a t low high) before after =
      repeated_profile low high (tree_profile t) before after

  pub some_profile : {A : Type 0} → Trees A → Bool → Bool → Profile
  some_profile none before after = no_text
  some_profile (more t ts) before after = union (tree_profile t before after) (some_profile ts before after)

  pub each_profile : {A : Type 0} → Trees A → Bool → Bool → Profile
  each_profile none before after = empty_text
  each_profile (more t none) before after = tree_profile t before after
  each_profile (more t (more u us)) before after =
      concatenated (tree_profile t before true) (each_profile (more u us) true after)

-- the number of components of a text of a shape with n `/`
abbrev pub component_count : Shape → ℕ → ℕ
component_count empty n = 0
component_count (ended x y) n = n + 1 - (if x then 1 else 0) - (if y then 1 else 0)

abbrev pub component_bound : Shape → Option ℕ → Option ℕ
component_bound a None = None
component_bound a (Some n) = Some (component_count a n)

abbrev pub component_interval : Shape → Interval → Interval
component_interval a None = None
component_interval a (Some x) = Some (component_count a x.0, component_bound a x.1)

abbrev pub component_hull : Profile → Interval
component_hull p =
    hull (component_interval empty p.nothing) (hull (component_interval (ended false false) p.bare)
    (hull (component_interval (ended false true) p.ending)
    (hull (component_interval (ended true false) p.beginning)
    (component_interval (ended true true) p.enclosed))))
