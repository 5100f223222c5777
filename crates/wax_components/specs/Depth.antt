-- The least and the greatest number of components of the texts that a tree means.
use Rattle.std.specs.Prelude.{◌≡◌, ◌-◌, ◌^◌, ◌≤◌, ◌⊎◌, List, None, Option, Some, ℕ, false, min}
use Rattle.wax_query.specs.{Components.component_total, Ranges.Bounds}
use Rattle.wax_token.specs.Meaning.{Means}
use Rattle.wax_token.specs.Syntax.{Leaf, Tree, Trees, alternation, class, concatenation, leaf, literal, more}
use Rattle.wax_token.specs.Syntax.{none, one, repetition, separator, tree, zero_or_more}

-- `*`, `$` and a class are one character
abbrev pub thinned_leaf : Leaf → Leaf
thinned_leaf (literal insensitive t) = literal insensitive t
thinned_leaf (class negated xs) = one
thinned_leaf separator = separator
thinned_leaf one = one
thinned_leaf (zero_or_more evaluation) = one
thinned_leaf (tree rooted) = tree rooted

abbrev mutual
  pub thinned : {A : Type 0} → Tree A → Tree A
  thinned (leaf a l) = leaf a (thinned_leaf l)
  thinned (alternation a ts) = alternation a (thinned_each ts)
  thinned (concatenation a ts) = concatenation a (thinned_each ts)
  thinned (repetition a t low high) = repetition a (thinned t) low high

  pub thinned_each : {A : Type 0} → Trees A → Trees A
  thinned_each none = none
  thinned_each (more t ts) = more (thinned t) (thinned_each ts)

-- some text of the thinned tree has n components
abbrev pub HasComponents : {A : Type 0} → Tree A → ℕ → Type 0
HasComponents t n = (s : List ℕ) × Means (thinned t) false false s × (component_total s ≡ n)

abbrev pub IsLeast : (ℕ → Type 0) → ℕ → Type 0
IsLeast X low = X low × ((n : ℕ) → X n → low ≤ n)

-- none where there is no greatest: whatever the number, a member is at least that
abbrev pub IsGreatest : (ℕ → Type 0) → Option ℕ → Type 0
IsGreatest X None = (m : ℕ) → (n : ℕ) × X n × (m ≤ n)
IsGreatest X (Some high) = X high × ((n : ℕ) → X n → n ≤ high)

-- the numbers of components of the thinned tree's texts lie between these bounds, and reach both; 0 and 0
-- where there is no text
abbrev pub Depth : {A : Type 0} → Tree A → Bounds → Type 0
Depth t r =
    (IsLeast (HasComponents t) r.0 × IsGreatest (HasComponents t) r.1)
    ⊎ (((n : ℕ) → HasComponents t n → ⊥) × (r ≡ (0, Some 0)))

abbrev pub usize_max : ℕ
usize_max = 2 ^ 64 - 1

-- the greatest is at most k
abbrev pub saturated_bound : ℕ → Option ℕ → Option ℕ
saturated_bound k None = None
saturated_bound k (Some n) = Some (min n k)

abbrev pub saturated_bounds : ℕ → Bounds → Bounds
saturated_bounds k r = (min r.0 k, saturated_bound k r.1)

-- the depth, where the greatest number that fits into 64 bits stands for each greater one
abbrev pub SaturatedDepth : {A : Type 0} → Tree A → Bounds → Type 0
SaturatedDepth t s = (r : Bounds) × Depth t r × (s ≡ saturated_bounds usize_max r)
