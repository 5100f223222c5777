-- The depth of a tree is bounded by its cost.
use Rattle.std.proofs.Common.{◌≡◌, ◌*◌, ◌++◌, ◌+◌, ◌==◌, ◌∷◌, ◌≤◌, Bool, List, None, Option, Some, ℕ, [], ap}
use Rattle.std.proofs.Common.{arith, false, inl, inr, length, refl, suc, true, zero}
use Rattle.std.proofs.Math.Nat.{mul-le-mul_left, mul-le-mul_right}
use Rattle.wax_query.specs.{Components.{component_total, slash, slashes}, Ranges.{Bounds, AtMost}}
use Rattle.wax_token.specs.Cost.{branches_cost, copies_of, cost, costs, holds_tree, leaf_cost}
use Rattle.wax_token.specs.Meaning.{Copies, LeafMeans, Means, MeansEach, MeansSome, TreeMeans}
use Rattle.wax_token.specs.Syntax.{Leaf, Tree, Trees, alternation, class, concatenation, leaf, literal, more}
use Rattle.wax_token.specs.Syntax.{none, one, repetition, separator, tree, zero_or_more}
use Rattle.wax_components.specs.Depth.{Depth, HasComponents, thinned, thinned_each, thinned_leaf}
use Rattle.wax_components.proofs.{Basics.{bit_at_most, suc_mul}, DepthLiterals.itself, Shapes.slashes_append}
use Rattle.wax_components.proofs.Singles.{OneCharacter, letter}

-- ---- some text has few `/`
abbrev HasFew : (List ℕ → Type 0) → ℕ → Type 0
HasFew P n = (u : List ℕ) × P u × (slashes u ≤ n)

pub slashes_length : (t : List ℕ) → slashes t ≤ length t
slashes_length [] = omega arith
slashes_length (c ∷ t) = let le : slash c ≤ 1 = bit_at_most (c == 47) in omega (arith, le, slashes_length t)

has_few_wildcard : (b a rooted : Bool) → HasFew (TreeMeans b a rooted) 6
has_few_wildcard false false false = ([], tt, omega arith)
has_few_wildcard false false true = (47 ∷ [], ([], refl), omega arith)
has_few_wildcard false true false = ([], inl refl, omega arith)
has_few_wildcard false true true = (47 ∷ [], (([], refl), ([], refl)), omega arith)
has_few_wildcard true true rooted = (47 ∷ [], (([], refl), ([], refl)), omega arith)
has_few_wildcard true false rooted = ([], inl refl, omega arith)

has_few_character : (n : ℕ) → HasFew OneCharacter n
has_few_character n = (120 ∷ [], (120, refl, letter 120 refl), omega arith)

has_few_leaf : (l : Leaf) (b a : Bool) → HasFew (LeafMeans (thinned_leaf l) b a) (leaf_cost l)
has_few_leaf (literal i t) b a = (t, itself i t, slashes_length t)
has_few_leaf (class n xs) b a = has_few_character 1
has_few_leaf separator b a = (47 ∷ [], refl, omega arith)
has_few_leaf one b a = has_few_character 1
has_few_leaf (zero_or_more v) b a = has_few_character 3
has_few_leaf (tree rooted) b a = has_few_wildcard b a rooted

abbrev HasFewAnywhere : (Bool → Bool → List ℕ → Type 0) → ℕ → Type 0
HasFewAnywhere P n = (b a : Bool) → HasFew (P b a) n

has_few_copies : (Body : Bool → Bool → List ℕ → Type 0) (n : ℕ) → HasFewAnywhere Body n → (low : ℕ)
    → HasFewAnywhere (Copies low Body) (low * n)
has_few_copies Body n f zero b a = ([], refl, omega arith)
has_few_copies Body n f (suc zero) b a = let u : HasFew (Body b a) n = f b a in
    (u.0, u.1, omega (arith, u.2, suc_mul 0 n))
has_few_copies Body n f (suc (suc low)) b a =
    let u : HasFew (Body b true) n = f b true in
    let v : HasFew (Copies (suc low) Body true a) (suc low * n) =
    has_few_copies Body n f (suc low) true a in (
      u.0 ++ v.0,
      (u.0, v.0, refl, u.1, v.1),
      omega (arith, u.2, v.2, slashes_append u.0 v.0, suc_mul (suc low) n),
    )

-- a first copy
one_of : (Body : Bool → Bool → List ℕ → Type 0) {C : Type 0} → ((b a : Bool) (s : List ℕ) → Body b a s → C)
    → (k : ℕ) (b a : Bool) (s : List ℕ) → 1 ≤ k → Copies k Body b a s → C
one_of Body f zero b a s le h = absurd (omega (arith, le))
one_of Body f (suc zero) b a s le h = f b a s h
one_of Body f (suc (suc k)) b a s le h = f b true h.0 h.3

pub enough : (low k : ℕ) (high : Option ℕ) (h : Bool) → low ≤ k → AtMost k high → low ≤ copies_of low high h
enough low k None true le m = omega arith
enough low k None false le m = omega arith
enough low k (Some high) true le m = omega (arith, le, m)
enough low k (Some high) false le m = omega (arith, le, m)

wider : (P : List ℕ → Type 0) (m n : ℕ) → m ≤ n → HasFew P m → HasFew P n
wider P m n le u = (u.0, u.1, omega (arith, le, u.2))

mutual
  pub has_few : {A : Type 0} (t : Tree A) (b a : Bool) (s : List ℕ) → Means (thinned t) b a s
      → HasFewAnywhere (Means (thinned t)) (cost t)
  has_few (leaf x l) b a s h c d = has_few_leaf l c d
  has_few (alternation x ts) b a s h c d = wider (MeansSome (thinned_each ts) c d) (branches_cost ts)
      (1 + branches_cost ts) (omega arith) (has_few_some ts b a s h c d)
  has_few (concatenation x ts) b a s h c d = has_few_each ts b a s h c d
  has_few (repetition x t low high) b a s h c d =
      let e : HasFew (Copies low (Means (thinned t)) c d) (low * cost t) = copies low (cost t) (λ le.
      one_of (Means (thinned t)) (λ b a s m. has_few t b a s m) h.0 b a s (omega (arith, le, h.1)) h.3) in
      let j : low ≤ copies_of low high (holds_tree t) = enough low h.0 high (holds_tree t) h.1 h.2 in
      let k : low * cost t ≤ copies_of low high (holds_tree t) * cost t = mul-le-mul_right (cost t) j in
      let l : copies_of low high (holds_tree t) * cost t ≤ copies_of low high (holds_tree t) * (cost t + 2) =
      mul-le-mul_left (copies_of low high (holds_tree t)) (omega arith) in
      (e.0, (low, omega arith, within h.0 high h.1 h.2, e.1), omega (arith, e.2, k, l))
    where
      copies : (low n : ℕ) → (1 ≤ low → HasFewAnywhere (Means (thinned t)) n)
          → HasFew (Copies low (Means (thinned t)) c d) (low * n)
      copies zero n f = ([], refl, omega arith)
      copies (suc low) n f = has_few_copies (Means (thinned t)) n (f (omega arith)) (suc low) c d

      within : (k : ℕ) (high : Option ℕ) → low ≤ k → AtMost k high → AtMost low high
      within k None le m = tt
      within k (Some n) le m = omega (arith, le, m)

  has_few_some : {A : Type 0} (ts : Trees A) (b a : Bool) (s : List ℕ) → MeansSome (thinned_each ts) b a s
      → HasFewAnywhere (MeansSome (thinned_each ts)) (branches_cost ts)
  has_few_some none b a s h c d = absurd h
  has_few_some (more t ts) b a s (inl h) c d = let u : HasFew (Means (thinned t) c d) (cost t) =
      has_few t b a s h c d in (u.0, inl u.1, omega (arith, u.2))
  has_few_some (more t ts) b a s (inr h) c d =
      let u : HasFew (MeansSome (thinned_each ts) c d) (branches_cost ts) = has_few_some ts b a s h c d in
      (u.0, inr u.1, omega (arith, u.2))

  has_few_each : {A : Type 0} (ts : Trees A) (b a : Bool) (s : List ℕ) → MeansEach (thinned_each ts) b a s
      → HasFewAnywhere (MeansEach (thinned_each ts)) (costs ts)
  has_few_each none b a s h c d = ([], refl, omega arith)
  has_few_each (more t none) b a s h c d =
      wider (Means (thinned t) c d) (cost t) (cost t + 0) (omega arith) (has_few t b a s h c d)
  has_few_each (more t (more u us)) b a s h c d =
      let x : HasFew (Means (thinned t) c true) (cost t) = has_few t b true h.0 h.3 c true in
      let y : HasFew (MeansEach (thinned_each (more u us)) true d) (costs (more u us)) =
      has_few_each (more u us) true a h.1 h.4 true d in
      (x.0 ++ y.0, (x.0, y.0, refl, x.1, y.1), omega (arith, slashes_append x.0 y.0, x.2, y.2))

pub few_components : (s : List ℕ) → component_total s ≤ slashes s + 1
few_components [] = omega arith
few_components (c ∷ s) = omega arith

-- the least number is bounded by the cost
pub least_bounded : {A : Type 0} (t : Tree A) (r : Bounds) → Depth t r → r.0 ≤ cost t + 1
least_bounded t r (inl h) =
    let w : HasComponents t r.0 = h.0.0 in
    let u : HasFew (Means (thinned t) false false) (cost t) = has_few t false false w.0 w.1 false false in
    let le : r.0 ≤ component_total u.0 = h.0.1 (component_total u.0) (u.0, u.1, refl) in
    omega (arith, le, few_components u.0, u.2)
least_bounded t r (inr h) = let e : r.0 ≡ 0 = ap (λ z. z.0) h.1 in omega (arith, e)
