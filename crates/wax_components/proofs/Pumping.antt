-- A text has at most as many `/` as its tree costs, or its shape has texts with any number.
use Rattle.std.proofs.Common.{◌*◌, ◌++◌, ◌+◌, ◌==◌, ◌||◌, ◌∙◌, ◌∷◌, ◌≡◌, ◌≤◌, ◌⊎◌, Bool, List, None, Some, ℕ}
use Rattle.std.proofs.Common.{[], ap, arith, false, inl, inr, refl, suc, sym, true, zero}
use Rattle.std.proofs.Math.Nat.{mul-le-mul_left, mul-le-mul_right}
use Rattle.wax_query.specs.{Components.{component_total, last_slash, slashes}, Ranges.AtMost}
use Rattle.wax_token.proofs.Copies.{Many, OneThen, same_from, same_to, tail_from, tail_to}
use Rattle.wax_token.proofs.Moved.{means_moved}
use Rattle.wax_token.specs.Cost.{branches_cost, copies_of, cost, costs, holds_tree, is_tree, leaf_cost}
use Rattle.wax_token.specs.Cost.{some_holds_tree}
use Rattle.wax_token.specs.Meaning.{Copies, LeafMeans, Means, MeansEach, MeansSome, TreeMeans}
use Rattle.wax_token.specs.Syntax.{Leaf, Tree, Trees, alternation, class, concatenation, leaf, literal, more}
use Rattle.wax_token.specs.Syntax.{none, one, repetition, separator, tree, zero_or_more}
use Rattle.wax_components.specs.Depth.{Depth, HasComponents, thinned, thinned_each, thinned_leaf}
use Rattle.wax_components.specs.inner.Shapes.{Shape, ended, joined_shape, shape}
use Rattle.wax_components.specs.inner.TreeProfiles.{tree_allows}
use Rattle.wax_components.proofs.Again.{again, again_many, again_shape, again_slashes}
use Rattle.wax_components.proofs.Basics.{bit_at_most, suc_mul, zero_or_some}
use Rattle.wax_components.proofs.{Costs.{few_components, slashes_length}, Exact.Has, DepthLiterals.same_text}
use Rattle.wax_components.proofs.Shapes.{shape_append, shape_of_some, slashes_append, some_shape}
use Rattle.wax_components.proofs.TreeWildcards.{Anything, long, tree_from, tree_to}

abbrev pub Pumps : (List ℕ → Type 0) → Shape → Type 0
Pumps P x = (m : ℕ) → (u : List ℕ) × P u × (shape u ≡ x) × (m ≤ slashes u)

abbrev pub FewOrPumps : (List ℕ → Type 0) → ℕ → List ℕ → Type 0
FewOrPumps P n s = (slashes s ≤ n) ⊎ Pumps P (shape s)

few_or_pumps_weaker : (P Q : List ℕ → Type 0) → ((s : List ℕ) → P s → Q s) → (m n : ℕ) → m ≤ n → (s : List ℕ)
    → FewOrPumps P m s → FewOrPumps Q n s
few_or_pumps_weaker P Q f m n le s (inl h) = inl (omega (arith, le, h))
few_or_pumps_weaker P Q f m n le s (inr h) = inr (λ k. let r : (u : List ℕ) × P u × (shape u ≡ shape s)
    × (k ≤ slashes u) = h k in (r.0, f r.0 r.1, r.2, r.3))

few_or_pumps_join : (P Q : List ℕ → Type 0) (m n : ℕ) (x y s : List ℕ) → s ≡ x ++ y → P x → Q y
    → FewOrPumps P m x → FewOrPumps Q n y → FewOrPumps (OneThen P Q) (m + n) s
few_or_pumps_join P Q m n x y s e p q (inl h) (inl k) =
    inl (let g : slashes s ≡ slashes (x ++ y) = ap slashes e in omega (arith, g, slashes_append x y, h, k))
few_or_pumps_join P Q m n x y s e p q (inr h) k = inr (λ j.
    let r : (u : List ℕ) × P u × (shape u ≡ shape x) × (j ≤ slashes u) = h j in (
      r.0 ++ y,
      (r.0, y, refl, r.1, q),
      shape_append r.0 y ∙ ap (λ z. joined_shape z (shape y)) r.2 ∙ sym (shape_append x y) ∙ sym (ap shape e),
      omega (arith, slashes_append r.0 y, r.3),
    ))
few_or_pumps_join P Q m n x y s e p q (inl h) (inr k) = inr (λ j.
    let r : (u : List ℕ) × Q u × (shape u ≡ shape y) × (j ≤ slashes u) = k j in (
      x ++ r.0,
      (x, r.0, refl, p, r.1),
      shape_append x r.0 ∙ ap (joined_shape (shape x)) r.2 ∙ sym (shape_append x y) ∙ sym (ap shape e),
      omega (arith, slashes_append x r.0, r.3),
    ))

-- ---- leaves
few_or_pumps_wildcard : (b a rooted : Bool) (s : List ℕ) → TreeMeans b a rooted s
    → FewOrPumps (TreeMeans b a rooted) 6 s
few_or_pumps_wildcard b a rooted [] h = inl (omega arith)
few_or_pumps_wildcard b a rooted (c ∷ s) h = inr (λ m.
    let k : (x : Bool) × (y : Bool) × (shape (c ∷ s) ≡ ended x y) = shape_of_some c s in
    let r : (n : ℕ) × Has Anything (ended k.0 k.1) n × (m ≤ n) = long k.0 k.1 m in
    let e : shape r.1.0 ≡ shape (c ∷ s) = r.1.2 ∙ sym k.2 in (
      r.1.0,
      tree_from b a rooted r.1.0 (ap (tree_allows b a rooted) e ∙ tree_to b a rooted (c ∷ s) h),
      e,
      omega (arith, r.1.3, r.2),
    ))

one_slashes : (c : ℕ) (s : List ℕ) → s ≡ c ∷ [] → slashes s ≤ 1
one_slashes c s e = let g : slashes s ≡ slashes (c ∷ []) = ap slashes e in
    omega (arith, g, slashes_length (c ∷ []))

few_or_pumps_leaf : (l : Leaf) (b a : Bool) (s : List ℕ) → LeafMeans (thinned_leaf l) b a s
    → FewOrPumps (LeafMeans (thinned_leaf l) b a) (leaf_cost l) s
few_or_pumps_leaf (literal i t) b a s h = inl (omega (arith, (same_text i t s h).1, slashes_length t))
few_or_pumps_leaf (class n xs) b a s h = inl (one_slashes h.0 s h.1)
few_or_pumps_leaf separator b a s h = inl (one_slashes 47 s h)
few_or_pumps_leaf one b a s h = inl (one_slashes h.0 s h.1)
few_or_pumps_leaf (zero_or_more v) b a s h = inl (omega (arith, one_slashes h.0 s h.1))
few_or_pumps_leaf (tree rooted) b a s h = few_or_pumps_wildcard b a rooted s h

module _ (Body : Bool → Bool → List ℕ → Type 0) (n : ℕ)
    (f : (b a : Bool) (s : List ℕ) → Body b a s → FewOrPumps (Body b a) n s) where
  few_or_pumps_copies : (k : ℕ) (b a : Bool) (s : List ℕ) → Copies k Body b a s
      → FewOrPumps (Copies k Body b a) (k * n) s
  few_or_pumps_copies zero b a s h = inl (let e : slashes s ≡ 0 = ap slashes h in omega (arith, e))
  few_or_pumps_copies (suc zero) b a s h = few_or_pumps_weaker (Body b a) (Body b a) (λ u p. p) n (1 * n)
      (omega (arith, suc_mul 0 n)) s (f b a s h)
  few_or_pumps_copies (suc (suc k)) b a s h =
      few_or_pumps_weaker (OneThen (Body b true) (Copies (suc k) Body true a)) (Copies (suc (suc k)) Body b a)
      (λ u p. p) (n + suc k * n) (suc (suc k) * n) (omega (arith, suc_mul (suc k) n)) s
      (few_or_pumps_join (Body b true) (Copies (suc k) Body true a) n (suc k * n) h.0 h.1 s h.2 h.3 h.4
      (f b true h.0 h.3) (few_or_pumps_copies (suc k) true a h.1 h.4))

  abbrev Open : ℕ → Bool → Bool → List ℕ → Type 0
  Open low b a s = (k : ℕ) × (low ≤ k) × AtMost k None × Copies k Body b a s

  -- any number of copies, in contexts that may differ
  few_or_pumps_open : (low k : ℕ) (b a : Bool) (s : List ℕ) → low ≤ k → Copies k Body b a s
      → FewOrPumps (Open low b a) (n + n) s
  few_or_pumps_open low zero b a s le h = inl (let e : slashes s ≡ 0 = ap slashes h in omega (arith, e))
  few_or_pumps_open low (suc zero) b a s le h = few_or_pumps_weaker (Body b a) (Open low b a)
      (λ u p. (1, le, tt, p)) n (n + n) (omega arith) s (f b a s h)
  few_or_pumps_open low (suc (suc k)) b a s le h = elim (zero_or_some (slashes r.0)) [
    | inl e ↦ (let w :
        FewOrPumps (OneThen (Body b true) (OneThen (Many (Body true true) k) (Body true a))) (n + (0 + n)) s =
        few_or_pumps_join (Body b true) (OneThen (Many (Body true true) k) (Body true a)) n
        (0 + n) h.0 h.1 s h.2 h.3 r (f b true h.0 h.3)
        (few_or_pumps_join (Many (Body true true) k) (Body true a) 0 n r.0 r.1 h.1 r.2 r.3 r.4
        (inl (omega (arith, e))) (f true a r.1 r.4)) in
        few_or_pumps_weaker (OneThen (Body b true) (OneThen (Many (Body true true) k) (Body true a)))
        (Open low b a)
        (λ u p. (suc (suc k), le, tt, (p.0, p.1, p.2, p.3, tail_from Body k a p.1 p.4))) (n + (0 + n))
        (n + n) (omega arith) s w)
    | inr e ↦ inr (λ m.
        let v : List ℕ = again (suc m) r.0 in
        let j : k ≤ suc m * k = omega (arith, suc_mul m k) in
        let g : shape v ≡ shape r.0 = again_shape m r.0 (some_shape r.0 e) in (
          h.0 ++ (v ++ r.1),
          (
            suc (suc (suc m * k)),
            omega (arith, le, j),
            tt,
            (
              h.0,
              v ++ r.1,
              refl,
              h.3,
              tail_from Body (suc m * k) a (v ++ r.1)
                  (v, r.1, refl, again_many (Body true true) k (suc m) r.0 r.3, r.4),
            ),
          ),
          shape_append h.0 (v ++ r.1) ∙ ap (joined_shape (shape h.0)) (shape_append v r.1
              ∙ ap (λ z. joined_shape z (shape r.1)) g ∙ sym (shape_append r.0 r.1) ∙ sym (ap shape r.2))
              ∙ sym (shape_append h.0 h.1) ∙ sym (ap shape h.2),
          omega (arith, slashes_append h.0 (v ++ r.1), slashes_append v r.1, again_slashes (suc m) r.0 e),
        ))
  ]
    where
      r : OneThen (Many (Body true true) k) (Body true a) h.1
      r = tail_to Body k a h.1 h.4

module _ (Body : Bool → Bool → List ℕ → Type 0)
    (move : (b f b' f' : Bool) (s : List ℕ) → Body b f s → Body b' f' s) where
  abbrev OpenCopies : ℕ → Bool → Bool → List ℕ → Type 0
  OpenCopies low b a s = (k : ℕ) × (low ≤ k) × AtMost k None × Copies k Body b a s

  few_or_pumps_free : (low k : ℕ) (b a : Bool) (s : List ℕ) → low ≤ k → Copies k Body b a s
      → FewOrPumps (OpenCopies low b a) 0 s
  few_or_pumps_free low k b a s le h = elim (zero_or_some (slashes s)) [
    | inl e ↦ inl (omega (arith, e))
    | inr e ↦ inr (λ m. (
      again (suc m) s,
      (
        suc m * k,
        (let j : k ≤ suc m * k = omega (arith, suc_mul m k) in omega (arith, le, j)),
        tt,
        same_from Body move (suc m * k) b a (again (suc m) s)
            (again_many (Body b a) k (suc m) s (same_to Body move k b a s h)),
      ),
      again_shape m s (some_shape s e),
      (let j : suc m ≤ slashes (again (suc m) s) = again_slashes (suc m) s e in omega (arith, j)),
    ))
  ]

-- ---- trees
mutual
  holds_tree-thinned : {A : Type 0} (t : Tree A) → holds_tree (thinned t) ≡ holds_tree t
  holds_tree-thinned (leaf a l) = is_tree-thinned l
    where
      is_tree-thinned : (l : Leaf) → is_tree (thinned_leaf l) ≡ is_tree l
      is_tree-thinned (literal insensitive t) = refl
      is_tree-thinned (class negated xs) = refl
      is_tree-thinned separator = refl
      is_tree-thinned one = refl
      is_tree-thinned (zero_or_more evaluation) = refl
      is_tree-thinned (tree rooted) = refl
  holds_tree-thinned (alternation a ts) = some_holds_tree-thinned ts
  holds_tree-thinned (concatenation a ts) = some_holds_tree-thinned ts
  holds_tree-thinned (repetition a t low high) = holds_tree-thinned t

  some_holds_tree-thinned : {A : Type 0} (ts : Trees A)
      → some_holds_tree (thinned_each ts) ≡ some_holds_tree ts
  some_holds_tree-thinned none = refl
  some_holds_tree-thinned (more t ts) =
      ap (λ b. b || some_holds_tree (thinned_each ts)) (holds_tree-thinned t)
      ∙ ap (λ b. holds_tree t || b) (some_holds_tree-thinned ts)

mutual
  pub few_or_pumps : {A : Type 0} (t : Tree A) (b a : Bool) (s : List ℕ) → Means (thinned t) b a s
      → FewOrPumps (Means (thinned t) b a) (cost t) s
  few_or_pumps (leaf x l) b a s h = few_or_pumps_leaf l b a s h
  few_or_pumps (alternation x ts) b a s h =
      few_or_pumps_weaker (MeansSome (thinned_each ts) b a) (MeansSome (thinned_each ts) b a) (λ u p. p)
      (branches_cost ts) (1 + branches_cost ts) (omega arith) s (few_or_pumps_some ts b a s h)
  few_or_pumps (concatenation x ts) b a s h = few_or_pumps_each ts b a s h
  few_or_pumps (repetition x t low (Some high)) b a s h =
      let c : ℕ = copies_of low (Some high) (holds_tree t) in
      let j : h.0 ≤ copies_of low (Some high) (holds_tree t) = upper (holds_tree t) h.2 in
      let k : h.0 * cost t ≤ copies_of low (Some high) (holds_tree t) * cost t =
      mul-le-mul_right (cost t) j in
      let l : copies_of low (Some high) (holds_tree t) * cost t ≤ copies_of low (Some high) (holds_tree t)
      * (cost t + 2) = mul-le-mul_left (copies_of low (Some high) (holds_tree t)) (omega arith) in
      few_or_pumps_weaker (Copies h.0 (Means (thinned t)) b a)
      (Means (thinned (repetition x t low (Some high))) b a) (λ u p. (h.0, h.1, h.2, p)) (h.0 * cost t)
      (cost (repetition x t low (Some high))) (omega (arith, k, l)) s
      (few_or_pumps_copies (Means (thinned t)) (cost t) (λ b a s m. few_or_pumps t b a s m) h.0 b a s h.3)
    where
      upper : (tr : Bool) → h.0 ≤ high → h.0 ≤ copies_of low (Some high) tr
      upper true le = omega (arith, le)
      upper false le = omega (arith, le)
  few_or_pumps (repetition x t low None) b a s h = elim (holds_tree t) as (λ z. holds_tree t ≡ z → FewOrPumps
      (Means (thinned (repetition x t low None)) b a) (copies_of low None z * (cost t + 2) + 2) s) [
        | true ↦ λ e. (let k : 4 * (cost t + 2) ≤ (low + 1 + 3) * (cost t + 2) =
            mul-le-mul_right (cost t + 2) (omega arith) in
            few_or_pumps_weaker (Means (thinned (repetition x t low None)) b a)
            (Means (thinned (repetition x t low None)) b a) (λ u p. p) (cost t + cost t)
            ((low + 1 + 3) * (cost t + 2) + 2) (omega (arith, k)) s
            (few_or_pumps_open (Means (thinned t)) (cost t) (λ b a s m. few_or_pumps t b a s m)
            low h.0 b a s h.1 h.3))
        | false ↦ λ e. few_or_pumps_weaker (Means (thinned (repetition x t low None)) b a) (Means (thinned
            (repetition x t low None)) b a) (λ u p. p) 0 ((low + 1 + 0) * (cost t + 2) + 2) (omega arith) s
            (few_or_pumps_free (Means (thinned t)) (means_moved (thinned t) (holds_tree-thinned t ∙ e))
            low h.0 b a s h.1 h.3)
      ] refl

  few_or_pumps_some : {A : Type 0} (ts : Trees A) (b a : Bool) (s : List ℕ)
      → MeansSome (thinned_each ts) b a s → FewOrPumps (MeansSome (thinned_each ts) b a) (branches_cost ts) s
  few_or_pumps_some none b a s h = absurd h
  few_or_pumps_some (more t ts) b a s (inl h) =
      few_or_pumps_weaker (Means (thinned t) b a) (MeansSome (thinned_each (more t ts)) b a) (λ u p. inl p)
      (cost t) (branches_cost (more t ts)) (omega arith) s (few_or_pumps t b a s h)
  few_or_pumps_some (more t ts) b a s (inr h) = few_or_pumps_weaker (MeansSome (thinned_each ts) b a)
      (MeansSome (thinned_each (more t ts)) b a) (λ u p. inr p) (branches_cost ts) (branches_cost (more t ts))
      (omega arith) s (few_or_pumps_some ts b a s h)

  few_or_pumps_each : {A : Type 0} (ts : Trees A) (b a : Bool) (s : List ℕ)
      → MeansEach (thinned_each ts) b a s → FewOrPumps (MeansEach (thinned_each ts) b a) (costs ts) s
  few_or_pumps_each none b a s h = inl (let e : slashes s ≡ 0 = ap slashes h in omega (arith, e))
  few_or_pumps_each (more t none) b a s h = few_or_pumps_weaker (Means (thinned t) b a)
      (Means (thinned t) b a) (λ u p. p) (cost t) (cost t + 0) (omega arith) s (few_or_pumps t b a s h)
  few_or_pumps_each (more t (more u us)) b a s h =
      few_or_pumps_weaker (OneThen (Means (thinned t) b true) (MeansEach (thinned_each (more u us)) true a))
      (MeansEach (thinned_each (more t (more u us))) b a) (λ v p. p) (cost t + costs (more u us))
      (costs (more t (more u us))) (omega arith) s
      (few_or_pumps_join (Means (thinned t) b true) (MeansEach (thinned_each (more u us)) true a)
      (cost t) (costs (more u us)) h.0 h.1 s h.2 h.3 h.4 (few_or_pumps t b true h.0 h.3)
      (few_or_pumps_each (more u us) true a h.1 h.4))

-- ---- the greatest number is bounded by the cost
last_at_most : (c : ℕ) (s : List ℕ) → last_slash (c ∷ s) ≤ 1
last_at_most c [] = bit_at_most (c == 47)
last_at_most c (d ∷ s) = last_at_most d s

many_components : (s : List ℕ) → slashes s ≤ component_total s + 1
many_components [] = omega arith
many_components (c ∷ s) = omega (arith, bit_at_most (c == 47), last_at_most c s)

pub greatest_bounded : {A : Type 0} (t : Tree A) (low high : ℕ) → Depth t (low, Some high) → high ≤ cost t + 1
greatest_bounded t low high (inl h) =
    let w : HasComponents t high = h.1.0 in
    elim (few_or_pumps t false false w.0 w.1) [
      | inl le ↦ omega (arith, le, few_components w.0, w.2)
      | inr heavy ↦ (let u : (u : List ℕ) × Means (thinned t) false false u × (shape u ≡ shape w.0)
          × (high + 2 ≤ slashes u) = heavy (high + 2) in
          let le : component_total u.0 ≤ high = h.1.1 (component_total u.0) (u.0, u.1, refl) in
          absurd (omega (arith, le, many_components u.0, u.3)))
    ]
greatest_bounded t low high (inr h) = let e : high ≡ 0 = same (ap (λ z. z.1) h.1) in omega (arith, e)
  where
    same : Some high ≡ Some 0 → high ≡ 0
    same e = cc
