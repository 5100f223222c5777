-- Breadth first, by a row of tokens that are still to come.
use Rattle.std.proofs.Common.{◌≡◌, ℕ, ◌+◌, ◌-◌, ◌<◌, ◌≤◌, zero, suc, max, List, [], ◌∷◌, ◌++◌, drop, take}
use Rattle.std.proofs.Common.{refl, sym, ◌∙◌, ap, arith, append_assoc, append-nil}
use Rattle.std.proofs.lemmas.Grind.{flat_map-append}
use Rattle.std.specs.List.{flat_map}
use Rattle.wax_token.specs.Syntax.{Tree, leaf, alternation, concatenation, repetition, Trees, none, more}
use Rattle.wax_token.specs.{Syntax.{tree_size, trees_size}, View.{branch_tree, topology_tree}}
use Rattle.wax_token.specs.{declared.token.BranchKind.BranchKind, declared.token.LeafKind.LeafKind}
use Rattle.wax_token.specs.declared.token.Topology.{Topology}
use Rattle.wax_token.specs.{declared.token.Topology.TheVariants.Branch as BranchOf, Words.listed}
use Rattle.wax_fold.specs.declared.walk.entry.Position.{Position}
use Rattle.wax_fold.specs.declared.walk.branch.BranchFold.TheVariants.{Alternation, Concatenation, Repetition}
use Rattle.wax_fold.specs.Branches.{Branch, branch_of, picked}
use Rattle.wax_fold.specs.Order.{Entry, root_entry, disjuncts, conjuncts, chosen_in, children_at, children}
use Rattle.wax_fold.specs.Order.{level, levels_to, height, breadth_first}
use Rattle.wax_fold.proofs.Folds.{listed_trees}
use Rattle.wax_token.specs.declared.token.BranchKind.TheVariants as kind

-- ---- what a branch holds is lower than the branch
tallest : {A : Type 0} → List (Tree A) → ℕ
tallest [] = 0
tallest (t ∷ ts) = max (tree_size t + 1) (tallest ts)

tallest-append : {A : Type 0} (ts us : List (Tree A)) → tallest (ts ++ us) ≡ max (tallest ts) (tallest us)
unfolding tallest
tallest-append [] us = omega arith
tallest-append (t ∷ ts) us = omega (arith, tallest-append ts us)

one_lower : {A : Type 0} (n : ℕ) (ts : List (Tree A)) → tallest (take 1 (drop n ts)) ≤ tallest ts
unfolding tallest
one_lower zero [] = omega arith
one_lower (suc n) [] = omega arith
one_lower zero (t ∷ ts) = omega arith
one_lower (suc n) (t ∷ ts) = omega (arith, one_lower n ts)

picked_lower : {A : Type 0} (ns : List ℕ) (ts : List (Tree A)) → tallest (picked ns ts) ≤ tallest ts
unfolding tallest
picked_lower [] ts = omega arith
picked_lower (n ∷ ns) ts =
    omega (arith, tallest-append (take 1 (drop n ts)) (picked ns ts), one_lower n ts, picked_lower ns ts)

listed_lower : {A : Type 0} (ts : Trees A) → tallest (listed ts) ≤ trees_size ts
unfolding tallest
listed_lower none = omega arith
listed_lower (more t ts) = omega (arith, listed_lower ts)

disjuncts-height : {A : Type 0} (p : Position) (n : ℕ) (ts : List (Tree A))
    → height (disjuncts p n ts) ≡ tallest ts
unfolding tallest
disjuncts-height p n [] = refl
disjuncts-height p n (t ∷ ts) = ap (max (tree_size t + 1)) (disjuncts-height p (n + 1) ts)

conjuncts-height : {A : Type 0} (p : Position) (ts : List (Tree A)) → height (conjuncts p ts) ≡ tallest ts
unfolding tallest
conjuncts-height p [] = refl
conjuncts-height p (t ∷ ts) = ap (max (tree_size t + 1)) (conjuncts-height p ts)

pub height-append : {A : Type 0} (es fs : List (Entry A)) → height (es ++ fs) ≡ max (height es) (height fs)
height-append [] fs = omega arith
height-append (e ∷ es) fs = omega (arith, height-append es fs)

added : ℕ → ℕ → ℕ
added zero n = n
added (suc k) n = suc (added k n)

added-plus : (k n : ℕ) → added k n ≡ k + n
unfolding added
added-plus zero n = omega arith
added-plus (suc k) n = omega (arith, added-plus k n)

module _ {A : Type 0} (chosen : Branch A → List ℕ) where
  lower : (p : Position) (t : Tree A) → height (children_at chosen p t) ≤ tree_size t
  unfolding tallest
  lower p (leaf a l) = omega arith
  lower p (alternation a ts) =
      let ns = chosen (record { kind = Alternation; tokens = listed ts }) in
      omega
      (arith, disjuncts-height p 0 (picked ns (listed ts)), picked_lower ns (listed ts), listed_lower ts)
  lower p (concatenation a ts) =
      let ns = chosen (record { kind = Concatenation; tokens = listed ts }) in
      omega (arith, conjuncts-height p (picked ns (listed ts)), picked_lower ns (listed ts), listed_lower ts)
  lower p (repetition a t low high) =
      let ns = chosen (record { kind = Repetition low high; tokens = t ∷ [] }) in
      omega (arith, conjuncts-height p (picked ns (t ∷ [])), picked_lower ns (t ∷ []))

  all_lower : (es : List (Entry A)) → height (flat_map (children chosen) es) ≤ height es - 1
  all_lower [] = omega arith
  all_lower (e ∷ es) =
      omega (
        arith,
        height-append (children chosen e) (flat_map (children chosen) es),
        lower e.position e.token,
        all_lower es,
      )

  -- ---- levels
  pub level-append : (n : ℕ) (es fs : List (Entry A))
      → level chosen n (es ++ fs) ≡ level chosen n es ++ level chosen n fs
  level-append zero es fs = refl
  level-append (suc n) es fs =
      ap (flat_map (children chosen)) (level-append n es fs)
      ∙ flat_map-append (children chosen) (level chosen n es) (level chosen n fs)

  level-below : (n : ℕ) (es : List (Entry A))
      → level chosen (suc n) es ≡ level chosen n (flat_map (children chosen) es)
  level-below zero es = refl
  level-below (suc n) es = ap (flat_map (children chosen)) (level-below n es)

  none_high : (es : List (Entry A)) → height es ≤ 0 → es ≡ []
  none_high [] h = refl
  none_high (e ∷ es) h = absurd (omega (arith, h))

  beyond : (n : ℕ) (es : List (Entry A)) → height es ≤ n → level chosen n es ≡ []
  beyond zero es h = none_high es h
  beyond (suc n) es h =
      level-below n es ∙ beyond n (flat_map (children chosen) es) (omega (arith, all_lower es, h))

  pub no_deeper : (t : Tree A) (n : ℕ) → tree_size t < n → level chosen n (root_entry t ∷ []) ≡ []
  no_deeper t n h = beyond n (root_entry t ∷ []) (omega (arith, h))

  further : (k n : ℕ) (es : List (Entry A)) → height es ≤ n
      → levels_to chosen (added k n) es ≡ levels_to chosen n es
  unfolding added
  further zero n es h = refl
  further (suc k) n es h =
      ap (λ z. levels_to chosen (added k n) es ++ z)
      (beyond (suc (added k n)) es (omega (arith, added-plus k n, h)))
      ∙ append-nil (levels_to chosen (added k n) es) ∙ further k n es h

  pub settled : (n : ℕ) (es : List (Entry A)) → height es ≤ n
      → levels_to chosen n es ≡ breadth_first chosen es
  settled n es h =
      let e : n ≡ added (n - height es) (height es) =
      omega (arith, added-plus (n - height es) (height es), h) in
      ap (λ k. levels_to chosen k es) e ∙ further (n - height es) (height es) es (omega arith)

  -- ---- the first token, and then the others with what is below it at the end
  moved : (n : ℕ) (e : Entry A) (es : List (Entry A)) → levels_to chosen (suc n) (e ∷ es)
      ≡ e ∷ (levels_to chosen n (es ++ children chosen e) ++ level chosen (suc n) es)
  moved zero e es =
      ap (λ z. e ∷ z) (sym (append_assoc es (children chosen e) (flat_map (children chosen) es)))
  moved (suc n) e es =
      let before = levels_to chosen n (es ++ children chosen e) in
      let others = level chosen (suc n) es in
      let own = level chosen (suc (suc n)) (e ∷ []) in
      let last = level chosen (suc (suc n)) es in
      let under : level chosen (suc n) (es ++ children chosen e) ≡ others ++ own =
      level-append (suc n) es (children chosen e)
      ∙ ap (λ z. others ++ z)
      (sym (level-below (suc n) (e ∷ []) ∙ ap (level chosen (suc n)) (append-nil (children chosen e)))) in
      ap (λ z. z ++ level chosen (suc (suc n)) (e ∷ es)) (moved n e es)
      ∙ ap (λ z. (e ∷ (before ++ others)) ++ z) (level-append (suc (suc n)) (e ∷ []) es)
      ∙ ap (λ z. e ∷ z) (append_assoc before others (own ++ last)
      ∙ ap (λ z. before ++ z) (sym (append_assoc others own last))
      ∙ sym (append_assoc before (others ++ own) last)
      ∙ ap (λ z. (before ++ z) ++ last) (sym under))

  pub next_first : (e : Entry A) (es : List (Entry A)) →
      breadth_first chosen (e ∷ es) ≡ e ∷ breadth_first chosen (es ++ children chosen e)
  next_first e es =
      let n = height (e ∷ es) in
      sym (settled (suc n) (e ∷ es) (omega arith))
      ∙ moved n e es
      ∙ ap (λ z. e ∷ (levels_to chosen n (es ++ children chosen e) ++ z)) (beyond (suc n) es (omega arith))
      ∙ ap (λ z. e ∷ z) (append-nil (levels_to chosen n (es ++ children chosen e))
      ∙ settled n (es ++ children chosen e)
      (omega (arith, height-append es (children chosen e), lower e.position e.token)))

  -- ---- a branch as it stands
  of_branch : (b : BranchKind A) (a : A) (p : Position)
      → children_at chosen p (branch_tree b a) ≡ chosen_in chosen (branch_of b) p
  of_branch (kind.Alternation x) a p =
      ap (λ z. chosen_in chosen (record { kind = Alternation; tokens = z }) p) (listed_trees x.tokens.items)
  of_branch (kind.Concatenation x) a p =
      ap (λ z. chosen_in chosen (record { kind = Concatenation; tokens = z }) p) (listed_trees x.tokens.items)
  of_branch (kind.Repetition r) a p = refl

  pub children_of_branch : (x : Topology (BranchKind A) LeafKind) (b : BranchKind A) (t : Tree A)
      (a : A) (p : Position) →
      x ≡ BranchOf b → topology_tree x a ≡ t → chosen_in chosen (branch_of b) p ≡ children_at chosen p t
  children_of_branch x b t a p e h =
      sym (of_branch b a p) ∙ ap (λ z. children_at chosen p (topology_tree z a)) (sym e)
      ∙ ap (children_at chosen p) h
