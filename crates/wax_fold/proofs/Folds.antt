-- The fold of a branch, and how many steps it takes.
use Rattle.std.proofs.Common.{◌≡◌, ℕ, ◌+◌, ◌<◌, ◌≤◌, List, [], ◌∷◌, ◌++◌, Option, map, refl, sym, ◌∙◌, ap}
use Rattle.std.proofs.Common.{arith, append-nil}
use Rattle.std.specs.List.{flat_map}
use Rattle.wax_token.specs.{Syntax.Tree, View.{branch_tree, topology_tree}, Words.{trees, listed}}
use Rattle.wax_token.specs.{declared.token.BranchKind.BranchKind, declared.token.LeafKind.LeafKind}
use Rattle.wax_token.specs.declared.token.Topology.{Topology}
use Rattle.wax_token.specs.declared.token.Topology.TheVariants.{Branch as BranchOf}
use Rattle.wax_fold.specs.declared.walk.branch.BranchFold.{BranchFold}
use Rattle.wax_fold.specs.declared.walk.branch.BranchFold.TheVariants.{Alternation, Concatenation}
use Rattle.wax_fold.specs.Branches.{Branch, branch_of, picked}
use Rattle.wax_fold.specs.Folded.{Folding, listed_term, branch_term, folded, folded_each}
use Rattle.wax_fold.specs.inner.BranchFolded.{branch_folded}
use Rattle.wax_fold.specs.inner.OpenBranches.{OpenBranch, closing, folding, with_term, counting}
use Rattle.wax_fold.specs.inner.OpenBranches.{branch_visits}
use Rattle.wax_fold.specs.inner.Opens.{Open, closed, closed_all, results, total, steps_in, steps_left}
use Rattle.wax_fold.proofs.{Opens.{alone, entered, left, steps_entered, steps_back}, Picking.picked_mapped}
use Rattle.wax_token.specs.declared.token.BranchKind.TheVariants as kind

pub listed_trees : {A : Type 0} (ts : List (Tree A)) → listed (trees ts) ≡ ts
listed_trees [] = refl
listed_trees (t ∷ ts) = ap (λ z. t ∷ z) (listed_trees ts)

module _ {A T : Type 0} (chosen : Branch A → List ℕ) (f : Folding A T) where
  folded_trees : (ts : List (Tree A)) → folded_each chosen f (trees ts) ≡ map (folded chosen f) ts
  folded_trees [] = refl
  folded_trees (t ∷ ts) = ap (λ z. folded chosen f t ∷ z) (folded_trees ts)

  of_kind : (k : BranchFold) (ts : List (Tree A)) →
      branch_term chosen f (record { kind = k; tokens = listed (trees ts) }) (folded_each chosen f (trees ts))
      ≡ branch_folded chosen f (record { kind = k; tokens = ts })
  of_kind k ts =
      ap (λ z. branch_term chosen f (record { kind = k; tokens = z }) (folded_each chosen f (trees ts)))
      (listed_trees ts)
      ∙ ap (branch_term chosen f (record { kind = k; tokens = ts })) (folded_trees ts)

  -- a branch
  pub folded_branch : (b : BranchKind A) (a : A)
      → folded chosen f (branch_tree b a) ≡ branch_folded chosen f (branch_of b)
  folded_branch (kind.Alternation x) a = of_kind Alternation x.tokens.items
  folded_branch (kind.Concatenation x) a = of_kind Concatenation x.tokens.items
  folded_branch (kind.Repetition r) a = refl

  pub folded_token : (x : Topology (BranchKind A) LeafKind) (b : BranchKind A) (t : Tree A) (a : A) →
      x ≡ BranchOf b → topology_tree x a ≡ t → branch_folded chosen f (branch_of b) ≡ folded chosen f t
  folded_token x b t a e h =
      sym (folded_branch b a) ∙ ap (λ z. folded chosen f (topology_tree z a)) (sym e) ∙ ap (folded chosen f) h

  -- a branch that was just opened
  pub opened : (o : OpenBranch A T) (b : Branch A)
      → o ≡ record { branch = b; rest = picked (chosen b) b.tokens; terms = [] } →
      closed (folded chosen f) (folding f o) ≡ branch_folded chosen f b
  opened o b e =
      ap (λ z. closed (folded chosen f) (folding f z)) e
      ∙ ap (closing f b) (sym (picked_mapped listed_term (folded chosen f) (chosen b) b.tokens))

module _ {A T : Type 0} (chosen : Branch A → List ℕ) (f : Folding A T) (w : Option T) where
  -- none is around the first
  pub begun : {X : Type 0} (view : X → Open A T) (xs : List X) (o : OpenBranch A T) (b : Branch A) → xs ≡ [] →
      o ≡ record { branch = b; rest = picked (chosen b) b.tokens; terms = [] } →
      closed_all (folded chosen f) (map view xs) (closed (folded chosen f) (folding f o))
      ≡ branch_folded chosen f b
  begun view xs o b e i =
      alone (folded chosen f) view xs (closed (folded chosen f) (folding f o)) e ∙ opened chosen f o b i

  -- a token that is a branch is opened
  pub deeper : (os all : List (Open A T)) (o n inner : OpenBranch A T) (t : Tree A) (b : Branch A) →
      all ≡ os ++ folding f n ∷ [] → (o.rest ≡ t ∷ n.rest) × (n.branch ≡ o.branch) × (n.terms ≡ o.terms) →
      inner ≡ record { branch = b; rest = picked (chosen b) b.tokens; terms = [] } →
      branch_folded chosen f b ≡ folded chosen f t →
      closed_all (folded chosen f) os (closed (folded chosen f) (folding f o)) ≡ w →
      closed_all (folded chosen f) all (closed (folded chosen f) (folding f inner)) ≡ w
  deeper os all o n inner t b e h i k v =
      entered (folded chosen f) os all (folding f o) (folding f n) (folding f inner) t e h.0
      (ap (closing f) h.1) h.2
      (opened chosen f inner b i ∙ k) ∙ v

  -- a branch is closed
  pub back : (os all : List (Open A T)) (o n around new : OpenBranch A T) (g : Folding A T) (x : Option T) →
      all ≡ os ++ folding f around ∷ [] → (o.rest ≡ []) × (n ≡ o) → g ≡ f →
      x ≡ closing g n.branch n.terms → new ≡ with_term around x →
      closed_all (folded chosen f) all (closed (folded chosen f) (folding f o)) ≡ w →
      closed_all (folded chosen f) os (closed (folded chosen f) (folding f new)) ≡ w
  back os all o n around new g x e h s k i v =
      left (folded chosen f) os all (folding f o) (folding f around) (folding f new) x e h.0
      (k ∙ ap (λ z. closing z n.branch n.terms) s ∙ ap (λ z. closing f z.branch z.terms) h.1)
      (ap (folding f) i) ∙ v

total-append : (xs ys : List ℕ) → total (xs ++ ys) ≡ total xs + total ys
total-append [] ys = omega arith
total-append (x ∷ xs) ys = omega (arith, total-append xs ys)

module _ {A : Type 0} (chosen : Branch A → List ℕ) where
  total_visits : (ts : List (Tree A)) → total (map (branch_visits chosen) ts)
      ≡ total (results (folded chosen counting) ts)
  total_visits [] = refl
  total_visits (t ∷ ts) =
      omega (
        arith,
        total-append (listed_term (folded chosen counting t)) (results (folded chosen counting) ts),
        total_visits ts,
      )

  -- the tokens of a branch take fewer steps than the branch
  pub visits_inside : {T : Type 0} (o : OpenBranch A T) (b : Branch A) (t : Tree A) →
      o ≡ record { branch = b; rest = picked (chosen b) b.tokens; terms = [] } →
      branch_folded chosen counting b ≡ folded chosen counting t
      → total (map (branch_visits chosen) o.rest) + 2 ≤ branch_visits chosen t
  visits_inside o b t e h =
      let inside : List ℕ =
      flat_map listed_term (picked (chosen b) (map (folded chosen counting) b.tokens)) in
      let here : total (inside ++ []) + 2 + 0 ≡ branch_visits chosen t = ap (λ z. total (listed_term z)) h in
      let within : total (inside ++ [])
      ≡ total (results (folded chosen counting) (picked (chosen b) b.tokens)) =
      ap total (append-nil inside ∙ picked_mapped listed_term (folded chosen counting) (chosen b) b.tokens) in
      let rest : total (map (branch_visits chosen) o.rest)
      ≡ total (map (branch_visits chosen) (picked (chosen b) b.tokens)) =
      ap (λ z. total (map (branch_visits chosen) z.rest)) e in
      omega (arith, here, within, rest, total_visits (picked (chosen b) b.tokens))

  pub fewer_deeper : {T : Type 0} (f : Folding A T) (os all : List (Open A T)) (o n inner : OpenBranch A T)
      (t : Tree A) (b : Branch A) →
      all ≡ os ++ folding f n ∷ [] → o.rest ≡ t ∷ n.rest →
      inner ≡ record { branch = b; rest = picked (chosen b) b.tokens; terms = [] } →
      branch_folded chosen counting b ≡ folded chosen counting t →
      steps_left (branch_visits chosen) all + steps_in (branch_visits chosen) (folding f inner)
      < steps_left (branch_visits chosen) os + steps_in (branch_visits chosen) (folding f o)
  fewer_deeper f os all o n inner t b e r i k =
      steps_entered (branch_visits chosen) os all (folding f o) (folding f n) (folding f inner) t e r
      (visits_inside inner b t i k)

  pub fewer_back : {T : Type 0} (f : Folding A T) (os all : List (Open A T))
      (o around new : OpenBranch A T) (x : Option T) →
      all ≡ os ++ folding f around ∷ [] → new ≡ with_term around x →
      steps_left (branch_visits chosen) os + steps_in (branch_visits chosen) (folding f new)
      < steps_left (branch_visits chosen) all + steps_in (branch_visits chosen) (folding f o)
  fewer_back f os all o around new x e i =
      steps_back (branch_visits chosen) os all (folding f o) (folding f around)
      (folding f new) e (ap (λ z. z.rest) i)
