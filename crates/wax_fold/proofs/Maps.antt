-- A tree that is built anew, and how many steps it takes.
use Rattle.std.proofs.Common.{◌≡◌, ◌+◌, ◌*◌, ◌<◌, ◌≤◌, List, [], ◌∷◌, ◌++◌, Option, Some, map, refl, sym, ◌∙◌}
use Rattle.std.proofs.Common.{ap, arith, append-nil}
use Rattle.wax_token.specs.{Syntax.{Tree, trees_size}, View.{branch_tree, topology_tree}, Words.trees}
use Rattle.wax_token.specs.{declared.token.BranchKind.BranchKind, declared.token.LeafKind.LeafKind}
use Rattle.wax_token.specs.declared.token.Topology.{Topology}
use Rattle.wax_token.specs.declared.token.Topology.TheVariants.{Branch as BranchOf}
use Rattle.wax_fold.specs.declared.walk.branch.BranchFold.TheVariants.{Alternation, Concatenation, Repetition}
use Rattle.wax_fold.specs.{Branches.branch_of, Folded.listed_term, Mapped.{Mapping, mapped, mapped_each}}
use Rattle.wax_fold.specs.inner.OpenTokens.{OpenToken, NextToken, mapping, tree_visits, with_token}
use Rattle.wax_fold.specs.inner.Opens.{Open, closed, closed_all, results, total, steps_in, steps_left}
use Rattle.wax_fold.proofs.Opens.{alone, entered, left, steps_entered, steps_back}
use Rattle.wax_token.specs.declared.token.BranchKind.TheVariants as kind

module _ {A X : Type 0} (f : Mapping A X) where
  mapped_trees : (ts : List (Tree A)) → results (mapped f) ts ≡ mapped_each f (trees ts)
  mapped_trees [] = refl
  mapped_trees (t ∷ ts) = ap (λ z. listed_term (mapped f t) ++ z) (mapped_trees ts)

  mapped_branch : (b : BranchKind A) (a : A) →
      f.fold a (branch_of b).kind (results (mapped f) (branch_of b).tokens) ≡ mapped f (branch_tree b a)
  mapped_branch (kind.Alternation x) a = ap (f.fold a Alternation) (mapped_trees x.tokens.items)
  mapped_branch (kind.Concatenation x) a = ap (f.fold a Concatenation) (mapped_trees x.tokens.items)
  mapped_branch (kind.Repetition r) a =
      ap (f.fold a (Repetition r.lower r.upper)) (append-nil (listed_term (mapped f r.token.value)))

  -- a branch that was just opened
  pub opened : (o : OpenToken A X) (b : BranchKind A) (a : A) →
      o ≡ record { annotation = a; kind = (branch_of b).kind; rest = (branch_of b).tokens; done = [] } →
      closed (mapped f) (mapping f o) ≡ mapped f (branch_tree b a)
  opened o b a e = ap (λ z. closed (mapped f) (mapping f z)) e ∙ mapped_branch b a

  pub mapped_parts : (x : Topology (BranchKind A) LeafKind) (b : BranchKind A) (t : Tree A) (a : A) →
      x ≡ BranchOf b → topology_tree x a ≡ t → mapped f (branch_tree b a) ≡ mapped f t
  mapped_parts x b t a e h = ap (λ z. mapped f (topology_tree z a)) (sym e) ∙ ap (mapped f) h

module _ {A X : Type 0} (f : Mapping A X) (w : Option X) where
  -- none is around the first
  pub begun : {Y : Type 0} (view : Y → Open A X) (ys : List Y) (o : OpenToken A X) (b : BranchKind A) (a : A)
      → ys ≡ [] →
      o ≡ record { annotation = a; kind = (branch_of b).kind; rest = (branch_of b).tokens; done = [] } →
      closed_all (mapped f) (map view ys) (closed (mapped f) (mapping f o)) ≡ mapped f (branch_tree b a)
  begun view ys o b a e i = alone (mapped f) view ys (closed (mapped f) (mapping f o)) e ∙ opened f o b a i

  -- a token that is a branch is opened
  pub deeper : (os all : List (Open A X)) (o n inner : OpenToken A X) (t : Tree A) (b : BranchKind A) (a : A)
      →
      all ≡ os ++ mapping f n ∷ [] → NextToken o (Some t) n →
      inner ≡ record { annotation = a; kind = (branch_of b).kind; rest = (branch_of b).tokens; done = [] } →
      mapped f (branch_tree b a) ≡ mapped f t →
      closed_all (mapped f) os (closed (mapped f) (mapping f o)) ≡ w →
      closed_all (mapped f) all (closed (mapped f) (mapping f inner)) ≡ w
  deeper os all o n inner t b a e h i k v =
      entered (mapped f) os all (mapping f o) (mapping f n) (mapping f inner) t e h.0
      (ap (λ z. f.fold z n.kind) h.1 ∙ ap (f.fold o.annotation) h.2) h.3 (opened f inner b a i ∙ k) ∙ v

  -- a branch is closed
  pub back : (os all : List (Open A X)) (o n around new : OpenToken A X) (g : Mapping A X) (x : Option X) →
      all ≡ os ++ mapping f around ∷ [] → (o.rest ≡ []) × (n ≡ o) → g ≡ f →
      x ≡ g.fold n.annotation n.kind n.done → new ≡ with_token around x →
      closed_all (mapped f) all (closed (mapped f) (mapping f o)) ≡ w →
      closed_all (mapped f) os (closed (mapped f) (mapping f new)) ≡ w
  back os all o n around new g x e h s k i v =
      left (mapped f) os all (mapping f o) (mapping f around) (mapping f new) x e h.0
      (k ∙ ap (λ z. z.fold n.annotation n.kind n.done) s ∙ ap (λ z. f.fold z.annotation z.kind z.done) h.1)
      (ap (mapping f) i) ∙ v

visits_trees : {A : Type 0} (ts : List (Tree A)) → total (map tree_visits ts) ≤ 2 * trees_size (trees ts)
visits_trees [] = omega arith
visits_trees (t ∷ ts) = omega (arith, visits_trees ts)

visits_branch : {A : Type 0} (b : BranchKind A) (a : A)
    → total (map tree_visits (branch_of b).tokens) + 2 ≤ tree_visits (branch_tree b a)
visits_branch (kind.Alternation x) a = omega (arith, visits_trees x.tokens.items)
visits_branch (kind.Concatenation x) a = omega (arith, visits_trees x.tokens.items)
visits_branch (kind.Repetition r) a = omega arith

-- the tokens of a branch take fewer steps than the branch
pub visits_inside : {A X : Type 0} (o : OpenToken A X) (x : Topology (BranchKind A) LeafKind)
    (b : BranchKind A) (t : Tree A) (a : A) →
    o ≡ record { annotation = a; kind = (branch_of b).kind; rest = (branch_of b).tokens; done = [] } →
    x ≡ BranchOf b → topology_tree x a ≡ t → total (map tree_visits o.rest) + 2 ≤ tree_visits t
visits_inside o x b t a e i h =
    let rest : total (map tree_visits o.rest) ≡ total (map tree_visits (branch_of b).tokens) =
    ap (λ z. total (map tree_visits z.rest)) e in
    let token : tree_visits (branch_tree b a) ≡ tree_visits t =
    ap (λ z. tree_visits (topology_tree z a)) (sym i) ∙ ap tree_visits h in
    omega (arith, rest, token, visits_branch b a)

pub fewer_deeper : {A X : Type 0} (f : Mapping A X) (os all : List (Open A X)) (o n inner : OpenToken A X)
    (x : Topology (BranchKind A) LeafKind)
    (b : BranchKind A) (t : Tree A) (a : A) → all ≡ os ++ mapping f n ∷ [] → o.rest ≡ t ∷ n.rest →
    inner ≡ record { annotation = a; kind = (branch_of b).kind; rest = (branch_of b).tokens; done = [] } →
    x ≡ BranchOf b → topology_tree x a ≡ t →
    steps_left tree_visits all + steps_in tree_visits (mapping f inner)
    < steps_left tree_visits os + steps_in tree_visits (mapping f o)
fewer_deeper f os all o n inner x b t a e r i k h =
    steps_entered tree_visits os all (mapping f o) (mapping f n) (mapping f inner) t e r
    (visits_inside inner x b t a i k h)

pub fewer_back : {A X : Type 0} (f : Mapping A X) (os all : List (Open A X))
    (o around new : OpenToken A X) (x : Option X) →
    all ≡ os ++ mapping f around ∷ [] → new ≡ with_token around x →
    steps_left tree_visits os + steps_in tree_visits (mapping f new)
    < steps_left tree_visits all + steps_in tree_visits (mapping f o)
fewer_back f os all o around new x e i =
    steps_back tree_visits os all (mapping f o) (mapping f around) (mapping f new) e (ap (λ z. z.rest) i)
