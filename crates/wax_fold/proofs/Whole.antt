-- A walk forward gives each token of a tree once.
use Rattle.std.proofs.Common.{◌≡◌, ℕ, ◌+◌, zero, suc, List, [], ◌∷◌, ◌++◌, map, length, refl, sym, ◌∙◌, ap}
use Rattle.std.proofs.{Common.{subst, arith, append-nil}, lemmas.Grind.flat_map-append}
use Rattle.std.proofs.lemmas.List.{length-append}
use Rattle.std.proofs.lemmas.List.Sorted.{IsPermutation-refl, IsPermutation-cons, IsPermutation-trans}
use Rattle.std.proofs.lemmas.List.Sorted.{IsPermutation-append_comm}
use Rattle.std.specs.{List.flat_map, List.Sorted.IsPermutation}
use Rattle.wax_token.specs.Syntax.{Tree, leaf, alternation, concatenation, repetition, Trees, none, more}
use Rattle.wax_token.specs.Words.{listed}
use Rattle.wax_fold.specs.{declared.walk.entry.Position.Position, Branches.picked}
use Rattle.wax_fold.specs.Order.{Entry, root_entry, disjuncts, conjuncts, children_at, children}
use Rattle.wax_fold.specs.{Order.breadth_first, Sequences.{forward_chosen, places}}
use Rattle.wax_fold.specs.Subtrees.{subtrees, subtrees_each}
use Rattle.wax_fold.proofs.{Levels.next_first, Picking.all_picked}

-- all tokens of some trees
abbrev below : {A : Type 0} → List (Entry A) → List (Tree A)
below es = flat_map (λ e. subtrees e.token) es

inside : {A : Type 0} (ts : Trees A) → flat_map subtrees (listed ts) ≡ subtrees_each ts
inside none = refl
inside (more t ts) = ap (λ z. subtrees t ++ z) (inside ts)

of_disjuncts : {A : Type 0} (p : Position) (n : ℕ) (ts : List (Tree A))
    → below (disjuncts p n ts) ≡ flat_map subtrees ts
of_disjuncts p n [] = refl
of_disjuncts p n (t ∷ ts) = ap (λ z. subtrees t ++ z) (of_disjuncts p (n + 1) ts)

of_conjuncts : {A : Type 0} (p : Position) (ts : List (Tree A))
    → below (conjuncts p ts) ≡ flat_map subtrees ts
of_conjuncts p [] = refl
of_conjuncts p (t ∷ ts) = ap (λ z. subtrees t ++ z) (of_conjuncts p ts)

-- a token, and then all below it
parted : {A : Type 0} (p : Position) (t : Tree A) → subtrees t ≡ t ∷ below (children_at forward_chosen p t)
parted p (leaf a l) = refl
parted p (alternation a ts) =
    ap (λ z. alternation a ts ∷ z) (sym (of_disjuncts p 0 (picked (places (listed ts)) (listed ts))
    ∙ ap (flat_map subtrees) (all_picked (listed ts)) ∙ inside ts))
parted p (concatenation a ts) =
    ap (λ z. concatenation a ts ∷ z) (sym (of_conjuncts p (picked (places (listed ts)) (listed ts))
    ∙ ap (flat_map subtrees) (all_picked (listed ts)) ∙ inside ts))
parted p (repetition a t low high) =
    ap (λ z. repetition a t low high ∷ z) (sym (of_conjuncts p (picked (places (t ∷ [])) (t ∷ []))
    ∙ ap (flat_map subtrees) (all_picked (t ∷ [])) ∙ append-nil (subtrees t)))

all_given : {A : Type 0} (n : ℕ) (es : List (Entry A)) → length (below es) ≡ n →
    IsPermutation (below es) (map (λ e. e.token) (breadth_first forward_chosen es))
all_given zero [] h = IsPermutation-refl []
all_given (suc n) [] h = IsPermutation-refl []
all_given zero (e ∷ es) h =
    let whole : below (e ∷ es) ≡ e.token ∷ (below (children forward_chosen e) ++ below es) =
    ap (λ z. z ++ below es) (parted e.position e.token) in
    absurd (omega (arith, h, ap length whole))
all_given {A = A} (suc n) (e ∷ es) h =
    let cs : List (Entry A) = children forward_chosen e in
    let whole : below (e ∷ es) ≡ e.token ∷ (below cs ++ below es) =
    ap (λ z. z ++ below es) (parted e.position e.token) in
    let joined : below (es ++ cs) ≡ below es ++ below cs = flat_map-append (λ e. subtrees e.token) es cs in
    let fewer : length (below (es ++ cs)) ≡ n =
    omega (
      arith,
      h,
      ap length whole,
      ap length joined,
      length-append (below cs) (below es),
      length-append (below es) (below cs),
    ) in
    let rest : List (Tree A) = map (λ e. e.token) (breadth_first forward_chosen (es ++ cs)) in
    let turned : IsPermutation (below cs ++ below es) rest =
    IsPermutation-trans (below cs ++ below es) (below es ++ below cs) rest
    (IsPermutation-append_comm (below cs) (below es))
    (subst (λ z. IsPermutation z rest) joined (all_given n (es ++ cs) fewer)) in
    subst (λ z. IsPermutation z (map (λ e. e.token) (breadth_first forward_chosen (e ∷ es)))) (sym whole)
    (subst (λ z. IsPermutation (e.token ∷ (below cs ++ below es)) z)
    (sym (ap (map (λ e. e.token)) (next_first forward_chosen e es)))
    (IsPermutation-cons e.token (below cs ++ below es) rest turned))

pub each_once : {A : Type 0} (t : Tree A) →
    IsPermutation (subtrees t) (map (λ e. e.token) (breadth_first forward_chosen (root_entry t ∷ [])))
each_once t =
    subst (λ z. IsPermutation z (map (λ e. e.token) (breadth_first forward_chosen (root_entry t ∷ []))))
    (append-nil (subtrees t))
    (all_given (length (below (root_entry t ∷ []))) (root_entry t ∷ []) refl)
