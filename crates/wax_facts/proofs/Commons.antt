-- The common answer of branches, from the last to the first.
use Rattle.std.proofs.Common.{◌≡◌, ℕ, zero, suc, ◌-◌, ◌<◌, List, [], ◌∷◌, length, get_or, drop, drop-cons}
use Rattle.std.proofs.Common.{sym, ◌∙◌, ap, arith}
use Rattle.wax_token.specs.{Syntax.Tree, Words.trees}
use Rattle.wax_query.specs.{declared.query.when.When.When, Whens.certainty}
use Rattle.wax_facts.specs.{Root.{root, root_some}, Exhaustive.{exhaustive, exhaustive_some, exhaustive_last}}

pub root_put : {A : Type 0} (ts : List (Tree A)) (index : ℕ) (t : Tree A) (common new : When) → 0 < index
    → index < length ts → t ≡ get_or ts (index - 1) t →
    common ≡ root_some (trees (drop index ts)) → new ≡ certainty (root t) common
    → new ≡ root_some (trees (drop (index - 1) ts))
root_put {A = A} ts zero t common new lt le at h e = absurd (omega (arith, lt))
root_put {A = A} ts (suc i) t common new lt le at h e =
    let p : suc i - 1 ≡ i = omega arith in
    let at : t ≡ get_or ts i t = rw p at at in
    let u : Tree A = get_or ts (suc i) t in
    let g : drop (suc i) ts ≡ u ∷ drop (suc (suc i)) ts = drop-cons ts (suc i) t le in
    let here : drop i ts ≡ t ∷ (u ∷ drop (suc (suc i)) ts) =
    drop-cons ts i t (omega (arith, le)) ∙ ap (λ z. z ∷ drop (suc i) ts) (sym at) ∙ ap (λ z. t ∷ z) g in
    e ∙ ap (certainty (root t)) (h ∙ ap (λ z. root_some (trees z)) g)
    ∙ sym (ap (λ z. root_some (trees z)) here) ∙ ap (λ z. root_some (trees (drop z ts))) (sym p)

pub exhaustive_put : {A : Type 0} (ts : List (Tree A)) (index : ℕ) (t : Tree A) (common new : When)
    → 0 < index → index < length ts → t ≡ get_or ts (index - 1) t →
    common ≡ exhaustive_some (trees (drop index ts)) → new ≡ certainty (exhaustive t) common
    → new ≡ exhaustive_some (trees (drop (index - 1) ts))
exhaustive_put {A = A} ts zero t common new lt le at h e = absurd (omega (arith, lt))
exhaustive_put {A = A} ts (suc i) t common new lt le at h e =
    let p : suc i - 1 ≡ i = omega arith in
    let at : t ≡ get_or ts i t = rw p at at in
    let u : Tree A = get_or ts (suc i) t in
    let g : drop (suc i) ts ≡ u ∷ drop (suc (suc i)) ts = drop-cons ts (suc i) t le in
    let here : drop i ts ≡ t ∷ (u ∷ drop (suc (suc i)) ts) =
    drop-cons ts i t (omega (arith, le)) ∙ ap (λ z. z ∷ drop (suc i) ts) (sym at) ∙ ap (λ z. t ∷ z) g in
    e ∙ ap (certainty (exhaustive t)) (h ∙ ap (λ z. exhaustive_some (trees z)) g) ∙ sym
    (ap (λ z. exhaustive_some (trees z)) here) ∙ ap (λ z. exhaustive_some (trees (drop z ts))) (sym p)

pub last_is : {A : Type 0} (ts : List (Tree A)) (t : Tree A) → 0 < length ts → t ≡ get_or ts (length ts - 1) t
    → exhaustive t ≡ exhaustive_last (trees ts)
last_is [] t lt e = absurd (omega (arith, lt))
last_is (u ∷ []) t lt e = ap exhaustive e
last_is (u ∷ v ∷ ts) t lt e = last_is (v ∷ ts) t (omega arith) (e ∙ ap (λ k. get_or (u ∷ v ∷ ts) k t)
    (let n : length (u ∷ v ∷ ts) - 1 ≡ suc (length (v ∷ ts) - 1) = omega arith in n))
