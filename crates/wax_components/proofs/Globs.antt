-- Level after level gives all globs.
use Rattle.std.proofs.Common.{◌≡◌, ℕ, zero, suc, ◌+◌, ◌<◌, ◌≤◌, List, [], ◌∷◌, ◌++◌, length, refl, sym, ◌∙◌}
use Rattle.std.proofs.{Common.{ap, arith, append-nil}, lemmas.List.append_assoc, lemmas.Grind.flat_map-append}
use Rattle.std.specs.List.{flat_map}
use Rattle.wax_token.specs.Syntax.{Tree, leaf, alternation, concatenation, repetition, Trees, none, more}
use Rattle.wax_token.specs.{Syntax.{tree_size, trees_size}, Words.listed}
use Rattle.wax_components.specs.Levels.{sub_globs_in, sub_globs, globs_at, globs_to}

-- ---- how much is left
abbrev pub weight : {A : Type 0} → List (Tree A) → ℕ
weight [] = 0
weight (t ∷ ts) = tree_size t + 1 + weight ts

weight-append : {A : Type 0} (ts us : List (Tree A)) → weight (ts ++ us) ≡ weight ts + weight us
weight-append [] us = omega arith
weight-append (t ∷ ts) us = omega (arith, weight-append ts us)

weight-listed : {A : Type 0} (ts : Trees A) → weight (listed ts) ≡ trees_size ts
weight-listed none = refl
weight-listed (more t ts) = omega (arith, weight-listed ts)

lighter_in : {A : Type 0} (t : Tree A) → weight (sub_globs_in t) ≤ tree_size t + 1
lighter_in (leaf a l) = omega arith
lighter_in (alternation a ts) = omega (arith, weight-listed ts)
lighter_in (concatenation a ts) = omega arith
lighter_in (repetition a t low high) = omega arith

lighter_each : {A : Type 0} (ts : List (Tree A)) → weight (flat_map sub_globs_in ts) ≤ weight ts
lighter_each [] = omega arith
lighter_each (t ∷ ts) =
    omega (arith, weight-append (sub_globs_in t) (flat_map sub_globs_in ts), lighter_in t, lighter_each ts)

lighter : {A : Type 0} (t : Tree A) → weight (sub_globs t) ≤ tree_size t
lighter (leaf a l) = omega arith
lighter (alternation a ts) = omega (arith, weight-append (listed ts) [], weight-listed ts)
lighter (concatenation a ts) = omega (arith, lighter_each (listed ts), weight-listed ts)
lighter (repetition a t low high) = omega arith

pub lighter_level : {A : Type 0} (ts : List (Tree A)) → weight (flat_map sub_globs ts) + length ts ≤ weight ts
lighter_level [] = omega arith
lighter_level (t ∷ ts) =
    omega (arith, weight-append (sub_globs t) (flat_map sub_globs ts), lighter t, lighter_level ts)

-- ---- so many levels
levels : {A : Type 0} → ℕ → List (Tree A) → List (Tree A)
levels zero ts = []
levels (suc n) ts = ts ++ levels n (flat_map sub_globs ts)

levels-nil : {A : Type 0} (n : ℕ) → levels {A = A} n [] ≡ []
unfolding levels
levels-nil zero = refl
levels-nil (suc n) = levels-nil n

at-zero : {A : Type 0} (ts : List (Tree A)) → flat_map (globs_at 0) ts ≡ ts
at-zero [] = refl
at-zero (t ∷ ts) = ap (λ z. t ∷ z) (at-zero ts)

at-suc : {A : Type 0} (n : ℕ) (ts : List (Tree A))
    → flat_map (globs_at (suc n)) ts ≡ flat_map (globs_at n) (flat_map sub_globs ts)
at-suc n [] = refl
at-suc n (t ∷ ts) =
    ap (λ z. flat_map (globs_at n) (sub_globs t) ++ z) (at-suc n ts)
    ∙ sym (flat_map-append (globs_at n) (sub_globs t) (flat_map sub_globs ts))

levels-last : {A : Type 0} (n : ℕ) (ts : List (Tree A))
    → levels (suc n) ts ≡ levels n ts ++ flat_map (globs_at n) ts
unfolding levels
levels-last zero ts = append-nil ts ∙ sym (at-zero ts)
levels-last (suc n) ts =
    ap (λ z. ts ++ z) (levels-last n (flat_map sub_globs ts))
    ∙ sym (append_assoc ts (levels n (flat_map sub_globs ts)) (flat_map (globs_at n) (flat_map sub_globs ts)))
    ∙ ap (λ z. (ts ++ levels n (flat_map sub_globs ts)) ++ z) (sym (at-suc n ts))

globs_to-levels : {A : Type 0} (n : ℕ) (t : Tree A) → globs_to n t ≡ levels (suc n) (t ∷ [])
unfolding levels
globs_to-levels zero t = refl
globs_to-levels (suc n) t =
    ap (λ z. z ++ globs_at (suc n) t) (globs_to-levels n t)
    ∙ ap (λ z. levels (suc n) (t ∷ []) ++ z) (sym (append-nil (globs_at (suc n) t)))
    ∙ sym (levels-last (suc n) (t ∷ []))

-- more levels than these weigh hold no more
enough : {A : Type 0} (n m : ℕ) (ts : List (Tree A)) → weight ts ≤ n → weight ts ≤ m
    → levels n ts ≡ levels m ts
unfolding levels
enough n m [] h k = levels-nil n ∙ sym (levels-nil m)
enough zero m (t ∷ ts) h k = absurd (omega (arith, h))
enough (suc n) zero (t ∷ ts) h k = absurd (omega (arith, k))
enough (suc n) (suc m) (t ∷ ts) h k =
    let l = lighter_level (t ∷ ts) in
    ap (λ z. (t ∷ ts) ++ z)
    (enough n m (flat_map sub_globs (t ∷ ts)) (omega (arith, h, l)) (omega (arith, k, l)))

-- ---- what is left, as the code walks it
pub rest : {A : Type 0} → List (Tree A) → List (Tree A)
rest ts = levels (weight ts) ts

pub rest-nil : {A : Type 0} → rest {A = A} [] ≡ []
unfolding rest levels
rest-nil = refl

pub rest_whole : {A : Type 0} (t : Tree A) → rest (t ∷ []) ≡ globs_to (tree_size t) t
unfolding rest
rest_whole t = enough (weight (t ∷ [])) (suc (tree_size t)) (t ∷ []) (omega arith) (omega arith)
    ∙ sym (globs_to-levels (tree_size t) t)

pub rest_step : {A : Type 0} (ts : List (Tree A)) → rest ts ≡ ts ++ rest (flat_map sub_globs ts)
unfolding rest levels
rest_step [] = refl
rest_step (t ∷ ts) =
    let l = lighter_level (t ∷ ts) in
    let k : weight (t ∷ ts) ≡ suc (tree_size t + weight ts) = omega arith in
    ap (λ n. levels n (t ∷ ts)) k
    ∙ ap (λ z. (t ∷ ts) ++ z)
    (enough (tree_size t + weight ts) (weight (flat_map sub_globs (t ∷ ts))) (flat_map sub_globs (t ∷ ts))
    (omega (arith, l, k)) (omega arith))

nothing_deeper : {A : Type 0} (n : ℕ) (ts : List (Tree A)) → weight ts ≤ n → flat_map (globs_at n) ts ≡ []
nothing_deeper n [] h = refl
nothing_deeper zero (t ∷ ts) h = absurd (omega (arith, h))
nothing_deeper (suc n) (t ∷ ts) h =
    let l = lighter_level (t ∷ ts) in
    at-suc n (t ∷ ts) ∙ nothing_deeper n (flat_map sub_globs (t ∷ ts)) (omega (arith, h, l))

pub no_deeper : {A : Type 0} (t : Tree A) (n : ℕ) → tree_size t < n → globs_at n t ≡ []
no_deeper t n h = sym (append-nil (globs_at n t)) ∙ nothing_deeper n (t ∷ []) (omega (arith, h))
