-- The first of the breaks.
use Rattle.std.proofs.Common.{◌≡◌, ℕ, ◌+◌, ◌<◌, drop, get_or, List, [], ◌∷◌, ◌++◌, length, Option, refl, sym}
use Rattle.std.proofs.{Common.{◌∙◌, ap}, lemmas.List.drop_more}
use Rattle.std.specs.{Option.option_or, List.flat_map}
use Rattle.wax_facts.specs.{declared.rules.Break.Break, declared.rules.Sort.TheVariants.Alternation}
use Rattle.wax_facts.specs.declared.rules.Side.{Side}
use Rattle.wax_facts.specs.{Rules.{alternative_breaks, size_breaks, sub_glob_breaks}, Situated.Situated}
use Rattle.wax_rule.specs.FirstBreak.{head_of, shape_breaks, breaks_of, oversized_among}
use Rattle.wax_rule.specs.declared.rule.Rule.TheVariants.{Boundary, Bounds, Branch}
use Rattle.wax_token.specs.{Reads.Span, Syntax.Tree, Words.trees}

pub head_of_append : {A : Type 0} (xs ys : List A) → head_of (xs ++ ys) ≡ option_or (head_of xs) (head_of ys)
head_of_append [] ys = refl
head_of_append (x ∷ xs) ys = refl

pub first_step : (f : Situated → List Break) (row : List Situated) (i : ℕ) (s : Situated) → i < length row
    → s ≡ get_or row i s →
    head_of (flat_map f (drop i row)) ≡ option_or (head_of (f s)) (head_of (flat_map f (drop (i + 1) row)))
first_step f row i s h e =
    ap (λ z. head_of (flat_map f z)) (drop_more row i s h)
    ∙ head_of_append (f (get_or row i s)) (flat_map f (drop (i + 1) row))
    ∙ ap (λ z. option_or (head_of (f z)) (head_of (flat_map f (drop (i + 1) row)))) (sym e)

-- ---- all rules
pub first_shape_break : (row : List Situated) (a b c o p : Option Break) →
    a ≡ head_of (flat_map (breaks_of Boundary) row) → b ≡ head_of (flat_map (breaks_of Bounds) row)
    → c ≡ head_of (flat_map (breaks_of Branch) row) →
    o ≡ option_or a b → p ≡ option_or o c → p ≡ head_of (shape_breaks row)
first_shape_break row a b c o p x y z j k =
    let u : List Break = flat_map (breaks_of Boundary) row in
    let v : List Break = flat_map (breaks_of Bounds) row in
    let w : List Break = flat_map (breaks_of Branch) row in
    k ∙ ap (λ o. option_or o c) j
    ∙ ap (λ a. option_or (option_or a b) c) x ∙ ap (λ b. option_or (option_or (head_of u) b) c) y
    ∙ ap (option_or (option_or (head_of u) (head_of v))) z
    ∙ ap (λ o. option_or o (head_of w)) (sym (head_of_append u v)) ∙ sym (head_of_append (u ++ v) w)

pub oversized_among_step : (ts : List (Tree Span)) (i : ℕ) (t : Tree Span) → i < length ts
    → t ≡ get_or ts i t →
    head_of (oversized_among (trees (drop i ts)))
    ≡ option_or (head_of (size_breaks t)) (head_of (oversized_among (trees (drop (i + 1) ts))))
oversized_among_step ts i t h e =
    ap (λ z. head_of (oversized_among (trees z))) (drop_more ts i t h)
    ∙ head_of_append (size_breaks (get_or ts i t)) (oversized_among (trees (drop (i + 1) ts)))
    ∙ ap (λ z. option_or (head_of (size_breaks z)) (head_of (oversized_among (trees (drop (i + 1) ts)))))
    (sym e)

-- ---- the branches of an alternation
pub alternatives_step : (s : Span) (left right : Option Side) (ts : List (Tree Span)) (i : ℕ) (t : Tree Span)
    → i < length ts → t ≡ get_or ts i t →
    head_of (alternative_breaks s left right (trees (drop i ts)))
    ≡ option_or (head_of (sub_glob_breaks Alternation s left right t))
    (head_of (alternative_breaks s left right (trees (drop (i + 1) ts))))
alternatives_step s left right ts i t h e =
    ap (λ z. head_of (alternative_breaks s left right (trees z))) (drop_more ts i t h)
    ∙ head_of_append (sub_glob_breaks Alternation s left right (get_or ts i t))
    (alternative_breaks s left right (trees (drop (i + 1) ts)))
    ∙ ap (λ z. option_or (head_of (sub_glob_breaks Alternation s left right z))
    (head_of (alternative_breaks s left right (trees (drop (i + 1) ts))))) (sym e)
