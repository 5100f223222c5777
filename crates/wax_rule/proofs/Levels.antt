-- Level after level gives all tokens, breadth first.
use Rattle.std.proofs.Common.{◌≡◌, ◌<◌, List, [], ◌∷◌, ◌++◌, length, Option, Some, None, refl, sym, ◌∙◌, ap}
use Rattle.std.proofs.Common.{arith, append-nil, append_assoc}
use Rattle.std.specs.List.{flat_map}
use Rattle.wax_rule.specs.inner.Queue.{branches, siblings, children, children_between, all_levels}
use Rattle.wax_facts.specs.Alternatives.{beside}
use Rattle.wax_facts.specs.Situated.{Situated, end_side, right_of, situated_levels, branch_levels}
use Rattle.wax_facts.specs.{Situated.{member_levels, breadth_first}, declared.rules.Side.Side}
use Rattle.wax_token.specs.Reads.{Span}
use Rattle.wax_token.specs.Syntax.{Tree, leaf, alternation, concatenation, repetition, Trees, none, more}

beside-nil : {A : Type 0} (xs : List (List A)) → beside xs [] ≡ xs
beside-nil [] = refl
beside-nil (x ∷ xs) = refl

beside_assoc : {A : Type 0} (xs ys zs : List (List A)) → beside (beside xs ys) zs ≡ beside xs (beside ys zs)
beside_assoc [] ys zs = refl
beside_assoc (x ∷ xs) [] zs = refl
beside_assoc (x ∷ xs) (y ∷ ys) [] = refl
beside_assoc (x ∷ xs) (y ∷ ys) (z ∷ zs) = rw (append_assoc, beside_assoc xs ys zs) refl

all_levels-append : (ss rs : List Situated) → all_levels (ss ++ rs) ≡ beside (all_levels ss) (all_levels rs)
all_levels-append [] rs = refl
all_levels-append (s ∷ ss) rs =
    ap (beside (situated_levels s.left s.right s.token)) (all_levels-append ss rs)
    ∙ sym (beside_assoc (situated_levels s.left s.right s.token) (all_levels ss) (all_levels rs))

branch_levels-all : (left right : Option Side) (ts : Trees Span)
    → branch_levels left right ts ≡ all_levels (branches left right ts)
branch_levels-all left right none = refl
branch_levels-all left right (more t ts) =
    ap (beside (situated_levels left right t)) (branch_levels-all left right ts)

member_levels-all : (left right : Option Side) (ts : Trees Span)
    → member_levels left right ts ≡ all_levels (siblings left right ts)
member_levels-all left right none = refl
member_levels-all left right (more t ts) =
    ap (beside (situated_levels left (right_of ts right) t)) (member_levels-all (Some (end_side t)) right ts)

-- a token alone, and then the levels of what it holds
levels_between : (left right : Option Side) (t : Tree Span) → situated_levels left right t
    ≡ (record { token = t; left = left; right = right } ∷ []) ∷ all_levels (children_between left right t)
levels_between left right (leaf a l) = refl
levels_between left right (alternation a ts) =
    ap (λ z. (record { token = alternation a ts; left = left; right = right } ∷ []) ∷ z)
    (branch_levels-all left right ts)
levels_between left right (concatenation a ts) =
    ap (λ z. (record { token = concatenation a ts; left = left; right = right } ∷ []) ∷ z)
    (member_levels-all left right ts)
levels_between left right (repetition a t low high) =
    ap (λ z. (record { token = repetition a t low high; left = left; right = right } ∷ []) ∷ z)
    (sym (beside-nil (situated_levels left right t)))

-- some tokens, and then the levels of what they hold
pub all_levels-step : (s : Situated) (ss : List Situated)
    → all_levels (s ∷ ss) ≡ (s ∷ ss) ∷ all_levels (flat_map children (s ∷ ss))
all_levels-step s [] =
    beside-nil (situated_levels s.left s.right s.token) ∙ levels_between s.left s.right s.token
    ∙ ap (λ z. (s ∷ []) ∷ all_levels z) (sym (append-nil (children s)))
all_levels-step s (r ∷ rs) =
    ap (λ z. beside z (all_levels (r ∷ rs))) (levels_between s.left s.right s.token)
    ∙ ap (beside ((s ∷ []) ∷ all_levels (children s))) (all_levels-step r rs)
    ∙ ap (λ z. (s ∷ r ∷ rs) ∷ z) (sym (all_levels-append (children s) (flat_map children (r ∷ rs))))

-- ---- the row of all tokens so far
step_at : (ss : List Situated) → 0 < length ss → all_levels ss ≡ ss ∷ all_levels (flat_map children ss)
step_at [] h = absurd (omega (arith, h))
step_at (s ∷ ss) h = all_levels-step s ss

pub first_row : (t : Tree Span) → flat_map (λ level. level)
    (all_levels (record { token = t; left = None; right = None } ∷ [])) ≡ breadth_first t
first_row t = ap (flat_map (λ level. level)) (beside-nil (situated_levels None None t))
