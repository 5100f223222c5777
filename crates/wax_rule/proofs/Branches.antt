-- Leaves can be left out of the row of all tokens: they hold no tokens, and only sizes are a rule for them.
use Rattle.std.proofs.Common.{◌≡◌, ℕ, ◌≤◌, ◌+◌, ◌-◌, ◌<◌, take, drop, List, [], ◌∷◌, ◌++◌, length, Option}
use Rattle.std.proofs.Common.{Some, None, refl, zero, suc, sym, ◌∙◌, ap, arith, append-nil, append_assoc}
use Rattle.std.proofs.lemmas.Grind.{flat_map-append}
use Rattle.std.proofs.lemmas.List.{take-append-drop, drop-append-le, length-drop}
use Rattle.std.proofs.Math.Seq.{drop-append_seam, take-append_seam, take-add, drop-drop}
use Rattle.std.specs.{List.flat_map, Option.option_or}
use Rattle.wax_facts.specs.{declared.rules.Side.Side, Rules.{broken, size_breaks}}
use Rattle.wax_facts.specs.Situated.{Situated, end_side, breadth_first}
use Rattle.wax_rule.proofs.{Firsts.head_of_append, Levels.{all_levels-step, first_row}}
use Rattle.wax_rule.specs.{declared.rule.Rule.Rule, declared.rule.Rule.TheVariants.{Boundary, Bounds, Branch}}
use Rattle.wax_rule.specs.FirstBreak.{head_of, breaks_of, shape_breaks, oversized, oversized_among}
use Rattle.wax_rule.specs.FirstBreak.{oversized_in, oversized_inside}
use Rattle.wax_rule.specs.inner.Queue.{branches, siblings, children, children_between, all_levels}
use Rattle.wax_rule.specs.inner.Queue.{queue_children, unless_leaf, only_branches}
use Rattle.wax_token.specs.Reads.{Span}
use Rattle.wax_token.specs.Syntax.{Tree, leaf, alternation, concatenation, repetition, Trees, none, more}

abbrev situated : Option Side → Option Side → Tree Span → Situated
situated left right t = record { token = t; left = left; right = right }

-- ---- what leaves don't change
children_of : (left right : Option Side) (t : Tree Span)
    → flat_map children (unless_leaf (situated left right t) t) ≡ children_between left right t
children_of left right (leaf a l) = refl
children_of left right (alternation a ts) = append-nil (branches left right ts)
children_of left right (concatenation a ts) = append-nil (siblings left right ts)
children_of left right (repetition a t low high) = refl

pub branch_children : (ss : List Situated) → flat_map children (only_branches ss) ≡ flat_map children ss
branch_children [] = refl
branch_children (s ∷ ss) =
    flat_map-append children (unless_leaf s s.token) (only_branches ss)
    ∙ ap (λ z. z ++ flat_map children (only_branches ss)) (children_of s.left s.right s.token)
    ∙ ap (λ z. children s ++ z) (branch_children ss)

only_once : (left right : Option Side) (t : Tree Span)
    → only_branches (unless_leaf (situated left right t) t) ≡ unless_leaf (situated left right t) t
only_once left right (leaf a l) = refl
only_once left right (alternation a ts) = refl
only_once left right (concatenation a ts) = refl
only_once left right (repetition a t low high) = refl

pub branches_of_branches : (ss : List Situated) → only_branches (only_branches ss) ≡ only_branches ss
branches_of_branches [] = refl
branches_of_branches (s ∷ ss) =
    flat_map-append (λ r. unless_leaf r r.token) (unless_leaf s s.token) (only_branches ss)
    ∙ ap (λ z. z ++ only_branches (only_branches ss)) (only_once s.left s.right s.token)
    ∙ ap (λ z. unless_leaf s s.token ++ z) (branches_of_branches ss)

breaks_alone : (rule : Rule) (left right : Option Side) (t : Tree Span) → flat_map (breaks_of rule)
    (unless_leaf (situated left right t) t) ≡ breaks_of rule (situated left right t)
breaks_alone Boundary left right (leaf a l) = refl
breaks_alone Bounds left right (leaf a l) = refl
breaks_alone Branch left right (leaf a l) = refl
breaks_alone rule left right (alternation a ts) =
    append-nil (breaks_of rule (situated left right (alternation a ts)))
breaks_alone rule left right (concatenation a ts) =
    append-nil (breaks_of rule (situated left right (concatenation a ts)))
breaks_alone rule left right (repetition a t low high) =
    append-nil (breaks_of rule (situated left right (repetition a t low high)))

branch_breaks_only : (rule : Rule) (ss : List Situated)
    → flat_map (breaks_of rule) (only_branches ss) ≡ flat_map (breaks_of rule) ss
branch_breaks_only rule [] = refl
branch_breaks_only rule (s ∷ ss) =
    flat_map-append (breaks_of rule) (unless_leaf s s.token) (only_branches ss)
    ∙ ap (λ z. z ++ flat_map (breaks_of rule) (only_branches ss)) (breaks_alone rule s.left s.right s.token)
    ∙ ap (λ z. breaks_of rule s ++ z) (branch_breaks_only rule ss)

shape_breaks_only : (ss : List Situated) → shape_breaks (only_branches ss) ≡ shape_breaks ss
shape_breaks_only ss =
    ap (λ z. z ++ flat_map (breaks_of Bounds) (only_branches ss) ++ flat_map (breaks_of Branch)
    (only_branches ss)) (branch_breaks_only Boundary ss)
    ∙ ap (λ z. flat_map (breaks_of Boundary) ss ++ z ++ flat_map (breaks_of Branch) (only_branches ss))
    (branch_breaks_only Bounds ss)
    ∙ ap (λ z. flat_map (breaks_of Boundary) ss ++ flat_map (breaks_of Bounds) ss ++ z)
    (branch_breaks_only Branch ss)

-- ---- sizes, level after level
abbrev pub listed : List Situated → List Situated
listed ss = flat_map (λ level. level) (all_levels ss)

pub listed_step : (ss : List Situated) → listed ss ≡ ss ++ listed (flat_map children ss)
listed_step [] = refl
listed_step (s ∷ ss) = ap (flat_map (λ level. level)) (all_levels-step s ss)

children_listed_in : (n : ℕ) (ss : List Situated) → length (all_levels ss) ≤ n
    → flat_map children (listed ss) ≡ listed (flat_map children ss)
children_listed_in n [] h = refl
children_listed_in zero (s ∷ ss) h = let l = ap length (all_levels-step s ss) in absurd (omega (arith, h, l))
children_listed_in (suc n) (s ∷ ss) h =
    let below : List Situated = flat_map children (s ∷ ss) in
    let l = ap length (all_levels-step s ss) in
    ap (flat_map children) (listed_step (s ∷ ss))
    ∙ flat_map-append children (s ∷ ss) (listed below)
    ∙ ap (λ z. below ++ z) (children_listed_in n below (omega (arith, h, l)))
    ∙ sym (listed_step below)

children_listed : (ss : List Situated) → flat_map children (listed ss) ≡ listed (flat_map children ss)
children_listed ss = children_listed_in (length (all_levels ss)) ss (omega arith)

-- all tokens are the whole, and what each of those that hold tokens holds
whole_and_children : (t : Tree Span)
    → breadth_first t ≡ situated None None t ∷ flat_map children (only_branches (breadth_first t))
whole_and_children t =
    let whole : List Situated = situated None None t ∷ [] in
    sym (first_row t) ∙ listed_step whole
    ∙ ap (λ z. situated None None t ∷ z) (sym (children_listed whole) ∙ sym (branch_children (listed whole))
    ∙ ap (λ z. flat_map children (only_branches z)) (first_row t))

oversized_branches : (left right : Option Side) (ts : Trees Span)
    → oversized (branches left right ts) ≡ oversized_among ts
oversized_branches left right none = refl
oversized_branches left right (more t ts) = ap (λ z. size_breaks t ++ z) (oversized_branches left right ts)

oversized_siblings : (left right : Option Side) (ts : Trees Span)
    → oversized (siblings left right ts) ≡ oversized_among ts
oversized_siblings left right none = refl
oversized_siblings left right (more t ts) =
    ap (λ z. size_breaks t ++ z) (oversized_siblings (Some (end_side t)) right ts)

oversized_between : (left right : Option Side) (t : Tree Span)
    → oversized (children_between left right t) ≡ oversized_in t
oversized_between left right (leaf a l) = refl
oversized_between left right (alternation a ts) = oversized_branches left right ts
oversized_between left right (concatenation a ts) = oversized_siblings left right ts
oversized_between left right (repetition a t low high) = append-nil (size_breaks t)

oversized_children : (ss : List Situated) → oversized (flat_map children ss) ≡ oversized_inside ss
oversized_children [] = refl
oversized_children (s ∷ ss) =
    flat_map-append (λ r. size_breaks r.token) (children s) (flat_map children ss)
    ∙ ap (λ z. z ++ oversized (flat_map children ss)) (oversized_between s.left s.right s.token)
    ∙ ap (λ z. oversized_in s.token ++ z) (oversized_children ss)

oversized_whole : (t : Tree Span) → oversized (breadth_first t)
    ≡ size_breaks t ++ oversized_inside (only_branches (breadth_first t))
oversized_whole t = ap oversized (whole_and_children t)
    ∙ ap (λ z. size_breaks t ++ z) (oversized_children (only_branches (breadth_first t)))

-- the first break, by the row of branches only
pub first_broken : (t : Tree Span) (row : List Situated) → row ≡ only_branches (breadth_first t) →
    head_of (broken t) ≡ option_or (head_of (shape_breaks row))
    (option_or (head_of (size_breaks t)) (head_of (oversized_inside row)))
first_broken t row e =
    head_of_append (shape_breaks (breadth_first t)) (oversized (breadth_first t))
    ∙ ap (λ z. option_or (head_of z) (head_of (oversized (breadth_first t))))
    (sym (shape_breaks_only (breadth_first t)))
    ∙ ap (λ z. option_or (head_of (shape_breaks (only_branches (breadth_first t)))) (head_of z))
    (oversized_whole t)
    ∙ ap (λ z. option_or (head_of (shape_breaks (only_branches (breadth_first t)))) z)
    (head_of_append (size_breaks t) (oversized_inside (only_branches (breadth_first t))))
    ∙ ap (λ z. option_or (head_of (shape_breaks z))
    (option_or (head_of (size_breaks t)) (head_of (oversized_inside z)))) (sym e)

-- ---- the row of branches so far
branches_listed : (ss : List Situated)
    → only_branches (listed ss) ≡ only_branches ss ++ only_branches (listed (flat_map children ss))
branches_listed ss = ap only_branches (listed_step ss)
    ∙ flat_map-append (λ r. unless_leaf r r.token) ss (listed (flat_map children ss))

pub listed_branches : (ss : List Situated) → only_branches (listed (only_branches ss))
    ≡ only_branches (listed ss)
listed_branches ss =
    branches_listed (only_branches ss)
    ∙ ap (λ z. z ++ only_branches (listed (flat_map children (only_branches ss)))) (branches_of_branches ss)
    ∙ ap (λ z. only_branches ss ++ only_branches (listed z)) (branch_children ss)
    ∙ sym (branches_listed ss)

levels_of_branches : (ss os : List Situated) → os ≡ only_branches ss
    → length (all_levels os) ≤ length (all_levels ss)
levels_of_branches ss [] e = omega arith
levels_of_branches [] (o ∷ os) e = absurd (cc)
levels_of_branches (s ∷ ss) (o ∷ os) e =
    let a = ap length (all_levels-step s ss) in
    let b = ap length (all_levels-step o os) in
    let same : flat_map children (o ∷ os) ≡ flat_map children (s ∷ ss) =
    ap (flat_map children) e ∙ branch_children (s ∷ ss) in
    let l = ap (λ z. length (all_levels z)) same in
    omega (arith, a, b, l)

-- the branches behind those of which the children were added
pub next_branches : (row new : List Situated) (from to : ℕ) → to ≡ length row
    → new ≡ row ++ only_branches (flat_map children (drop from row)) →
    drop to new ≡ only_branches (flat_map children (drop from row))
next_branches row new from to e f =
    ap (λ n. drop n new) e ∙ ap (drop (length row)) f
    ∙ drop-append_seam row (only_branches (flat_map children (drop from row)))

levels_at : (ss : List Situated) → 0 < length ss
    → length (all_levels ss) ≡ length (all_levels (flat_map children ss)) + 1
levels_at [] h = absurd (omega (arith, h))
levels_at (s ∷ ss) h = let l = ap length (all_levels-step s ss) in omega (arith, l)

pub shorter_after : (row new : List Situated) (from to : ℕ) → from < length row → to ≡ length row
    → new ≡ row ++ only_branches (flat_map children (drop from row)) →
    length (all_levels (drop to new)) < length (all_levels (drop from row))
shorter_after row new from to h e f =
    let here = levels_at (drop from row) (let l = length-drop from row in omega (arith, l, h)) in
    let below = levels_of_branches (flat_map children (drop from row)) (drop to new)
    (next_branches row new from to e f) in
    omega (arith, here, below)

pub row_after : (row new : List Situated) (from to : ℕ) → to ≡ length row
    → new ≡ row ++ only_branches (flat_map children (drop from row)) →
    only_branches (drop from row) ≡ drop from row →
    take to new ++ only_branches (listed (drop to new))
    ≡ take from row ++ only_branches (listed (drop from row))
row_after row new from to e f g =
    let rest : List Situated = drop from row in
    let below : List Situated = flat_map children rest in
    ap (λ z. z ++ only_branches (listed (drop to new)))
    (ap (λ n. take n new) e ∙ ap (take (length row)) f ∙ take-append_seam row (only_branches below)
    ∙ sym (take-append-drop from row))
    ∙ ap (λ z. (take from row ++ rest) ++ only_branches (listed z)) (next_branches row new from to e f)
    ∙ ap (λ z. (take from row ++ rest) ++ z) (listed_branches below)
    ∙ append_assoc (take from row) rest (only_branches (listed below))
    ∙ ap (λ z. take from row ++ (z ++ only_branches (listed below))) (sym g)
    ∙ ap (λ z. take from row ++ z) (sym (branches_listed rest))

-- one more token's children
pub children_more : (row row' new : List Situated) (from i : ℕ) → from ≤ i → i < length row →
    row' ≡ row ++ only_branches (flat_map children (take (i - from) (drop from row)))
    → new ≡ row' ++ only_branches (queue_children row' i) →
    new ≡ row ++ only_branches (flat_map children (take (i + 1 - from) (drop from row)))
children_more row row' new from i h k e f =
    let rest : List Situated = only_branches (flat_map children (take (i - from) (drop from row))) in
    let place : drop i row' ≡ drop i row ++ rest =
    ap (drop i) e ∙ drop-append-le i row rest (omega (arith, k)) in
    let n : i ≡ from + (i - from) = omega (arith, h) in
    let m : i + 1 - from ≡ (i - from) + 1 = omega (arith, h) in
    let there : take 1 (drop i row') ≡ take 1 (drop (i - from) (drop from row)) =
    ap (take 1) place ∙ one (drop i row) rest (let l = length-drop i row in omega (arith, l, k))
    ∙ ap (λ z. take 1 (drop z row)) n ∙ ap (take 1) (sym (drop-drop (i - from) from row)) in
    f ∙ ap (λ z. z ++ only_branches (queue_children row' i)) e
    ∙ append_assoc row rest (only_branches (queue_children row' i))
    ∙ ap (λ z. row ++ (rest ++ only_branches (flat_map children z))) there
    ∙ ap (λ z. row ++ z) (sym (flat_map-append (λ r. unless_leaf r r.token) (flat_map children
    (take (i - from) (drop from row))) (flat_map children (take 1 (drop (i - from) (drop from row))))))
    ∙ ap (λ z. row ++ only_branches z) (sym (flat_map-append children (take (i - from) (drop from row))
    (take 1 (drop (i - from) (drop from row)))))
    ∙ ap (λ z. row ++ only_branches (flat_map children z)) (sym (take-add (i - from) 1 (drop from row)))
    ∙ ap (λ z. row ++ only_branches (flat_map children (take z (drop from row)))) (sym m)
  where
    one : (xs ys : List Situated) → 0 < length xs → take 1 (xs ++ ys) ≡ take 1 xs
    one [] ys h = absurd (omega (arith, h))
    one (x ∷ xs) ys h = refl
