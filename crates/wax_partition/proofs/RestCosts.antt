-- The rest of a glob costs no more than the glob.
use Rattle.std.proofs.Common.{◌≡◌, ◌≤◌, ◌+◌, ◌*◌, ℕ, zero, suc, Bool, true, false, ◌||◌, Option, Some, None}
use Rattle.std.proofs.Common.{refl, sym, subst, ap, arith}
use Rattle.wax_token.specs.Cost.{cost, costs, branches_cost, copies_of, holds_tree, some_holds_tree}
use Rattle.wax_token.specs.{Cost.program_length, Reads.Span}
use Rattle.wax_token.specs.Syntax.{Tree, leaf, alternation, concatenation, repetition, Trees, none, more}
use Rattle.wax_token.specs.{Syntax.{literal, class, separator, one, zero_or_more, tree}, Words.members}
use Rattle.wax_facts.specs.Prefix.{opened}
use Rattle.wax_facts.specs.Rest.{after, begins_with_tree, entered, inner_cut, inner_last, left, or_here}
use Rattle.wax_facts.specs.Rest.{owner, rest, unrooted}
use Rattle.wax_rule.specs.Shifted.{shifted_tree, shifted_each, shifted_rest}
use Rattle.wax_partition.proofs.RestMeans.{rest_same}

-- ---- no span changes a cost
module _ (k : ℕ) where
  mutual
    holds_here : (t : Tree Span) → holds_tree (shifted_tree k t) ≡ holds_tree t
    holds_here (leaf a l) = refl
    holds_here (alternation a ts) = some_hold ts
    holds_here (concatenation a ts) = some_hold ts
    holds_here (repetition a t low high) = holds_here t

    some_hold : (ts : Trees Span) → some_holds_tree (shifted_each k ts) ≡ some_holds_tree ts
    some_hold none = refl
    some_hold (more t ts) = λ i. holds_here t i || some_hold ts i

  mutual
    cost_here : (t : Tree Span) → cost (shifted_tree k t) ≡ cost t
    cost_here (leaf a l) = refl
    cost_here (alternation a ts) = ap (λ n. 1 + n) (branches_here ts)
    cost_here (concatenation a ts) = costs_here ts
    cost_here (repetition a t low high) = λ i. copies_of low high (holds_here t i) * (cost_here t i + 2) + 2

    costs_here : (ts : Trees Span) → costs (shifted_each k ts) ≡ costs ts
    costs_here none = refl
    costs_here (more t ts) = λ i. cost_here t i + costs_here ts i

    branches_here : (ts : Trees Span) → branches_cost (shifted_each k ts) ≡ branches_cost ts
    branches_here none = refl
    branches_here (more t ts) = λ i. cost_here t i + 2 + branches_here ts i

pub rest_costs : (s r : Span) (n : ℕ) (ts : Trees Span) → program_length (concatenation s (unrooted ts)) ≤ n →
    program_length (concatenation r (shifted_rest ts)) ≤ n
rest_costs s r n ts h =
    subst (λ Z. Z) (sym (rest_same (λ us. costs us + 1 ≤ n) (λ k us. ap (λ m. m + 1 ≤ n) (costs_here k us))
    (λ s r l us. refl) ts)) h

-- ---- the tokens that are left of a glob or sub-glob cost no more than the glob
abbrev CheapOwner : ℕ → Option (Tree Span × ℕ) → Type 0
CheapOwner most None = Unit {0}
CheapOwner most (Some o) = cost o.0 ≤ most

here : (most : ℕ) (o : Option (Tree Span × ℕ)) (t : Tree Span) (n : ℕ) → cost t ≤ most → CheapOwner most o
    → cost (or_here (t, n) o).0 ≤ most
here most None t n c h = c
here most (Some o) t n c h = h

into : (most n : ℕ) (b : Bool) (o : Tree Span × ℕ) → cost o.0 ≤ most → CheapOwner most (entered n b o)
into most zero false o c = tt
into most zero true o c = c
into most (suc n) b o c = c

body_costs : (t : Tree Span) (most : ℕ) → copies_of 1 (Some 1) (holds_tree t) * (cost t + 2) + 2
    ≤ most → cost t ≤ most
body_costs t most c =
    elim (holds_tree t) as (λ b. copies_of 1 (Some 1) b * (cost t + 2) + 2 ≤ most → cost t ≤ most) [
      | false ↦ λ d. omega (arith, d)
      | true ↦ λ d. omega (arith, d)
    ] c

mutual
  inner_costs : (most : ℕ) (t : Tree Span) → cost t ≤ most → (n : ℕ) → CheapOwner most (inner_cut t n)
  inner_costs most (leaf a l) c n = tt
  inner_costs most (alternation a none) c n = tt
  inner_costs most (alternation a (more t none)) c n =
      let d : cost t ≤ most = omega (arith, c) in
      into most n (begins_with_tree (opened t)) (or_here (t, n) (inner_cut t n))
      (here most (inner_cut t n) t n d (inner_costs most t d n))
  inner_costs most (alternation a (more t (more u us))) c n = tt
  inner_costs most (concatenation a ts) c n = last_costs most ts c n
  inner_costs most (repetition a t zero high) c n = tt
  inner_costs most (repetition a t (suc zero) None) c n = tt
  inner_costs most (repetition a t (suc zero) (Some zero)) c n = tt
  inner_costs most (repetition a t (suc zero) (Some (suc zero))) c n =
      let d : cost t ≤ most = body_costs t most c in
      into most n (begins_with_tree (opened t)) (or_here (t, n) (inner_cut t n))
      (here most (inner_cut t n) t n d (inner_costs most t d n))
  inner_costs most (repetition a t (suc zero) (Some (suc (suc m)))) c n = tt
  inner_costs most (repetition a t (suc (suc low)) high) c n = tt

  last_costs : (most : ℕ) (ts : Trees Span) → costs ts ≤ most → (n : ℕ) → CheapOwner most (inner_last ts n)
  last_costs most none c n = tt
  last_costs most (more t none) c n = inner_costs most t (omega (arith, c)) n
  last_costs most (more t (more u us)) c zero = tt
  last_costs most (more t (more u us)) c (suc n) = last_costs most (more u us) (omega (arith, c)) n

members_cost : (t : Tree Span) → costs (members t) ≡ cost t
members_cost (leaf a l) = omega arith
members_cost (alternation a ts) = omega arith
members_cost (concatenation a ts) = refl
members_cost (repetition a t low high) = omega arith

after_costs : (n : ℕ) (ts : Trees Span) → costs (after n ts) ≤ costs ts
after_costs zero ts = omega arith
after_costs (suc n) none = omega arith
after_costs (suc n) (more t ts) = omega (arith, after_costs n ts)

unrooted_cost : (ts : Trees Span) → costs (unrooted ts) ≡ costs ts
unrooted_cost none = refl
unrooted_cost (more (leaf a (literal i t)) ts) = refl
unrooted_cost (more (leaf a (class n xs)) ts) = refl
unrooted_cost (more (leaf a separator) ts) = refl
unrooted_cost (more (leaf a one) ts) = refl
unrooted_cost (more (leaf a (zero_or_more v)) ts) = refl
unrooted_cost (more (leaf a (tree rooted)) ts) = refl
unrooted_cost (more (alternation a us) ts) = refl
unrooted_cost (more (concatenation a us) ts) = refl
unrooted_cost (more (repetition a t low high) ts) = refl

pub left_costs : (t : Tree Span) (n : ℕ) → costs (rest t n) ≤ cost t
left_costs t n =
    let o : Tree Span × ℕ = owner t n in
    let c : cost (owner t n).0 ≤ cost t =
    here (cost t) (inner_cut t n) t n (omega arith) (inner_costs (cost t) t (omega arith) n) in
    omega (
      arith,
      unrooted_cost (left t n),
      after_costs (owner t n).1 (members (owner t n).0),
      members_cost (owner t n).0,
      c,
    )
