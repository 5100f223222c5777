-- No part of a glob costs more than the glob.
use Rattle.std.proofs.Common.{◌≡◌, ◌≤◌, ◌<◌, ◌+◌, ◌*◌, ℕ, Bool, true, false, ◌==◌, List, [], ◌∷◌, ◌++◌}
use Rattle.std.proofs.Common.{Option, Some, None, refl, sym, subst, ap, arith, ◌∙◌}
use Rattle.std.proofs.lemmas.Bool.{and_parts, eqb-true}
use Rattle.wax_facts.specs.Alternatives.{is_exactly_one}
use Rattle.wax_components.specs.{Parts.IsComponent, TopLevel.tokens_of}
use Rattle.wax_token.specs.Cost.{copies_of, cost, costs, program_length}
use Rattle.wax_token.specs.Syntax.{Tree, leaf, alternation, concatenation, repetition, Trees, none, more}
use Rattle.wax_token.specs.Words.{listed, members, trees}

costs_append : {A : Type 0} (xs ys : List (Tree A))
    → costs (trees (xs ++ ys)) ≡ costs (trees xs) + costs (trees ys)
costs_append [] ys = omega arith
costs_append (x ∷ xs) ys = omega (arith, costs_append xs ys)

trees_listed : {A : Type 0} (ts : Trees A) → trees (listed ts) ≡ ts
trees_listed none = refl
trees_listed (more t ts) = ap (more t) (trees_listed ts)

members_costs : {A : Type 0} (t : Tree A) → costs (members t) ≡ cost t
members_costs (leaf a l) = omega arith
members_costs (alternation a ts) = omega arith
members_costs (concatenation a ts) = refl
members_costs (repetition a t low high) = omega arith

-- a component of a glob that fits
pub part_fits : {A : Type 0} (t : Tree A) (part : List (Tree A)) → program_length t ≤ 1048576
    → IsComponent (tokens_of t) part → costs (trees part) < 1048576
part_fits t part fits h =
    let whole : costs (trees (tokens_of t)) ≡ cost t =
    ap costs (trees_listed (members t)) ∙ members_costs t in
    let front : costs (trees (tokens_of t)) ≡ costs (trees h.0) + costs (trees (part ++ h.1)) =
    ap (λ ts. costs (trees ts)) h.2 ∙ costs_append h.0 (part ++ h.1) in
    omega (arith, fits, whole, front, costs_append part h.1)

-- ---- repetitions

pub one_copy : (low : ℕ) (high : Option ℕ) → is_exactly_one low high ≡ true → (b : Bool) (c : ℕ)
    → c ≤ copies_of low high b * (c + 2) + 2
one_copy low None e b c = absurd (let w : ⊥ = cc in w)
one_copy low (Some high) e b c =
    let p : ((low == 1) ≡ true) × ((high == 1) ≡ true) = and_parts (low == 1) (high == 1) e in
    let h : high ≡ 1 = eqb-true high 1 p.1 in
    subst (λ n. c ≤ copies_of low (Some n) b * (c + 2) + 2) (sym h) (once b) where
      once : (b : Bool) → c ≤ copies_of low (Some 1) b * (c + 2) + 2
      once true = omega arith
      once false = omega arith
