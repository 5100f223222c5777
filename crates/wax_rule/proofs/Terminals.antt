-- The rows of a sub-glob, by its first and its last token.
use Rattle.std.proofs.Common.{◌≡◌, suc, ◌-◌, Bool, true, false, nat_lt, List, [], ◌∷◌, ◌++◌, length, Option}
use Rattle.std.proofs.Common.{Some, slice_get, refl, sym, ◌∙◌, arith, ap, subst, if◌then◌else◌}
use Rattle.std.proofs.lemmas.Bool.{lt-ltb}
use Rattle.std.specs.Option.{option_or}
use Rattle.wax_facts.specs.Rules.{terminal_of, shared_rows, own_rows, rows_of, first_that_holds, last_of}
use Rattle.wax_facts.specs.{Rules.are_some, declared.rules.Side.Side, declared.rules.Row.Row}
use Rattle.wax_facts.specs.declared.rules.Sort.{Sort}
use Rattle.wax_token.specs.{Reads.Span, Syntax.Tree, Words.trees}

first-append : (xs ys : List Row) → first_that_holds (xs ++ ys)
    ≡ option_or (first_that_holds xs) (first_that_holds ys)
first-append [] ys = refl
first-append (x ∷ xs) ys = elim x.holds as (λ b. (if b then Some x else first_that_holds (xs ++ ys))
    ≡ option_or (if b then Some x else first_that_holds xs) (first_that_holds ys)) [
      | true ↦ refl
      | false ↦ first-append xs ys
    ]

last_at : (t u : Tree Span) (ts : List (Tree Span)) → slice_get (t ∷ ts) (length (t ∷ ts) - 1) ≡ Some u
    → last_of t (trees ts) ≡ u
last_at t u [] e = cc
last_at t u (v ∷ vs) e =
    let n : length (t ∷ v ∷ vs) - 1 ≡ suc (length (v ∷ vs) - 1) = omega arith in
    last_at v u vs (subst (λ k. slice_get (t ∷ v ∷ vs) k ≡ Some u) n e)

abbrev row_between : Sort → Option Side → Option Side → Tree Span → Tree Span → Bool → Option Row
row_between branch left right t u several =
    option_or (first_that_holds (shared_rows left right (terminal_of t) (terminal_of u) several))
    (first_that_holds (own_rows branch left (terminal_of t) (terminal_of u) several))

pub rows_at : (branch : Sort) (left right : Option Side) (ts : List (Tree Span))
    (t u : Tree Span) (several : Bool) →
    slice_get ts 0 ≡ Some t → slice_get ts (length ts - 1) ≡ Some u → several ≡ nat_lt 1 (length ts) →
    first_that_holds (rows_of branch left right (trees ts)) ≡
    row_between branch left right t u several
rows_at branch left right [] t u several e f g = absurd (cc)
rows_at branch left right (v ∷ vs) t u several e f g =
    let first : v ≡ t = (cc) in
    let last : last_of v (trees vs) ≡ u = last_at v u vs f in
    let more : are_some (trees vs) ≡ several = some vs ∙ sym g in
    first-append
    (shared_rows left right (terminal_of v) (terminal_of (last_of v (trees vs))) (are_some (trees vs)))
    (own_rows branch left (terminal_of v) (terminal_of (last_of v (trees vs))) (are_some (trees vs)))
    ∙ ap (λ (z : Tree Span). row_between branch left right z (last_of v (trees vs)) (are_some (trees vs)))
    first
    ∙ ap (λ (z : Tree Span). row_between branch left right t z (are_some (trees vs))) last
    ∙ ap (λ (z : Bool). row_between branch left right t u z) more
  where
    some : (vs : List (Tree Span)) → are_some (trees vs) ≡ nat_lt 1 (length (v ∷ vs))
    some [] = refl
    some (w ∷ ws) = sym (lt-ltb 1 (length (v ∷ w ∷ ws)) (omega arith))
