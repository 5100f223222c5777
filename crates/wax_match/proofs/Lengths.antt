-- The instructions of a token tree are no more than its cost.
use Rattle.std.proofs.Common.{◌≡◌, ℕ, zero, suc, ◌+◌, ◌-◌, ◌*◌, ◌≤◌, Bool, true, false, List, [], ◌∷◌, ◌++◌}
use Rattle.std.proofs.Common.{length, Option, Some, None, nat_le, if◌then◌else◌, refl, ap, arith}
use Rattle.std.proofs.Common.{length-append}
use Rattle.wax_program.specs.declared.instruction.Instruction.{Instruction}
use Rattle.wax_program.specs.declared.instruction.Instruction.TheVariants.{Jump, Back}
use Rattle.wax_token.specs.Syntax.{Leaf, literal, class, separator, one, zero_or_more, tree, Tree, leaf}
use Rattle.wax_token.specs.Syntax.{alternation, concatenation, repetition, Trees, none, more}
use Rattle.wax_token.specs.Cost.{leaf_cost, holds_tree, copies_of, cost, costs, branches_cost}
use Rattle.wax_match.specs.inner.Code.{never, loop, choose, literal_code, wildcard_code, leaf_instructions}
use Rattle.wax_match.specs.inner.Code.{copies_code, up_to_code, counted_code, many_code, copied_code}
use Rattle.wax_match.specs.inner.Code.{instructions_of, branches_code, sequence_code}
use Rattle.wax_match.proofs.Compiled.{le_from}

pub length-literal : (b : Bool) (t : List ℕ) → length (literal_code b t) ≤ length t
length-literal b [] = omega arith
length-literal false (c ∷ t) = omega (arith, length-literal false t)
length-literal true (c ∷ t) = omega (arith, length-literal true t)

length-wildcard : (before after rooted : Bool) → length (wildcard_code before after rooted) ≤ 6
length-wildcard false false false = omega arith
length-wildcard false false true = omega arith
length-wildcard false true false = omega arith
length-wildcard false true true = omega arith
length-wildcard true true rooted = omega arith
length-wildcard true false rooted = omega arith

length-leaf : (l : Leaf) (before after : Bool) → length (leaf_instructions l before after) ≤ leaf_cost l
length-leaf (literal b t) before after = length-literal b t
length-leaf (class negated xs) before after = omega arith
length-leaf separator before after = omega arith
length-leaf one before after = omega arith
length-leaf (zero_or_more _) before after = omega arith
length-leaf (tree rooted) before after = length-wildcard before after rooted

module _ (a : List Instruction) (c : ℕ) (le : length a ≤ c) where
  length-copies : (n : ℕ) → length (copies_code n a) ≤ n * c
  length-copies zero = omega arith
  length-copies (suc n) = let e : suc n * c ≡ n * c + c = omega arith in
      omega (arith, length-append a (copies_code n a), length-copies n, e, le)

  length-up_to : (n : ℕ) → length (up_to_code n a) ≤ n * (c + 2)
  length-up_to zero = omega arith
  length-up_to (suc n) = let e : suc n * (c + 2) ≡ n * (c + 2) + (c + 2) = omega arith in
      omega (arith, length-append a (up_to_code n a), length-up_to n, e, le)

  length-loop : length (loop a) ≤ c + 2
  length-loop = omega (arith, length-append a (Back (length a + 1) ∷ []), le)

  length-closed : (low high : ℕ) (b : Bool) → nat_le low high ≡ b →
      length (if b then copies_code low a ++ up_to_code (high - low) a else never) ≤ high * (c + 2) + 1
  length-closed low high true e =
      let f : high ≡ low + (high - low) = omega (arith, le_from low high e) in
      let g : (low + (high - low)) * (c + 2) ≡ low * c + low * 2 + (high - low) * (c + 2) = omega arith in
      let h : high * (c + 2) ≡ (low + (high - low)) * (c + 2) = ap (λ z. z * (c + 2)) f in
      omega (
        arith,
        length-append (copies_code low a) (up_to_code (high - low) a),
        length-copies low,
        length-up_to (high - low),
        g,
        h,
      )
  length-closed low high false e = omega arith

  length-counted : (low : ℕ) (high : Option ℕ)
      → length (counted_code low high a) ≤ copies_of low high false * (c + 2) + 2
  length-counted low None =
      let g : (low + 1 + 0) * (c + 2) ≡ low * c + low * 2 + (c + 2) = omega arith in
      omega (arith, length-append (copies_code low a) (loop a), length-copies low, length-loop, g)
  length-counted low (Some high) =
      let g : (high + 0) * (c + 2) ≡ high * (c + 2) = omega arith in
      omega (arith, length-closed low high (nat_le low high) refl, g)

module _ (body : Bool → Bool → List Instruction) (c : ℕ) (le : (b f : Bool) → length (body b f) ≤ c)
    (before after : Bool) where
  length-many : (low : ℕ) (high : Option ℕ) → length (many_code low high body before after)
      ≤ copies_of low high false * (c + 2) + 2 + c + c
  length-many low high = omega (
    arith,
    le before true,
    le true after,
    length-counted (body true true) c (le true true) low high,
    length-append (body before true) (counted_code low high (body true true) ++ body true after),
    length-append (counted_code low high (body true true)) (body true after),
  )

  length-choose : (low : ℕ) (high : Option ℕ)
      → length (choose (body before after) (many_code low high body before after))
      ≤ copies_of low high false * (c + 2) + 4 + c + c + c
  length-choose low high = omega (
    arith,
    le before after,
    length-many low high,
    length-append (body before after)
        (Jump (length (many_code low high body before after)) ∷ many_code low high body before after),
  )

  length-copied : (low : ℕ) (high : Option ℕ) → length (copied_code low high body before after)
      ≤ copies_of low high true * (c + 2) + 2
  length-copied zero (Some zero) = omega arith
  length-copied zero (Some (suc zero)) = let g : (1 + 3) * (c + 2) ≡ 4 * c + 8 = omega arith in
      omega (arith, le before after, g)
  length-copied zero (Some (suc (suc high))) =
      let g : (suc (suc high) + 3) * (c + 2) ≡ (high + 0) * (c + 2) + 5 * c + 10 = omega arith in
      omega (arith, length-choose 0 (Some high), g)
  length-copied zero None = let g : (0 + 1 + 3) * (c + 2) ≡ (0 + 1 + 0) * (c + 2) + 3 * c + 6 = omega arith in
      omega (arith, length-choose 0 None, g)
  length-copied (suc zero) (Some zero) = omega arith
  length-copied (suc zero) (Some (suc zero)) = let g : (1 + 3) * (c + 2) ≡ 4 * c + 8 = omega arith in
      omega (arith, le before after, g)
  length-copied (suc zero) (Some (suc (suc high))) =
      let g : (suc (suc high) + 3) * (c + 2) ≡ (high + 0) * (c + 2) + 5 * c + 10 = omega arith in
      omega (arith, length-choose 0 (Some high), g)
  length-copied (suc zero) None = let g : (1 + 1 + 3) * (c + 2) ≡ (0 + 1 + 0) * (c + 2) + 4 * c + 8 =
      omega arith in omega (arith, length-choose 0 None, g)
  length-copied (suc (suc low)) (Some zero) = omega arith
  length-copied (suc (suc low)) (Some (suc zero)) = omega arith
  length-copied (suc (suc low)) (Some (suc (suc high))) =
      let g : (suc (suc high) + 3) * (c + 2) ≡ (high + 0) * (c + 2) + 5 * c + 10 = omega arith in
      omega (arith, length-many low (Some high), g)
  length-copied (suc (suc low)) None =
      let g : (suc (suc low) + 1 + 3) * (c + 2) ≡ (low + 1 + 0) * (c + 2) + 5 * c + 10 = omega arith in
      omega (arith, length-many low None, g)

mutual
  pub length-tree : {A : Type 0} (t : Tree A) (before after : Bool)
      → length (instructions_of t before after) ≤ cost t
  length-tree (leaf a l) before after = length-leaf l before after
  length-tree (alternation a ts) before after = length-branches ts before after
  length-tree (concatenation a ts) before after = length-sequence ts before after
  length-tree (repetition a t low high) before after =
      elim (holds_tree t) as (λ h. length (if h then copied_code low high (instructions_of t) before after
      else counted_code low high (instructions_of t before after))
      ≤ copies_of low high h * (cost t + 2) + 2) [
        | true ↦ length-copied (instructions_of t) (cost t) (length-tree t) before after low high
        | false ↦
            length-counted (instructions_of t before after) (cost t) (length-tree t before after) low high
      ]

  length-branches : {A : Type 0} (ts : Trees A) (before after : Bool)
      → length (branches_code ts before after) ≤ 1 + branches_cost ts
  length-branches none before after = omega arith
  length-branches (more t ts) before after =
      omega (
        arith,
        length-tree t before after,
        length-branches ts before after,
        length-append (instructions_of t before after)
            (Jump (length (branches_code ts before after)) ∷ branches_code ts before after),
      )

  pub length-sequence : {A : Type 0} (ts : Trees A) (before after : Bool)
      → length (sequence_code ts before after) ≤ costs ts
  length-sequence none before after = omega arith
  length-sequence (more t none) before after = omega (arith, length-tree t before after)
  length-sequence (more t (more u us)) before after =
      omega (
        arith,
        length-tree t before true,
        length-sequence (more u us) true after,
        length-append (instructions_of t before true) (sequence_code (more u us) true after),
      )
