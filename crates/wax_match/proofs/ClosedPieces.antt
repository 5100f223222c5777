-- The instructions of tokens lead only to one another and to what follows them.
use Rattle.std.proofs.Common.{ℕ, zero, suc, ◌+◌, ◌-◌, ◌<◌, ◌≤◌, Bool, true, false, List, [], ◌∷◌, ◌++◌}
use Rattle.std.proofs.Common.{length, Option, Some, None, nat_le, if◌then◌else◌, arith, length-append}
use Rattle.std.specs.Prelude.{⊤}
use Rattle.wax_match.specs.inner.Code.{loop, skip, choose, never, literal_code, wildcard_code}
use Rattle.wax_match.specs.inner.Code.{leaf_instructions, copies_code, up_to_code, counted_code, many_code}
use Rattle.wax_match.specs.inner.Code.{copied_code, instructions_of, branches_code, sequence_code}
use Rattle.wax_program.specs.{Closed.{LeadsWithin, IsClosed}, declared.instruction.Instruction.Instruction}
use Rattle.wax_program.specs.declared.instruction.Instruction.TheVariants.{Check, Repeat, Components, Fork}
use Rattle.wax_program.specs.declared.instruction.Instruction.TheVariants.{Jump, Back, End}
use Rattle.wax_token.specs.Cost.{holds_tree}
use Rattle.wax_token.specs.Syntax.{Leaf, literal, class, separator, one, zero_or_more, tree, Tree, leaf}
use Rattle.wax_token.specs.Syntax.{alternation, concatenation, repetition, Trees, none, more}

-- the instruction leads to one of the next ones, or to what follows them
abbrev LeadsInside : Instruction → ℕ → Type 0
LeadsInside (Check t) left = ⊤
LeadsInside (Repeat t) left = ⊤
LeadsInside Components left = ⊤
LeadsInside (Fork n) left = n ≤ left
LeadsInside (Jump n) left = n ≤ left
LeadsInside (Back n) left = ⊤
LeadsInside (End low high) left = ⊤

abbrev pub IsInside : List Instruction → Type 0
IsInside [] = ⊤
IsInside (i ∷ is) = LeadsInside i (length is) × IsInside is

further : (i : Instruction) (m n : ℕ) → m ≤ n → LeadsInside i m → LeadsInside i n
further (Check t) m n le h = tt
further (Repeat t) m n le h = tt
further Components m n le h = tt
further (Fork k) m n le h = omega (arith, le, h)
further (Jump k) m n le h = omega (arith, le, h)
further (Back k) m n le h = tt
further (End low high) m n le h = tt

within : (i : Instruction) (m n : ℕ) → m < n → LeadsInside i m → LeadsWithin i n
within (Check t) m n lt h = omega (arith, lt)
within (Repeat t) m n lt h = omega (arith, lt)
within Components m n lt h = omega (arith, lt)
within (Fork k) m n lt h = omega (arith, lt, h)
within (Jump k) m n lt h = omega (arith, lt, h)
within (Back k) m n lt h = tt
within (End low high) m n lt h = tt

-- a piece and what follows it
pub closed_after : (a t : List Instruction) → IsInside a → 1 ≤ length t → IsClosed t → IsClosed (a ++ t)
closed_after [] t h some c = c
closed_after (i ∷ is) t h some c = (
  within i (length is) (length (is ++ t)) (omega (arith, length-append is t, some)) h.0,
  closed_after is t h.1 some c,
)

pub inside_append : (a b : List Instruction) → IsInside a → IsInside b → IsInside (a ++ b)
inside_append [] b h k = k
inside_append (i ∷ is) b h k = (
  further i (length is) (length (is ++ b)) (omega (arith, length-append is b)) h.0,
  inside_append is b h.1 k,
)

inside_skip : (a : List Instruction) → IsInside a → IsInside (skip a)
inside_skip a h = (omega arith, h)

inside_loop : (a : List Instruction) → IsInside a → IsInside (loop a)
inside_loop a h = (
  omega (arith, length-append a (Back (length a + 1) ∷ [])),
  inside_append a (Back (length a + 1) ∷ []) h (tt, tt),
)

inside_choose : (a b : List Instruction) → IsInside a → IsInside b → IsInside (choose a b)
inside_choose a b h k = (
  omega (arith, length-append a (Jump (length b) ∷ b)),
  inside_append a (Jump (length b) ∷ b) h (omega arith, k),
)

pub inside_literal : (b : Bool) (t : List ℕ) → IsInside (literal_code b t)
inside_literal b [] = tt
inside_literal false (c ∷ t) = (tt, inside_literal false t)
inside_literal true (c ∷ t) = (tt, inside_literal true t)

inside_wildcard : (before after rooted : Bool) → IsInside (wildcard_code before after rooted)
inside_wildcard false false false = (tt, tt)
inside_wildcard false false true = (tt, (tt, tt))
inside_wildcard false true false = (omega arith, (tt, tt))
inside_wildcard false true true = (tt, (omega arith, (tt, tt)))
inside_wildcard true true rooted = (tt, (omega arith, (tt, tt)))
inside_wildcard true false rooted = (omega arith, (tt, (tt, tt)))

pub inside_leaf : (l : Leaf) (before after : Bool) → IsInside (leaf_instructions l before after)
inside_leaf (literal b t) before after = inside_literal b t
inside_leaf (class n xs) before after = (tt, tt)
inside_leaf separator before after = (tt, tt)
inside_leaf one before after = (tt, tt)
inside_leaf (zero_or_more e) before after = (tt, tt)
inside_leaf (tree rooted) before after = inside_wildcard before after rooted

inside_copies : (n : ℕ) (a : List Instruction) → IsInside a → IsInside (copies_code n a)
inside_copies zero a h = tt
inside_copies (suc n) a h = inside_append a (copies_code n a) h (inside_copies n a h)

inside_up_to : (n : ℕ) (a : List Instruction) → IsInside a → IsInside (up_to_code n a)
inside_up_to zero a h = tt
inside_up_to (suc n) a h =
    inside_skip (a ++ up_to_code n a) (inside_append a (up_to_code n a) h (inside_up_to n a h))

inside_if : (b : Bool) (x y : List Instruction) → IsInside x → IsInside y → IsInside (if b then x else y)
inside_if true x y h k = h
inside_if false x y h k = k

inside_counted : (low : ℕ) (high : Option ℕ) (a : List Instruction) → IsInside a
    → IsInside (counted_code low high a)
inside_counted low None a h =
    inside_append (copies_code low a) (loop a) (inside_copies low a h) (inside_loop a h)
inside_counted low (Some high) a h =
    inside_if (nat_le low high) (copies_code low a ++ up_to_code (high - low) a) never
    (inside_append (copies_code low a) (up_to_code (high - low) a) (inside_copies low a h)
    (inside_up_to (high - low) a h)) (tt, tt)

module _ (body : Bool → Bool → List Instruction) (h : (before after : Bool) → IsInside (body before after))
    (before after : Bool) where
  inside_many : (low : ℕ) (high : Option ℕ) → IsInside (many_code low high body before after)
  inside_many low high = inside_append (body before true)
      (counted_code low high (body true true) ++ body true after) (h before true)
      (inside_append (counted_code low high (body true true)) (body true after)
      (inside_counted low high (body true true) (h true true)) (h true after))

  inside_copied : (low : ℕ) (high : Option ℕ) → IsInside (copied_code low high body before after)
  inside_copied zero (Some zero) = tt
  inside_copied zero (Some (suc zero)) = inside_skip (body before after) (h before after)
  inside_copied zero (Some (suc (suc high))) =
      inside_skip (choose (body before after) (many_code 0 (Some high) body before after))
      (inside_choose (body before after) (many_code 0 (Some high) body before after) (h before after)
      (inside_many 0 (Some high)))
  inside_copied zero None = inside_skip (choose (body before after) (many_code 0 None body before after))
      (inside_choose (body before after) (many_code 0 None body before after) (h before after)
      (inside_many 0 None))
  inside_copied (suc zero) (Some zero) = (tt, tt)
  inside_copied (suc zero) (Some (suc zero)) = h before after
  inside_copied (suc zero) (Some (suc (suc high))) = inside_choose (body before after)
      (many_code 0 (Some high) body before after) (h before after) (inside_many 0 (Some high))
  inside_copied (suc zero) None = inside_choose (body before after) (many_code 0 None body before after)
      (h before after) (inside_many 0 None)
  inside_copied (suc (suc low)) (Some zero) = (tt, tt)
  inside_copied (suc (suc low)) (Some (suc zero)) = (tt, tt)
  inside_copied (suc (suc low)) (Some (suc (suc high))) = inside_many low (Some high)
  inside_copied (suc (suc low)) None = inside_many low None

mutual
  pub inside : {A : Type 0} (t : Tree A) (before after : Bool) → IsInside (instructions_of t before after)
  inside (leaf a l) before after = inside_leaf l before after
  inside (alternation a ts) before after = inside_branches ts before after
  inside (concatenation a ts) before after = inside_sequence ts before after
  inside (repetition a t low high) before after =
      inside_if (holds_tree t) (copied_code low high (instructions_of t) before after)
      (counted_code low high (instructions_of t before after))
      (inside_copied (instructions_of t) (λ b f. inside t b f) before after low high)
      (inside_counted low high (instructions_of t before after) (inside t before after))

  inside_branches : {A : Type 0} (ts : Trees A) (before after : Bool)
      → IsInside (branches_code ts before after)
  inside_branches none before after = (tt, tt)
  inside_branches (more t ts) before after = inside_choose (instructions_of t before after)
      (branches_code ts before after) (inside t before after) (inside_branches ts before after)

  pub inside_sequence : {A : Type 0} (ts : Trees A) (before after : Bool)
      → IsInside (sequence_code ts before after)
  inside_sequence none before after = tt
  inside_sequence (more t none) before after = inside t before after
  inside_sequence (more t (more u us)) before after =
      inside_append (instructions_of t before true) (sequence_code (more u us) true after)
      (inside t before true) (inside_sequence (more u us) true after)
