-- A branch without its annotation, and tokens that are picked from a list.
use Rattle.std.specs.{Prelude.{ℕ, ◌-◌, List, [], ◌∷◌, Option, Some, None, take, drop, length}, List.flat_map}
use Rattle.wax_token.specs.{Syntax.{Tree, alternation, concatenation, repetition}, Words.trees}
use Rattle.wax_token.specs.declared.token.BranchKind.{BranchKind}
use Rattle.wax_fold.specs.declared.walk.branch.BranchFold.{BranchFold}
use Rattle.wax_fold.specs.declared.walk.branch.BranchFold.TheVariants.{Alternation, Concatenation, Repetition}
use Rattle.wax_token.specs.declared.token.BranchKind.TheVariants as kind

-- what it is, and its tokens from left to right
pub record Branch (A : Type 0) : Type 0 where
  pub kind : BranchFold
  pub tokens : List (Tree A)

abbrev pub tokens_in : {A : Type 0} → Branch A → List (Tree A)
tokens_in b = b.tokens

abbrev pub branch_of : {A : Type 0} → BranchKind A → Branch A
branch_of (kind.Alternation b) = record { kind = Alternation; tokens = b.tokens.items }
branch_of (kind.Concatenation b) = record { kind = Concatenation; tokens = b.tokens.items }
branch_of (kind.Repetition b) = record { kind = Repetition b.lower b.upper; tokens = b.token.value ∷ [] }

-- what is at these places, in their order; a place past the end has nothing
abbrev pub picked : {X : Type 0} → List ℕ → List X → List X
picked places xs = flat_map (λ n. take 1 (drop n xs)) places

-- the first and the last alone, where there is one
abbrev pub first_picked : {X : Type 0} → List X → List X
first_picked xs = picked (0 ∷ []) xs

abbrev pub last_picked : {X : Type 0} → List X → List X
last_picked xs = picked ((length xs - 1) ∷ []) xs

-- so many to so many copies of the first of these tokens, if there is one
abbrev pub repeated : {A : Type 0} → ℕ → Option ℕ → List (Tree A) → A → Option (Tree A)
repeated low high [] a = None
repeated low high (t ∷ ts) a = Some (repetition a t low high)

-- the branch of that kind with these tokens
abbrev pub composed : {A : Type 0} → BranchFold → List (Tree A) → A → Option (Tree A)
composed Alternation ts a = Some (alternation a (trees ts))
composed Concatenation ts a = Some (concatenation a (trees ts))
composed (Repetition low high) ts a = repeated low high ts a
