-- A branch that is being folded.
use denote.Ref.{Bor}
use Rattle.std.specs.Prelude.{◌≡◌, ℕ, ◌+◌, List, [], ◌∷◌, ◌++◌, Option, Some, None, map, drop}
use Rattle.std.specs.Option.{option_map}
use Rattle.wax_token.specs.Syntax.{Tree}
use Rattle.wax_fold.specs.declared.walk.folding.OpenBranch.{OpenBranch as AnOpenBranch}
use Rattle.wax_fold.specs.{Branches.{Branch, branch_of}, Folded.{Folding, listed_term, folded}}
use Rattle.wax_fold.specs.inner.Opens.{Open, total}

-- a branch, its chosen tokens that are still to come, and the terms of the others
pub record OpenBranch (A T : Type 0) : Type 0 where
  pub branch : Branch A
  pub rest : List (Tree A)
  pub terms : List T

abbrev pub open_branch : {A T : Type 0} → AnOpenBranch A T → OpenBranch A T
open_branch o = record {
  branch = branch_of o.branch.now;
  rest = drop o.given (map (λ c. c.now) o.children.items);
  terms = o.terms.items;
}

-- the term of a branch, given those of its tokens
abbrev pub closing : {A T : Type 0} → Folding A T → Branch A → List T → Option T
closing f b terms = option_map (f.finalize b) (f.fold b (terms ++ listed_term (f.initialize b)))

abbrev pub folding : {A T : Type 0} → Folding A T → OpenBranch A T → Open A T
folding f o = record { close = closing f o.branch; rest = o.rest; done = o.terms }

-- with one more term
abbrev pub with_term : {A T : Type 0} → OpenBranch A T → Option T → OpenBranch A T
with_term o x = record { branch = o.branch; rest = o.rest; terms = o.terms ++ listed_term x }

-- the next of its tokens is taken
abbrev pub NextChild : {A T : Type 0} → OpenBranch A T → Option (Bor (Tree A)) → OpenBranch A T → Type 0
NextChild old None new = (old.rest ≡ []) × (new ≡ old)
NextChild old (Some t) new =
    (old.rest ≡ t.now ∷ new.rest) × (new.branch ≡ old.branch) × (new.terms ≡ old.terms)

-- one step for each token that is gone through, and one more for a branch
abbrev pub counting : {A : Type 0} → Folding A ℕ
counting = record {
  initialize = λ b. None;
  fold = λ b ns. Some (total ns + 2);
  finalize = λ b n. n;
  term = λ l. 1;
}

abbrev pub branch_visits : {A : Type 0} → (Branch A → List ℕ) → Tree A → ℕ
branch_visits chosen t = total (listed_term (folded chosen counting t))
