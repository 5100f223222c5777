-- A branch that is being built anew.
use Rattle.std.specs.Prelude.{◌≡◌, ℕ, ◌+◌, ◌*◌, List, [], ◌∷◌, ◌++◌, Option, Some, None, reverse}
use Rattle.wax_token.specs.Syntax.{Tree, tree_size}
use Rattle.wax_fold.specs.declared.walk.branch.BranchFold.{BranchFold}
use Rattle.wax_fold.specs.{declared.walk.mapping.OpenToken.OpenToken as AnOpenToken, Folded.listed_term}
use Rattle.wax_fold.specs.{Mapped.Mapping, inner.Opens.Open}

pub record OpenToken (A X : Type 0) : Type 0 where
  pub annotation : A
  pub kind : BranchFold
  pub rest : List (Tree A)
  pub done : List X

abbrev pub open_token : {A X : Type 0} → AnOpenToken A X → OpenToken A X
open_token o = record {
  annotation = o.annotation;
  kind = o.branch;
  rest = reverse o.rest.items;
  done = o.done.items;
}

abbrev pub mapping : {A X : Type 0} → Mapping A X → OpenToken A X → Open A X
mapping f o = record { close = f.fold o.annotation o.kind; rest = o.rest; done = o.done }

-- the next of its tokens is taken
abbrev pub NextToken : {A X : Type 0} → OpenToken A X → Option (Tree A) → OpenToken A X → Type 0
NextToken old None new = (old.rest ≡ []) × (new ≡ old)
NextToken old (Some t) new = (old.rest ≡ t ∷ new.rest)
    × (new.annotation ≡ old.annotation) × (new.kind ≡ old.kind) × (new.done ≡ old.done)

-- with one more new token
abbrev pub with_token : {A X : Type 0} → OpenToken A X → Option X → OpenToken A X
with_token o x =
    record { annotation = o.annotation; kind = o.kind; rest = o.rest; done = o.done ++ listed_term x }

-- so many steps are taken in a token
abbrev pub tree_visits : {A : Type 0} → Tree A → ℕ
tree_visits t = 2 * tree_size t + 1
