-- The rest of a glob after its prefix.
use Rattle.std.specs.Prelude.{ℕ, zero, suc, Bool, true, false, Option, Some, None}
use Rattle.wax_token.specs.Syntax.{tree, Tree, leaf, alternation, concatenation, repetition, Trees, none}
use Rattle.wax_token.specs.{Syntax.more, Words.members, Kinds.is_tree_wildcard}
use Rattle.wax_facts.specs.Prefix.{opened}

abbrev pub begins_with_tree : {A : Type 0} → Trees A → Bool
begins_with_tree none = false
begins_with_tree (more t ts) = is_tree_wildcard t

-- a sub-glob is entered if a token of it is taken, or if it begins with the `**` just after the cut
abbrev pub entered : {A : Type 0} → ℕ → Bool → Tree A × ℕ → Option (Tree A × ℕ)
entered zero false here = None
entered zero true here = Some here
entered (suc n) b here = Some here

abbrev pub or_here : {A : Type 0} → Tree A × ℕ → Option (Tree A × ℕ) → Tree A × ℕ
or_here here None = here
or_here here (Some inner_cut) = inner_cut

-- the deepest sub-glob that is entered, and how many of its own tokens are taken
abbrev mutual
  pub inner_cut : {A : Type 0} → Tree A → ℕ → Option (Tree A × ℕ)
  inner_cut (leaf a l) n = None
  inner_cut (alternation a none) n = None
  inner_cut (alternation a (more t none)) n =
      entered n (begins_with_tree (opened t)) (or_here (t, n) (inner_cut t n))
  inner_cut (alternation a (more t (more u us))) n = None
  inner_cut (concatenation a ts) n = inner_last ts n
  inner_cut (repetition a t zero high) n = None
  inner_cut (repetition a t (suc zero) None) n = None
  inner_cut (repetition a t (suc zero) (Some zero)) n = None
  inner_cut (repetition a t (suc zero) (Some (suc zero))) n =
      entered n (begins_with_tree (opened t)) (or_here (t, n) (inner_cut t n))
  inner_cut (repetition a t (suc zero) (Some (suc (suc m)))) n = None
  inner_cut (repetition a t (suc (suc low)) high) n = None

  pub inner_last : {A : Type 0} → Trees A → ℕ → Option (Tree A × ℕ)
  inner_last none n = None
  inner_last (more t none) n = inner_cut t n
  inner_last (more t (more u us)) zero = None
  inner_last (more t (more u us)) (suc n) = inner_last (more u us) n

-- the glob or sub-glob that the rest belongs to if n tokens of the opened list are taken, and how many of its
-- own tokens are taken
abbrev pub owner : {A : Type 0} → Tree A → ℕ → Tree A × ℕ
owner t n = or_here (t, n) (inner_cut t n)

abbrev pub after : {A : Type 0} → ℕ → Trees A → Trees A
after zero ts = ts
after (suc n) none = none
after (suc n) (more t ts) = after n ts

-- the tokens that are left of the glob or sub-glob
abbrev pub left : {A : Type 0} → Tree A → ℕ → Trees A
left t n = after (owner t n).1 (members (owner t n).0)

-- a leading `**` loses its `/`
abbrev pub unrooted : {A : Type 0} → Trees A → Trees A
unrooted none = none
unrooted (more (leaf a (tree rooted)) ts) = more (leaf a (tree false)) ts
unrooted (more t ts) = more t ts

-- the tokens of the rest; none if the prefix is the whole glob
abbrev pub rest : {A : Type 0} → Tree A → ℕ → Trees A
rest t n = unrooted (left t n)
