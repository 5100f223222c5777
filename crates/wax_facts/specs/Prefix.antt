-- The prefix of a glob: the text before the first token that isn't invariant, cut back to a `/`.
use Rattle.std.specs.Prelude.{◌≡◌, ℕ, zero, suc, Bool, true, false, ◌⊎◌, List, [], ◌∷◌, ◌++◌, Option, Some}
use Rattle.std.specs.Prelude.{None}
use Rattle.wax_token.specs.Kinds.{is_separator, is_tree_wildcard}
use Rattle.wax_token.specs.Syntax.{Tree, leaf, alternation, concatenation, repetition, Trees, none, more}
use Rattle.wax_query.specs.declared.query.when.When.TheVariants.{Always}
use Rattle.wax_facts.specs.{Root.root, InvariantText.{Text, Variant}}

-- the opened list of a glob: its tokens, but if the last one is an alternation of one branch or a repetition
-- of exactly one copy, the tokens in it take its place
abbrev mutual
  pub opened : {A : Type 0} → Tree A → Trees A
  opened (leaf a l) = more (leaf a l) none
  opened (alternation a none) = more (alternation a none) none
  opened (alternation a (more t none)) = opened t
  opened (alternation a (more t (more u us))) = more (alternation a (more t (more u us))) none
  opened (concatenation a ts) = opened_last ts
  opened (repetition a t zero high) = more (repetition a t zero high) none
  opened (repetition a t (suc zero) None) = more (repetition a t 1 None) none
  opened (repetition a t (suc zero) (Some zero)) = more (repetition a t 1 (Some 0)) none
  opened (repetition a t (suc zero) (Some (suc zero))) = opened t
  opened (repetition a t (suc zero) (Some (suc (suc n)))) = more (repetition a t 1 (Some (suc (suc n)))) none
  opened (repetition a t (suc (suc low)) high) = more (repetition a t (suc (suc low)) high) none

  pub opened_last : {A : Type 0} → Trees A → Trees A
  opened_last none = none
  opened_last (more t none) = opened t
  opened_last (more t (more u us)) = more t (opened_last (more u us))

-- adds an invariant token before the cut; if there is no cut after it, the cut is just after the token if
-- that is a `/`
abbrev pub taken : Bool → List ℕ → Option (ℕ × List ℕ) → Option (ℕ × List ℕ)
taken is_slash x (Some cut) = Some (suc cut.0, x ++ cut.1)
taken true x None = Some (1, x)
taken false x None = None

-- how many tokens are before the cut, and their text; `None` if there is no place for a cut
abbrev pub Cut : {A : Type 0} → Trees A → Option (ℕ × List ℕ) → Type 0
Cut none cut = cut ≡ Some (0, [])
Cut (more t ts) cut =
    ((is_tree_wildcard t ≡ true) × (cut ≡ Some (0, [])))
    ⊎ (((is_tree_wildcard t ≡ false) × Variant t × (cut ≡ None))
    ⊎ ((x : List ℕ) × (later : Option (ℕ × List ℕ)) × Text t x × Cut ts later
    × (cut ≡ taken (is_separator t) x later)))

abbrev pub or_nothing : Option (ℕ × List ℕ) → ℕ × List ℕ
or_nothing None = (0, [])
or_nothing (Some cut) = cut

-- the first token always begins with `/`, and has no invariant text
abbrev pub IsRooted : {A : Type 0} → Trees A → Type 0
IsRooted none = ⊥
IsRooted (more t ts) = (root t ≡ Always) × Variant t

-- n tokens are before the cut, with the text p
abbrev pub CutBefore : {A : Type 0} → Trees A → ℕ → List ℕ → Type 0
CutBefore ts n p =
    (cut : Option (ℕ × List ℕ)) × Cut ts cut × (n ≡ (or_nothing cut).0) × (p ≡ (or_nothing cut).1)

-- n tokens of the list are taken for the prefix p
abbrev pub PrefixOf : {A : Type 0} → Trees A → ℕ → List ℕ → Type 0
PrefixOf ts n p = (IsRooted ts × (n ≡ 0) × (p ≡ 47 ∷ [])) ⊎ ((IsRooted ts → ⊥) × CutBefore ts n p)

-- of a glob: n tokens of its opened list are taken for the prefix p
abbrev pub Prefix : {A : Type 0} → Tree A → ℕ → List ℕ → Type 0
Prefix t n p = PrefixOf (opened t) n p
