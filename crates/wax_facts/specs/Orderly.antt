-- What the parser and the rules ensure for the tree of a glob.
use Rattle.std.specs.Prelude.{◌≡◌, Bool, true, false, ⊤}
use Rattle.wax_token.specs.Syntax.{Leaf, literal, class, separator, one, zero_or_more, tree, Tree, leaf}
use Rattle.wax_token.specs.Syntax.{alternation, concatenation, repetition, Trees, none, more}
use Rattle.wax_token.specs.{Reads.IsLiteralText, Kinds.is_boundary_leaf}
use Rattle.wax_facts.specs.{Situated.{first_starts_in, ends_in}, Rules.are_incompatible}

abbrev pub IsSome : {A : Type 0} → Trees A → Type 0
IsSome none = ⊥
IsSome (more t ts) = ⊤

-- each alternation and each concatenation has a token
abbrev mutual
  pub Full : {A : Type 0} → Tree A → Type 0
  Full (leaf a l) = ⊤
  Full (alternation a ts) = IsSome ts × FullEach ts
  Full (concatenation a ts) = IsSome ts × FullEach ts
  Full (repetition a t low high) = Full t

  pub FullEach : {A : Type 0} → Trees A → Type 0
  FullEach none = ⊤
  FullEach (more t ts) = Full t × FullEach ts

-- the tree isn't a concatenation
abbrev pub is_token : {A : Type 0} → Tree A → Bool
is_token (leaf a l) = true
is_token (alternation a ts) = true
is_token (concatenation a ts) = false
is_token (repetition a t low high) = true

-- no token of a concatenation is a concatenation
abbrev mutual
  pub Flat : {A : Type 0} → Tree A → Type 0
  Flat (leaf a l) = ⊤
  Flat (alternation a ts) = FlatSome ts
  Flat (concatenation a ts) = FlatEach ts
  Flat (repetition a t low high) = Flat t

  pub FlatSome : {A : Type 0} → Trees A → Type 0
  FlatSome none = ⊤
  FlatSome (more t ts) = Flat t × FlatSome ts

  pub FlatEach : {A : Type 0} → Trees A → Type 0
  FlatEach none = ⊤
  FlatEach (more t ts) = (is_token t ≡ true) × Flat t × FlatEach ts

-- a literal's text isn't empty, and has no `/` and no backslash
abbrev pub WordedLeaf : Leaf → Type 0
WordedLeaf (literal insensitive t) = IsLiteralText t
WordedLeaf (class negated xs) = ⊤
WordedLeaf separator = ⊤
WordedLeaf one = ⊤
WordedLeaf (zero_or_more evaluation) = ⊤
WordedLeaf (tree rooted) = ⊤

abbrev mutual
  pub Worded : {A : Type 0} → Tree A → Type 0
  Worded (leaf a l) = WordedLeaf l
  Worded (alternation a ts) = WordedEach ts
  Worded (concatenation a ts) = WordedEach ts
  Worded (repetition a t low high) = Worded t

  pub WordedEach : {A : Type 0} → Trees A → Type 0
  WordedEach none = ⊤
  WordedEach (more t ts) = Worded t × WordedEach ts

-- if a token of a concatenation ends in a boundary, the next one doesn't start in one; and no repetition has
-- bounds that the rules reject
abbrev mutual
  pub Apart : {A : Type 0} → Tree A → Type 0
  Apart (leaf a l) = ⊤
  Apart (alternation a ts) = ApartSome ts
  Apart (concatenation a ts) = ApartEach ts
  Apart (repetition a t low high) = (are_incompatible low high ≡ false) × Apart t

  pub ApartSome : {A : Type 0} → Trees A → Type 0
  ApartSome none = ⊤
  ApartSome (more t ts) = Apart t × ApartSome ts

  pub ApartEach : {A : Type 0} → Trees A → Type 0
  ApartEach none = ⊤
  ApartEach (more t ts) =
      Apart t × (ends_in is_boundary_leaf t ≡ true → first_starts_in is_boundary_leaf ts ≡ false)
      × ApartEach ts

-- this holds of the tree of each expression that parses, isn't empty and breaks no rule, and of each rest
abbrev pub Orderly : {A : Type 0} → Tree A → Type 0
Orderly t = Full t × Flat t × Worded t × Apart t

abbrev pub OrderlyEach : {A : Type 0} → Trees A → Type 0
OrderlyEach ts = FullEach ts × FlatEach ts × WordedEach ts × ApartEach ts
