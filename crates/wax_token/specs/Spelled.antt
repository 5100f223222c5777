-- What holds of each tree that an expression spells.
use Rattle.std.specs.Prelude.{ℕ, ◌+◌, ◌≤◌, ⊤}
use Rattle.wax_token.specs.Syntax.{Leaf, literal, class, separator, one, zero_or_more, tree, Tree, leaf}
use Rattle.wax_token.specs.Syntax.{alternation, concatenation, repetition, Trees, none, more}
use Rattle.wax_token.specs.{Words.annotation_of, Meaning.HasNoSlash, Reads.Span}

abbrev pub span_end : Span → ℕ
span_end s = s.0 + s.1

-- the span lies from one byte up to another
abbrev pub IsBetween : ℕ → ℕ → Span → Type 0
IsBetween from to s = (from ≤ s.0) × (span_end s ≤ to)

abbrev mutual
  -- the token lies from one byte up to another, and the tokens that it holds lie in its span
  pub LiesBetween : ℕ → ℕ → Tree Span → Type 0
  LiesBetween from to (leaf s l) = IsBetween from to s
  LiesBetween from to (alternation s ts) = IsBetween from to s × LieApart s.0 (span_end s) ts
  LiesBetween from to (concatenation s ts) = IsBetween from to s × LieApart s.0 (span_end s) ts
  LiesBetween from to (repetition s t low high) = IsBetween from to s × LiesBetween s.0 (span_end s) t

  -- the tokens lie from one byte up to another, each after the one before it
  pub LieApart : ℕ → ℕ → Trees Span → Type 0
  LieApart from to none = ⊤
  LieApart from to (more t ts) = LiesBetween from to t × LieApart (span_end (annotation_of t)) to ts

abbrev pub LeafHasNoSlash : Leaf → Type 0
LeafHasNoSlash (literal insensitive t) = HasNoSlash t
LeafHasNoSlash (class negated xs) = ⊤
LeafHasNoSlash separator = ⊤
LeafHasNoSlash one = ⊤
LeafHasNoSlash (zero_or_more e) = ⊤
LeafHasNoSlash (tree rooted) = ⊤

-- no literal in it holds a `/`
abbrev mutual
  pub LiteralsHaveNoSlash : {A : Type 0} → Tree A → Type 0
  LiteralsHaveNoSlash (leaf a l) = LeafHasNoSlash l
  LiteralsHaveNoSlash (alternation a ts) = AllHaveNoSlash ts
  LiteralsHaveNoSlash (concatenation a ts) = AllHaveNoSlash ts
  LiteralsHaveNoSlash (repetition a t low high) = LiteralsHaveNoSlash t

  pub AllHaveNoSlash : {A : Type 0} → Trees A → Type 0
  AllHaveNoSlash none = ⊤
  AllHaveNoSlash (more t ts) = LiteralsHaveNoSlash t × AllHaveNoSlash ts
