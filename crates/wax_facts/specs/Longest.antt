-- Which prefixes a glob could have, and that its prefix is the longest of them.
use Rattle.std.specs.Prelude.{◌≡◌, ◌≤◌, ◌⊎◌, ℕ, Bool, true, false, ⊤, List, [], ◌∷◌, ◌++◌, length}
use Rattle.wax_token.specs.{Kinds.{is_separator, is_tree_wildcard}, Reads.Span, Syntax.{Tree, Trees}}
use Rattle.wax_token.specs.Words.{listed, trees}
use Rattle.wax_facts.specs.{InvariantText.TextOfEach, Joined.Front, Prefix.{IsRooted, Prefix, opened}}

-- the last of these tokens is a `/`
abbrev pub ends_with_separator : {A : Type 0} → List (Tree A) → Bool
ends_with_separator [] = false
ends_with_separator (t ∷ []) = is_separator t
ends_with_separator (t ∷ u ∷ ts) = ends_with_separator (u ∷ ts)

-- a component ends between tokens: at the end of a glob, before a `**`, or after a `/`
abbrev pub IsBorder : {A : Type 0} → List (Tree A) → List (Tree A) → Type 0
IsBorder before [] = ⊤
IsBorder before (t ∷ after) = (is_tree_wildcard t ≡ true) ⊎ (ends_with_separator before ≡ true)

-- the first n tokens of a glob have the invariant text p, and a component ends behind them
pub record IsLiteralPrefix {A : Type 0} (ts : Trees A) (n : ℕ) (p : List ℕ) : Type 0 where
  pub before : List (Tree A)
  pub after : List (Tree A)
  pub split : listed ts ≡ before ++ after
  pub count : length before ≡ n
  pub text : TextOfEach (trees before) p
  pub border : IsBorder before after

-- n and p are a literal prefix, or nothing; each literal prefix takes at most n tokens, and p begins with it
pub record IsLongestPrefix {A : Type 0} (ts : Trees A) (n : ℕ) (p : List ℕ) : Type 0 where
  pub literal : IsLiteralPrefix ts n p ⊎ ((n ≡ 0) × (p ≡ []))
  pub longest : (m : ℕ) (q : List ℕ) → IsLiteralPrefix ts m q → (m ≤ n) × Front q p

-- the prefix of a glob is the longest literal prefix of its opened list, unless the first token varies and
-- always begins with `/`
abbrev pub PrefixIsLongest : Type 0
PrefixIsLongest = (t : Tree Span) (n : ℕ) (p : List ℕ) → Prefix t n p → (IsRooted (opened t) → ⊥)
    → IsLongestPrefix (opened t) n p
