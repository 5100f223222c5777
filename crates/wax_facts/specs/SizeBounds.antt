-- What the fixed size of a token says of the texts that it matches.
use Rattle.std.specs.Prelude.{◌≡◌, ◌≤◌, ℕ, Bool, true, ◌&&◌, not, List, Some}
use Rattle.wax_facts.specs.Sizes.{fixed_size}
use Rattle.wax_token.specs.{Meaning.Means, Reads.{Span, utf8_len}}
use Rattle.wax_token.specs.Syntax.{Leaf, literal, Tree, leaf, alternation, concatenation, repetition, Trees}
use Rattle.wax_token.specs.Syntax.{none, more}

abbrev pub leaf_minds_case : Leaf → Bool
leaf_minds_case (literal insensitive t) = not insensitive
leaf_minds_case l = true

-- no literal ignores case: one that does can match longer texts, since cases can differ in length
abbrev mutual
  pub minds_case : {A : Type 0} → Tree A → Bool
  minds_case (leaf a l) = leaf_minds_case l
  minds_case (alternation a ts) = all_mind_case ts
  minds_case (concatenation a ts) = all_mind_case ts
  minds_case (repetition a t low high) = minds_case t

  pub all_mind_case : {A : Type 0} → Trees A → Bool
  all_mind_case none = true
  all_mind_case (more t ts) = minds_case t && all_mind_case ts

-- no text that a token matches has more bytes than the token's fixed size
abbrev pub SizesBound : Type 0
SizesBound = (t : Tree Span) (before after : Bool) (s : List ℕ) (size : ℕ) → minds_case t ≡ true
    → fixed_size t ≡ Some size → Means t before after s → utf8_len s ≤ size
