-- The top-level tokens of a glob, and what a token is there.
use Rattle.std.specs.Prelude.{ℕ, List, []}
use Rattle.wax_token.specs.Syntax.{Leaf, literal, class, separator, one, zero_or_more, tree, Tree, leaf}
use Rattle.wax_token.specs.{Syntax.{alternation, concatenation, repetition}, Words.{listed, members}}

-- the tokens of a concatenation, and any other token alone
abbrev pub tokens_of : {A : Type 0} → Tree A → List (Tree A)
tokens_of t = listed (members t)

abbrev pub leaf_text : Leaf → List ℕ
leaf_text (literal b t) = t
leaf_text (class b xs) = []
leaf_text separator = []
leaf_text one = []
leaf_text (zero_or_more e) = []
leaf_text (tree rooted) = []

-- the characters of a literal
abbrev pub literal_text : {A : Type 0} → Tree A → List ℕ
literal_text (leaf a l) = leaf_text l
literal_text (alternation a ts) = []
literal_text (concatenation a ts) = []
literal_text (repetition a t low high) = []
