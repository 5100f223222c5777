-- What contracts see of a glob.
use Rattle.std.specs.Prelude.{◌≡◌, ◌⊎◌, ℕ, false, List, [], refl}
use Rattle.std.specs.Coded.{Coded, code_by, coded×, coded_list, coded_ℕ}
use Rattle.wax_capture.specs.{Captures.Captured, Matched.AreSpans, Pieces.ArePieces}
use Rattle.wax_capture.specs.declared.piece.Piece.{Piece}
use Rattle.wax_prefilter.specs.Compiled.{Instructions, IsCompiled}
use Rattle.wax_facts.specs.Orderly.{Orderly}
use Rattle.wax_token.specs.{Meaning.Means, Reads.Span, Syntax.{Tree, leaf, literal}, TreeCode.tree_code}
use Rattle.wax_token.specs.Words.{members}

-- the characters of the expression, and the tree that they spell
pub record GlobView : Type 0 where
  pub expression : List ℕ
  pub tree : Tree Span

-- it is stored as the pair of its fields
abbrev pub glob_code : Coded GlobView
glob_code = code_by (List ℕ × Tree Span) (coded× (coded_list coded_ℕ) (tree_code (coded× coded_ℕ coded_ℕ)))
    (λ g. (g.expression, g.tree)) (λ p. record { expression = p.0; tree = p.1 }) (λ _. refl)

-- the tree of the empty expression: a literal without characters
abbrev pub empty_tree : Tree Span
empty_tree = leaf (0, 0) (literal false [])

-- what holds of each tree that parses and breaks no rule, and of each rest
abbrev pub IsKept : Tree Span → Type 0
IsKept t = Orderly t ⊎ (t ≡ empty_tree)

-- What a glob is compiled to: its tree, which is as the parser and the rules leave it, with its program and
-- its pieces.
pub record IsCompiledGlob (t : Tree Span) (program : Instructions) (pieces : List Piece) : Type 0 where
  pub compiled : IsCompiled t program
  pub split : ArePieces (members t) false false pieces
  pub kept : IsKept t

-- the glob means the text, with nothing around it
abbrev pub IsMeant : GlobView → List ℕ → Type 0
IsMeant g text = Means g.tree false false text

-- what the tokens of the glob capture of a text, with nothing around them
abbrev pub HasCaptures : GlobView → List ℕ → List (List ℕ) → Type 0
HasCaptures g text captures = Captured (members g.tree) false false text captures

-- where what the tokens of the glob capture lies in the text of these bytes, with nothing around them: the
-- first byte of each capture, and its number of bytes
abbrev pub HasSpans : GlobView → List ℕ → List Span → Type 0
HasSpans g bytes spans = AreSpans (members g.tree) bytes spans
