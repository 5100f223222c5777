-- Rows of tokens with their programs.
use Rattle.std.specs.{Prelude.{◌↔◌, ℕ, false, List}, Coded.{Coded, coded×, coded_list, coded_ℕ}}
use Rattle.wax_prefilter.specs.Compiled.{Instructions}
use Rattle.wax_program.specs.Machine.{Accepts}
use Rattle.wax_token.specs.{Meaning.MeansEach, Reads.Span, Syntax.Tree, TreeCode.tree_code, Words.trees}

-- how a row of tokens is stored
abbrev pub row_code : Coded (List (Tree Span))
row_code = coded_list (tree_code (coded× coded_ℕ coded_ℕ))

-- the program accepts exactly what the tokens match one after another, with nothing around them
abbrev pub AcceptsEach : Instructions → List (Tree Span) → Type 0
AcceptsEach program ts = (s : List ℕ) → Accepts program.0 0 s ↔ MeansEach (trees ts) false false s
