-- The facts of a glob, and the lines that `query` writes of them.
use Rattle.std.specs.Prelude.{◌≡◌, ◌==◌, ℕ, List, [], ◌∷◌, ◌++◌, Option, Some, None, MatchOption, chars}
use Rattle.std.specs.{Prelude.{codes, decimal, encode_utf8_all, if◌then◌else◌, length}, List.flat_map}
use Rattle.wax.specs.{GlobView.GlobView, Partition.HasParts}
use Rattle.wax.specs.Queries.{Always, Bounds, Depth, Never, Sometimes, Text, Variant, When, captures}
use Rattle.wax.specs.Queries.{exhaustive, root, warnings}
use Rattle.wax_components.specs.{Warnings.span_of_warning, declared.warnings.Warning.Warning}
use Rattle.wax_components.specs.declared.warnings.Warning.TheVariants.{SemanticLiteral, TerminatingSeparator}

-- what is known of a glob: among others, the bytes of its text, if it has only one, and of its prefix; the
-- rest, if there is one; and how many tokens capture
pub record QueryFacts : Type 0 where
  pub depth : Bounds
  pub text : Option (List ℕ)
  pub root : When
  pub exhaustive : When
  pub prefix : List ℕ
  pub rest : Option GlobView
  pub captures : ℕ
  pub warnings : List Warning

-- the bounds of the glob's depth
abbrev pub IsDepthOf : GlobView → Bounds → Type 0
IsDepthOf g depth = Depth g.tree depth

-- the bytes of the glob's text, if it has only one
abbrev pub IsTextOf : GlobView → Option (List ℕ) → Type 0
IsTextOf g text = MatchOption text (Variant g.tree) (λ t. Text g.tree (chars t))

-- the facts are those of the glob
pub record AreFactsOf (g : GlobView) (facts : QueryFacts) : Type 0 where
  pub depth : IsDepthOf g facts.depth
  pub text : IsTextOf g facts.text
  pub root : facts.root ≡ root g.tree
  pub exhaustive : facts.exhaustive ≡ exhaustive g.tree
  pub parts : HasParts g (chars facts.prefix) facts.rest
  pub captures : facts.captures ≡ length (captures g.tree)
  pub warnings : facts.warnings ≡ warnings g.expression g.tree

-- ---- as lines

-- one number, or the lower bound, two dots (46), and the upper bound if there is one
abbrev pub range_text : ℕ → Option ℕ → List ℕ
range_text lower None = decimal lower ++ 46 ∷ 46 ∷ []
range_text lower (Some upper) =
    if upper == lower then decimal lower else decimal lower ++ 46 ∷ 46 ∷ decimal upper

abbrev pub when_text : When → List ℕ
when_text Never = codes "never"
when_text Sometimes = codes "sometimes"
when_text Always = codes "always"

abbrev pub variance_text : Option (List ℕ) → List ℕ
variance_text None = codes "variant"
variance_text (Some text) = codes "invariant " ++ text

-- the lines of these words for the depth, the root and the exhaustiveness
abbrev pub lines_of_texts : List ℕ → Option (List ℕ) → List ℕ → List ℕ → List ℕ
lines_of_texts depth text root exhaustive =
    codes "depth " ++ (depth
    ++ (codes "\ntext " ++ (variance_text text
    ++ (codes "\nroot " ++ (root
    ++ (codes "\nexhaustive " ++ (exhaustive ++ codes "\n")))))))

abbrev pub fact_lines : Bounds → Option (List ℕ) → When → When → List ℕ
fact_lines depth text root exhaustive =
    lines_of_texts (range_text depth.0 depth.1) text (when_text root) (when_text exhaustive)

-- the rest by its expression
abbrev pub rest_line : Option GlobView → List ℕ
rest_line None = codes "no rest\n"
rest_line (Some rest) = codes "rest " ++ (encode_utf8_all rest.expression ++ codes "\n")

abbrev pub part_lines : List ℕ → Option GlobView → List ℕ
part_lines prefix rest = codes "prefix " ++ (prefix ++ (codes "\n" ++ rest_line rest))

abbrev pub warning_kind : Warning → List ℕ
warning_kind (SemanticLiteral warning) = codes "semantic literal"
warning_kind (TerminatingSeparator warning) = codes "terminating separator"

-- its kind, and where its span begins and how long it is
abbrev pub warning_line : Warning → List ℕ
warning_line warning =
    codes "warning " ++ (warning_kind warning
    ++ (codes " " ++ (decimal (span_of_warning warning).0
    ++ (codes " " ++ (decimal (span_of_warning warning).1 ++ codes "\n")))))

abbrev pub captures_line : ℕ → List ℕ
captures_line captures = codes "captures " ++ (decimal captures ++ codes "\n")

abbrev pub token_lines : ℕ → List Warning → List ℕ
token_lines captures warnings = captures_line captures ++ flat_map warning_line warnings

-- the lines, one after another
abbrev pub query_text : QueryFacts → List ℕ
query_text f =
    fact_lines f.depth f.text f.root f.exhaustive
    ++ (part_lines f.prefix f.rest ++ token_lines f.captures f.warnings)
