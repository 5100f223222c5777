-- A glob in two: its prefix, and the rest as an expression.
use Rattle.std.specs.{Prelude.{◌≡◌, ℕ, List, Option, Some, None, chars, if◌then◌else◌}, Cow.cow_str_bytes}
use Rattle.wax_token.specs.{Reads.{Span, utf8_len}, Syntax.{Tree, concatenation, Trees, none, more}}
use Rattle.wax_token.specs.{Words.annotation_of, declared.token.Tokenized.Tokenized}
use Rattle.wax_facts.specs.{Orderly.Flat, Partition.rest_end, Prefix.Prefix, Rest.left}
use Rattle.wax_facts.specs.RootedTrees.{is_rooted_tree}
use Rattle.wax_partition.specs.Kept.{between, without_slash}
use Rattle.wax_rule.specs.Shifted.{shifted_rest}

-- the characters of an expression from a token up to a byte; a `**` loses its `/`
abbrev pub rest_text : List ℕ → ℕ → Tree Span → List ℕ
rest_text e end t =
    if is_rooted_tree t
    then without_slash (between 0 (annotation_of t).0 end e)
    else between 0 (annotation_of t).0 end e

-- tokens of an expression, up to a byte, as an expression and its token
abbrev pub rest_glob : List ℕ → ℕ → Trees Span → Option (List ℕ × Tree Span)
rest_glob e end none = None
rest_glob e end (more t ts) =
    Some (rest_text e end t, concatenation (0, utf8_len (rest_text e end t)) (shifted_rest (more t ts)))

-- the prefix of an expression's tree, and where that is flat the rest
abbrev pub IsPartition : List ℕ → Tree Span → List ℕ → Option (List ℕ × Tree Span) → Type 0
IsPartition e t p rest =
    (n : ℕ) × Prefix t n p × (Flat t → rest ≡ rest_glob e (rest_end t n) (left t n))

-- an expression's characters, and its token
abbrev pub spelled_rest : Option (Tokenized Span) → Option (List ℕ × Tree Span)
spelled_rest None = None
spelled_rest (Some u) = Some (chars (cow_str_bytes u.expression), u.token)
