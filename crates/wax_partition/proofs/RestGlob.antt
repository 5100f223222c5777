-- The rest by its parts.
use Rattle.std.proofs.Common.{◌≡◌, ℕ, List, [], ◌∷◌, Some, ◌∙◌, ap}
use Rattle.std.specs.List.{slice_get}
use Rattle.wax_token.specs.{Reads.{Span, utf8_len}, Syntax.{Tree, concatenation, Trees, more}, Words.trees}
use Rattle.wax_partition.specs.Partition.{rest_glob, rest_text}
use Rattle.wax_rule.specs.Shifted.{shifted_rest}

glob_of : (e : List ℕ) (end : ℕ) (t : Tree Span) (ts : Trees Span) (x : List ℕ) (v : Tree Span)
    → x ≡ rest_text e end t →
    v ≡ concatenation (0, utf8_len x) (shifted_rest (more t ts)) → Some (x, v) ≡ rest_glob e end (more t ts)
glob_of e end t ts x v f g =
    let h : v ≡ concatenation (0, utf8_len (rest_text e end t)) (shifted_rest (more t ts)) =
    g ∙ ap (λ z. concatenation (0, utf8_len z) (shifted_rest (more t ts))) f in
    λ i. Some (f i, h i)

some_same : (t u : Tree Span) → Some t ≡ Some u → t ≡ u
some_same t u e = cc

pub glob_is : (e : List ℕ) (end : ℕ) (items : List (Tree Span)) (t : Tree Span) (x : List ℕ) (n : ℕ)
    (ts : Trees Span) (v : Tree Span) →
    Some t ≡ slice_get items 0 → x ≡ rest_text e end t → n ≡ utf8_len x → ts ≡ shifted_rest (trees items)
    → v ≡ concatenation (0, n) ts →
    Some (x, v) ≡ rest_glob e end (trees items)
glob_is e end [] t x n ts v q f g h k = absurd (let z : ⊥ = cc in z)
glob_is e end (u ∷ us) t x n ts v q f g h k =
    glob_of e end u (trees us) x v (f ∙ ap (rest_text e end) (some_same t u q))
    (k ∙ ap (λ z. concatenation (0, z) ts) g ∙ ap (concatenation (0, utf8_len x)) h)
