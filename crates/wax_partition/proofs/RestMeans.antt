-- The rest as an expression of its own means what it means in the whole.
use Rattle.std.proofs.Common.{◌≡◌, ℕ, ◌+◌, ◌-◌, Bool, true, false, List, refl, ◌∙◌}
use Rattle.wax_token.specs.{Meaning.MeansEach, Reads.Span}
use Rattle.wax_token.specs.Syntax.{Leaf, literal, class, separator, one, zero_or_more, tree, leaf}
use Rattle.wax_token.specs.Syntax.{alternation, concatenation, repetition, Trees, none, more}
use Rattle.wax_facts.specs.{Orderly.Orderly, Rest.unrooted}
use Rattle.wax_rule.specs.Shifted.{shifted_each, shifted_rest, shifted_span}
use Rattle.wax_partition.proofs.{ShiftedMeans.each_shifted, ShiftedOrderly.orderly_each}

-- what no span changes holds of the rest in its own expression where it holds in the whole
module _ (F : Trees Span → Type 0) (each : (k : ℕ) (ts : Trees Span) → F (shifted_each k ts) ≡ F ts)
    (first : (s r : Span) (l : Leaf) (ts : Trees Span)
    → F (more (leaf s l) ts) ≡ F (more (leaf r l) ts)) where
  pub rest_same : (ts : Trees Span) → F (shifted_rest ts) ≡ F (unrooted ts)
  rest_same none = refl
  rest_same (more (leaf s (tree true)) ts) =
      first (0, s.1 - 1) (shifted_span (s.0 + 1) s) (tree false) (shifted_each (s.0 + 1) ts)
      ∙ each (s.0 + 1) (more (leaf s (tree false)) ts)
  rest_same (more (leaf s (tree false)) ts) = each s.0 (more (leaf s (tree false)) ts)
  rest_same (more (leaf s (literal b x)) ts) = each s.0 (more (leaf s (literal b x)) ts)
  rest_same (more (leaf s (class b xs)) ts) = each s.0 (more (leaf s (class b xs)) ts)
  rest_same (more (leaf s separator) ts) = each s.0 (more (leaf s separator) ts)
  rest_same (more (leaf s one) ts) = each s.0 (more (leaf s one) ts)
  rest_same (more (leaf s (zero_or_more e)) ts) = each s.0 (more (leaf s (zero_or_more e)) ts)
  rest_same (more (alternation s us) ts) = each s.0 (more (alternation s us) ts)
  rest_same (more (concatenation s us) ts) = each s.0 (more (concatenation s us) ts)
  rest_same (more (repetition s t low high) ts) = each s.0 (more (repetition s t low high) ts)

first_means : (b f : Bool) (x : List ℕ) (s r : Span) (l : Leaf) (ts : Trees Span)
    → MeansEach (more (leaf s l) ts) b f x ≡ MeansEach (more (leaf r l) ts) b f x
first_means b f x s r l none = refl
first_means b f x s r l (more t ts) = refl

pub rest_means : (b f : Bool) (x : List ℕ) (ts : Trees Span)
    → MeansEach (shifted_rest ts) b f x ≡ MeansEach (unrooted ts) b f x
rest_means b f x = rest_same (λ ts. MeansEach ts b f x) (λ k ts. each_shifted k ts b f x) (first_means b f x)

pub rest_orderly : (s : Span) (ts : Trees Span) → Orderly (concatenation s (shifted_rest ts))
    ≡ Orderly (concatenation s (unrooted ts))
rest_orderly s = rest_same (λ ts. Orderly (concatenation s ts)) (λ k. orderly_each k s) (λ r q l ts. refl)
