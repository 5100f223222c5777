-- Where bytes before them are gone, trees mean what they meant.
use Rattle.std.proofs.Common.{◌≡◌, ◌≤◌, ◌⊎◌, ℕ, Bool, true, List, ◌++◌, refl}
use Rattle.wax_query.specs.Ranges.{AtMost}
use Rattle.wax_token.specs.{Meaning.{Copies, Means, MeansEach, MeansSome}, Reads.Span}
use Rattle.wax_token.specs.Syntax.{Tree, leaf, alternation, concatenation, repetition, Trees, none, more}
use Rattle.wax_rule.specs.Shifted.{shifted_tree, shifted_each}

module _ (k : ℕ) where
  mutual
    pub means_shifted : (t : Tree Span) (b f : Bool) (s : List ℕ)
        → Means (shifted_tree k t) b f s ≡ Means t b f s
    means_shifted (leaf a l) b f s = refl
    means_shifted (alternation a ts) b f s = some_shifted ts b f s
    means_shifted (concatenation a ts) b f s = each_shifted ts b f s
    means_shifted (repetition a t low high) b f s =
        λ i. (n : ℕ) × (low ≤ n) × AtMost n high × Copies n (λ c d u. means_shifted t c d u i) b f s

    some_shifted : (ts : Trees Span) (b f : Bool) (s : List ℕ)
        → MeansSome (shifted_each k ts) b f s ≡ MeansSome ts b f s
    some_shifted none b f s = refl
    some_shifted (more t ts) b f s = λ i. means_shifted t b f s i ⊎ some_shifted ts b f s i

    pub each_shifted : (ts : Trees Span) (b f : Bool) (s : List ℕ)
        → MeansEach (shifted_each k ts) b f s ≡ MeansEach ts b f s
    each_shifted none b f s = refl
    each_shifted (more t none) b f s = means_shifted t b f s
    each_shifted (more t (more u us)) b f s =
        λ i. (x : List ℕ) × (y : List ℕ) × (s ≡ x ++ y) × means_shifted t b true x i
        × each_shifted (more u us) true f y i
