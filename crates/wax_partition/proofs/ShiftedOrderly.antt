-- Where bytes before them are gone, trees are as orderly as they were.
use Rattle.std.proofs.Common.{◌≡◌, ℕ, Bool, true, false, ◌||◌, refl}
use Rattle.wax_token.specs.Reads.{Span}
use Rattle.wax_token.specs.Syntax.{Leaf, Tree, leaf, alternation, concatenation, repetition, Trees, none}
use Rattle.wax_token.specs.{Syntax.more, Kinds.is_boundary_leaf}
use Rattle.wax_facts.specs.Rules.{are_incompatible}
use Rattle.wax_facts.specs.Situated.{starts_with_leaf, some_starts_in, first_starts_in, ends_in, some_ends_in}
use Rattle.wax_facts.specs.Situated.{last_ends_in}
use Rattle.wax_facts.specs.Orderly.{Apart, ApartEach, ApartSome, Flat, FlatEach, FlatSome, Full, FullEach}
use Rattle.wax_facts.specs.Orderly.{IsSome, Orderly, Worded, WordedEach, is_token}
use Rattle.wax_rule.specs.Shifted.{shifted_tree, shifted_each}

module _ (k : ℕ) where
  some_here : (ts : Trees Span) → IsSome (shifted_each k ts) ≡ IsSome ts
  some_here none = refl
  some_here (more t ts) = refl

  token_here : (t : Tree Span) → is_token (shifted_tree k t) ≡ is_token t
  token_here (leaf a l) = refl
  token_here (alternation a ts) = refl
  token_here (concatenation a ts) = refl
  token_here (repetition a t low high) = refl

  mutual
    full_here : (t : Tree Span) → Full (shifted_tree k t) ≡ Full t
    full_here (leaf a l) = refl
    full_here (alternation a ts) = λ i. some_here ts i × full_each ts i
    full_here (concatenation a ts) = λ i. some_here ts i × full_each ts i
    full_here (repetition a t low high) = full_here t

    full_each : (ts : Trees Span) → FullEach (shifted_each k ts) ≡ FullEach ts
    full_each none = refl
    full_each (more t ts) = λ i. full_here t i × full_each ts i

  mutual
    flat_here : (t : Tree Span) → Flat (shifted_tree k t) ≡ Flat t
    flat_here (leaf a l) = refl
    flat_here (alternation a ts) = flat_some ts
    flat_here (concatenation a ts) = flat_each ts
    flat_here (repetition a t low high) = flat_here t

    flat_some : (ts : Trees Span) → FlatSome (shifted_each k ts) ≡ FlatSome ts
    flat_some none = refl
    flat_some (more t ts) = λ i. flat_here t i × flat_some ts i

    flat_each : (ts : Trees Span) → FlatEach (shifted_each k ts) ≡ FlatEach ts
    flat_each none = refl
    flat_each (more t ts) = λ i. (token_here t i ≡ true) × flat_here t i × flat_each ts i

  mutual
    worded_here : (t : Tree Span) → Worded (shifted_tree k t) ≡ Worded t
    worded_here (leaf a l) = refl
    worded_here (alternation a ts) = worded_each ts
    worded_here (concatenation a ts) = worded_each ts
    worded_here (repetition a t low high) = worded_here t

    worded_each : (ts : Trees Span) → WordedEach (shifted_each k ts) ≡ WordedEach ts
    worded_each none = refl
    worded_each (more t ts) = λ i. worded_here t i × worded_each ts i

  mutual
    starts_here : (such : Leaf → Bool) (t : Tree Span)
        → starts_with_leaf such (shifted_tree k t) ≡ starts_with_leaf such t
    starts_here such (leaf a l) = refl
    starts_here such (alternation a ts) = starts_some such ts
    starts_here such (concatenation a ts) = starts_first such ts
    starts_here such (repetition a t low high) = starts_here such t

    starts_some : (such : Leaf → Bool) (ts : Trees Span)
        → some_starts_in such (shifted_each k ts) ≡ some_starts_in such ts
    starts_some such none = refl
    starts_some such (more t ts) = λ i. starts_here such t i || starts_some such ts i

    starts_first : (such : Leaf → Bool) (ts : Trees Span)
        → first_starts_in such (shifted_each k ts) ≡ first_starts_in such ts
    starts_first such none = refl
    starts_first such (more t ts) = starts_here such t

  mutual
    ends_here : (such : Leaf → Bool) (t : Tree Span) → ends_in such (shifted_tree k t) ≡ ends_in such t
    ends_here such (leaf a l) = refl
    ends_here such (alternation a ts) = ends_some such ts
    ends_here such (concatenation a ts) = ends_last such ts
    ends_here such (repetition a t low high) = ends_here such t

    ends_some : (such : Leaf → Bool) (ts : Trees Span)
        → some_ends_in such (shifted_each k ts) ≡ some_ends_in such ts
    ends_some such none = refl
    ends_some such (more t ts) = λ i. ends_here such t i || ends_some such ts i

    ends_last : (such : Leaf → Bool) (ts : Trees Span)
        → last_ends_in such (shifted_each k ts) ≡ last_ends_in such ts
    ends_last such none = refl
    ends_last such (more t none) = ends_here such t
    ends_last such (more t (more u us)) = ends_last such (more u us)

  mutual
    apart_here : (t : Tree Span) → Apart (shifted_tree k t) ≡ Apart t
    apart_here (leaf a l) = refl
    apart_here (alternation a ts) = apart_some ts
    apart_here (concatenation a ts) = apart_each ts
    apart_here (repetition a t low high) = λ i. (are_incompatible low high ≡ false) × apart_here t i

    apart_some : (ts : Trees Span) → ApartSome (shifted_each k ts) ≡ ApartSome ts
    apart_some none = refl
    apart_some (more t ts) = λ i. apart_here t i × apart_some ts i

    apart_each : (ts : Trees Span) → ApartEach (shifted_each k ts) ≡ ApartEach ts
    apart_each none = refl
    apart_each (more t ts) = λ i.
        apart_here t i × (ends_here is_boundary_leaf t i ≡ true → starts_first is_boundary_leaf ts i ≡ false)
        × apart_each ts i

  pub orderly_each : (s : Span) (ts : Trees Span) → Orderly (concatenation s (shifted_each k ts))
      ≡ Orderly (concatenation s ts)
  orderly_each s ts =
      λ i. (some_here ts i × full_each ts i) × flat_each ts i × worded_each ts i × apart_each ts i
