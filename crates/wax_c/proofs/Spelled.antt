-- Sets of expressions that were read and checked, without their globs.
use Rattle.std.proofs.Common.{◌≡◌, ◌≤◌, ◌∷◌, ◌↔◌, ◌⊎◌, ℕ, zero, suc, List, [], arith, ap, chars, refl, subst}
use Rattle.std.specs.List.{AllZip}
use Rattle.wax.specs.Language.{Span, Tokenized, Tree, branches_cost, program_length, trees}
use Rattle.wax.specs.{Patterns.{IsAnyOf, NumberMeans, OneMeans, SpellEach}, GlobView.GlobView}
use Rattle.wax.specs.Matching.{MeansAt, MeansText}
use Rattle.wax_c.specs.{inner.Spelled.{IsTokenOf, SpellsOnly}, Outcomes.IsGlobOf, Sets.{IsSetOf, IsTreeOf}}

-- the glob that would be built of them
glob_of : List ℕ → Tokenized Span → GlobView
glob_of bytes tokens = record { expression = chars bytes; tree = tokens.token }

globs_of : List (List ℕ) → List (Tokenized Span) → List GlobView
globs_of [] read = []
globs_of (bytes ∷ patterns) [] = []
globs_of (bytes ∷ patterns) (tokens ∷ read) = glob_of bytes tokens ∷ globs_of patterns read

-- each fits, since all together do
each_glob : (patterns : List (List ℕ)) (read : List (Tokenized Span)) (branches : List (Tree Span))
    → AllZip SpellsOnly patterns read → SpellEach IsTokenOf read branches
    → branches_cost (trees branches) ≤ 1048574 → AllZip IsGlobOf patterns (globs_of patterns read)
unfolding globs_of glob_of
each_glob [] [] branches all each fits = tt
each_glob [] (tokens ∷ read) branches all each fits = absurd all
each_glob (bytes ∷ patterns) [] branches all each fits = absurd all
each_glob (bytes ∷ patterns) (tokens ∷ read) [] all each fits = absurd each
each_glob (bytes ∷ patterns) (tokens ∷ read) (t ∷ branches) ((utf8, spells, only), all) (is, each) fits = (
  (
    utf8,
    record {
      expression = refl;
      spells = spells.0;
      only = only;
      keeps_rules = spells.1;
      fits = subst (λ u. program_length u ≤ 1048576) is.0 (omega (arith, fits));
    },
  ),
  each_glob patterns read branches all each (omega (arith, fits)),
)

-- their trees are those of the globs
same_trees : (patterns : List (List ℕ)) (read : List (Tokenized Span)) (branches : List (Tree Span))
    → AllZip SpellsOnly patterns read → SpellEach IsTokenOf read branches
    → SpellEach IsTreeOf (globs_of patterns read) branches
unfolding globs_of glob_of
same_trees [] [] branches all each = each
same_trees [] (tokens ∷ read) branches all each = absurd all
same_trees (bytes ∷ patterns) [] branches all each = absurd all
same_trees (bytes ∷ patterns) (tokens ∷ read) [] all each = absurd each
same_trees (bytes ∷ patterns) (tokens ∷ read) (t ∷ branches) (is, all) (one, each) =
    (one, same_trees patterns read branches all each)

-- and so is what they match
same_one : (patterns : List (List ℕ)) (read : List (Tokenized Span)) (s : List ℕ)
    → AllZip SpellsOnly patterns read
    → OneMeans IsTokenOf read s ≡ OneMeans IsTreeOf (globs_of patterns read) s
unfolding globs_of glob_of
same_one [] [] s all = refl
same_one [] (tokens ∷ read) s all = absurd all
same_one (bytes ∷ patterns) [] s all = absurd all
same_one (bytes ∷ patterns) (tokens ∷ read) s (is, all) =
    ap (λ Q. ((t : Tree Span) × (t ≡ tokens.token) × MeansText t s) ⊎ Q) (same_one patterns read s all)

same_number : (patterns : List (List ℕ)) (read : List (Tokenized Span)) (number : ℕ) (s : List ℕ)
    → AllZip SpellsOnly patterns read
    → NumberMeans IsTokenOf read number s ≡ NumberMeans IsTreeOf (globs_of patterns read) number s
unfolding globs_of glob_of
same_number [] [] number s all = refl
same_number [] (tokens ∷ read) number s all = absurd all
same_number (bytes ∷ patterns) [] number s all = absurd all
same_number (bytes ∷ patterns) (tokens ∷ read) zero s all = refl
same_number (bytes ∷ patterns) (tokens ∷ read) (suc number) s (is, all) =
    same_number patterns read number s all

-- so a set of what was read is the set of the globs
pub is_set_of : (patterns : List (List ℕ)) (read : List (Tokenized Span)) (set : Tree Span)
    → AllZip SpellsOnly patterns read → IsAnyOf IsTokenOf read set → IsSetOf patterns set
is_set_of patterns read set all any =
    let small : branches_cost (trees any.branches) ≤ 1048574 =
    omega (arith, subst (λ t. program_length t ≤ 1048576) any.tree any.fits) in
    record {
      globs = globs_of patterns read;
      each = each_glob patterns read any.branches all any.each small;
      any = record {
        branches = any.branches;
        each = same_trees patterns read any.branches all any.each;
        tree = any.tree;
        fits = any.fits;
        means = λ s. subst (λ Q. MeansText set s ↔ Q) (same_one patterns read s all) (any.means s);
        numbers = λ number s. subst (λ Q. MeansAt set number s ↔ Q) (same_number patterns read number s all)
            (any.numbers number s);
      };
    }
