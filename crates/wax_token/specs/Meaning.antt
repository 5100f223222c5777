-- Which texts a token tree means. `before` and `after` say whether something is written around it.
use Rattle.std.specs.Prelude.{◌≡◌, ◌≢◌, ℕ, zero, suc, ◌≤◌, Bool, true, false, ◌⊎◌, List, [], ◌∷◌, ◌++◌, not}
use Rattle.std.specs.{Prelude.{◌&&◌, ◌==◌, nat_le, if◌then◌else◌, ⊤}, List.{list_any, list_all}}
use Rattle.unicode.specs.CaseFolding.{simple_fold}
use Rattle.wax_token.specs.declared.token.Archetype.{Archetype}
use Rattle.wax_token.specs.declared.token.Archetype.TheVariants.{Character, Range}
use Rattle.wax_token.specs.Syntax.{Leaf, literal, class, separator, one, zero_or_more, tree, Tree, leaf}
use Rattle.wax_token.specs.Syntax.{alternation, concatenation, repetition, Trees, none, more}
pub use Rattle.wax_query.specs.Components.{HasNoSlash}
use Rattle.wax_query.specs.{Components.{BeginsWithSlash, EndsWithSlash}, Ranges.AtMost}

-- a tree wildcard: whether something is before it, whether something is after it, whether it is rooted
abbrev pub TreeMeans : Bool → Bool → Bool → List ℕ → Type 0
TreeMeans false false false s = ⊤
TreeMeans false false true s = BeginsWithSlash s
TreeMeans false true false s = (s ≡ []) ⊎ EndsWithSlash s
TreeMeans false true true s = BeginsWithSlash s × EndsWithSlash s
TreeMeans true true rooted s = BeginsWithSlash s × EndsWithSlash s
TreeMeans true false rooted s = (s ≡ []) ⊎ BeginsWithSlash s

abbrev pub in_archetype : ℕ → Archetype → Bool
in_archetype c (Character d) = c == d
in_archetype c (Range low high) = nat_le low c && nat_le c high

-- the range isn't reversed
abbrev pub is_forward : Archetype → Bool
is_forward (Character d) = true
is_forward (Range low high) = nat_le low high

-- a character of a class; a class with a reversed range has none
abbrev pub in_class : Bool → List Archetype → ℕ → Bool
in_class negated xs c =
    not (c == 47)
    && list_all is_forward xs
    && (if negated then not (list_any (in_archetype c) xs) else list_any (in_archetype c) xs)

-- the two characters share their simple folding
unfoldable pub SameFold : ℕ → ℕ → Type 0
SameFold c d = simple_fold c ≡ simple_fold d

-- the same characters, or with the flag characters of the same folding
abbrev pub SameText : Bool → List ℕ → List ℕ → Type 0
SameText insensitive [] [] = ⊤
SameText insensitive [] (d ∷ s) = ⊥
SameText insensitive (c ∷ t) [] = ⊥
SameText false (c ∷ t) (d ∷ s) = (c ≡ d) × SameText false t s
SameText true (c ∷ t) (d ∷ s) = SameFold c d × SameText true t s

abbrev pub LeafMeans : Leaf → Bool → Bool → List ℕ → Type 0
LeafMeans (literal insensitive t) before after s = SameText insensitive t s
LeafMeans (class negated xs) before after s =
    (c : ℕ) × (s ≡ c ∷ []) × (in_class negated xs c ≡ true)
LeafMeans separator before after s = s ≡ 47 ∷ []
LeafMeans one before after s = (c : ℕ) × (s ≡ c ∷ []) × (c ≢ 47)
LeafMeans (zero_or_more _) before after s = HasNoSlash s
LeafMeans (tree rooted) before after s = TreeMeans before after rooted s

-- k copies one after another, each with the others around it
abbrev pub Copies : ℕ → (Bool → Bool → List ℕ → Type 0) → Bool → Bool → List ℕ → Type 0
Copies zero Body before after s = s ≡ []
Copies (suc zero) Body before after s = Body before after s
Copies (suc (suc k)) Body before after s =
    (x : List ℕ) × (y : List ℕ) × (s ≡ x ++ y) × Body before true x × Copies (suc k) Body true after y

abbrev mutual
  pub Means : {A : Type 0} → Tree A → Bool → Bool → List ℕ → Type 0
  Means (leaf a l) before after s = LeafMeans l before after s
  Means (alternation a ts) before after s = MeansSome ts before after s
  Means (concatenation a ts) before after s = MeansEach ts before after s
  Means (repetition a t low high) before after s =
      (k : ℕ) × (low ≤ k) × AtMost k high × Copies k (Means t) before after s

  pub MeansSome : {A : Type 0} → Trees A → Bool → Bool → List ℕ → Type 0
  MeansSome none before after s = ⊥
  MeansSome (more t ts) before after s = Means t before after s ⊎ MeansSome ts before after s

  -- one piece for each tree
  pub MeansEach : {A : Type 0} → Trees A → Bool → Bool → List ℕ → Type 0
  MeansEach none before after s = s ≡ []
  MeansEach (more t none) before after s = Means t before after s
  MeansEach (more t (more u us)) before after s =
      (x : List ℕ) × (y : List ℕ) × (s ≡ x ++ y) × Means t before true x × MeansEach (more u us) true after y
