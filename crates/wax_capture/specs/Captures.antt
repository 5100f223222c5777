-- The chosen split of a text over tokens that stand one after another, and what each token captures of it.
use Rattle.std.specs.Prelude.{◌≡◌, ℕ, zero, suc, ◌≤◌, Bool, true, false, ◌||◌, List, [], ◌∷◌, ◌++◌, ◌+◌}
use Rattle.std.specs.Prelude.{length, map, take, drop, ◌==◌, if◌then◌else◌}
use Rattle.wax_lengths.specs.Prefers.{Prefers}
use Rattle.wax_token.specs.declared.token.Evaluation.TheVariants.{Eager, Lazy}
use Rattle.wax_token.specs.{Meaning.{TreeMeans, LeafMeans, Means, MeansEach}, Reads.utf8_len}
use Rattle.wax_token.specs.Syntax.{Leaf, literal, class, separator, one, zero_or_more, tree, Tree, leaf}
use Rattle.wax_token.specs.Syntax.{alternation, concatenation, repetition, Trees, none, more}

-- ---- what is captured of a piece

-- What a tree wildcard captures of its piece: after something all but the leading `/`, with which each such
-- piece begins that isn't empty; at the front, where no `/` is written in it, nothing of a lone `/`.
abbrev pub tree_capture : Bool → Bool → List ℕ → List ℕ
tree_capture true rooted s = drop 1 s
tree_capture false true s = s
tree_capture false false [] = []
tree_capture false false (c ∷ []) = if c == 47 then [] else c ∷ []
tree_capture false false (c ∷ d ∷ s) = c ∷ d ∷ s

abbrev pub leaf_captures : Leaf → Bool → List ℕ → List (List ℕ)
leaf_captures (literal _ _) before x = []
leaf_captures separator before x = []
leaf_captures (class _ _) before x = x ∷ []
leaf_captures one before x = x ∷ []
leaf_captures (zero_or_more _) before x = x ∷ []
leaf_captures (tree rooted) before x = tree_capture before rooted x ∷ []

-- what a token captures of its piece, or no capture; `before` says whether something is before it
abbrev pub token_captures : {A : Type 0} → Tree A → Bool → List ℕ → List (List ℕ)
token_captures (leaf a l) before x = leaf_captures l before x
token_captures (alternation a ts) before x = x ∷ []
token_captures (concatenation a ts) before x = []
token_captures (repetition a t low high) before x = x ∷ []

-- How many characters at the beginning of its piece a token doesn't capture: the `/` with which the piece of
-- a tree wildcard begins after something.
abbrev pub leaf_skips : Leaf → Bool → ℕ
leaf_skips (literal _ _) before = 0
leaf_skips separator before = 0
leaf_skips (class _ _) before = 0
leaf_skips one before = 0
leaf_skips (zero_or_more _) before = 0
leaf_skips (tree rooted) true = 1
leaf_skips (tree rooted) false = 0

abbrev pub token_skips : {A : Type 0} → Tree A → Bool → ℕ
token_skips (leaf a l) before = leaf_skips l before
token_skips (alternation a ts) before = 0
token_skips (concatenation a ts) before = 0
token_skips (repetition a t low high) before = 0

-- Where what a token captures of its piece lies: the first byte, and the number of bytes. The piece begins at
-- this byte.
abbrev pub token_spans : {A : Type 0} → Tree A → Bool → ℕ → List ℕ → List (ℕ × ℕ)
token_spans t before byte x =
    map (λ capture. (byte + utf8_len (take (token_skips t before) x), utf8_len capture))
    (token_captures t before x)

-- ---- which piece is chosen

-- the k-th branch
abbrev pub MeansBranch : {A : Type 0} → Trees A → ℕ → Bool → Bool → List ℕ → Type 0
MeansBranch none k before after x = ⊥
MeansBranch (more t ts) zero before after x = Means t before after x
MeansBranch (more t ts) (suc k) before after x = MeansBranch ts k before after x

-- only the first way means it
abbrev pub First : Type 0 → ℕ → Type 0
First M zero = M
First M (suc k) = ⊥

abbrev pub LeafWay : Leaf → ℕ → Bool → Bool → List ℕ → Type 0
LeafWay (tree rooted) zero before after x =
    TreeMeans before after rooted x × (tree_capture before rooted x ≡ [])
LeafWay (tree rooted) (suc k) before after x = First (TreeMeans before after rooted x) k
LeafWay (literal i t) k before after x = First (LeafMeans (literal i t) before after x) k
LeafWay (class n xs) k before after x = First (LeafMeans (class n xs) before after x) k
LeafWay separator k before after x = First (LeafMeans separator before after x) k
LeafWay one k before after x = First (LeafMeans one before after x) k
LeafWay (zero_or_more e) k before after x = First (LeafMeans (zero_or_more e) before after x) k

-- The ways of a token to mean a piece, each better than those after it: the branches of an alternation; of
-- a tree wildcard first those pieces of which nothing is captured, then all; one way of any other token.
abbrev pub MeansByWay : {A : Type 0} → Tree A → ℕ → Bool → Bool → List ℕ → Type 0
MeansByWay (leaf a l) k before after x = LeafWay l k before after x
MeansByWay (alternation a ts) k before after x = MeansBranch ts k before after x
MeansByWay (concatenation a ts) k before after x = First (MeansEach ts before after x) k
MeansByWay (repetition a t low high) k before after x =
    First (Means (repetition a t low high) before after x) k

abbrev pub is_lazy_leaf : Leaf → Bool
is_lazy_leaf (zero_or_more Lazy) = true
is_lazy_leaf (zero_or_more Eager) = false
is_lazy_leaf (literal _ _) = false
is_lazy_leaf (class _ _) = false
is_lazy_leaf separator = false
is_lazy_leaf one = false
is_lazy_leaf (tree _) = false

-- `$`, which takes the shortest piece, as each other token takes the longest
abbrev pub is_lazy : {A : Type 0} → Tree A → Bool
is_lazy (leaf a l) = is_lazy_leaf l
is_lazy (alternation a ts) = false
is_lazy (concatenation a ts) = false
is_lazy (repetition a t low high) = false

abbrev pub has_more : {A : Type 0} → Trees A → Bool
has_more none = false
has_more (more t ts) = true

-- the first n characters can be the piece of the token t, by its k-th way, as the others mean the rest
abbrev pub FitsPiece : {A : Type 0} → Tree A → Trees A → Bool → Bool → List ℕ → ℕ × ℕ → Type 0
FitsPiece t ts before after s (k, n) =
    (n ≤ length s) × MeansByWay t k before (after || has_more ts) (take n s)
    × MeansEach ts true after (drop n s)

-- of all lengths that fit, n is the one by the best way, and by that way the longest or the shortest
pub record IsChosen {A : Type 0} (t : Tree A) (ts : Trees A) (before after : Bool) (s : List ℕ) (n : ℕ) :
    Type 0 where
  pub way : ℕ
  pub fits : FitsPiece t ts before after s (way, n)
  pub first : (k m : ℕ) → FitsPiece t ts before after s (k, m) → way ≤ k
  pub best : (m : ℕ) → FitsPiece t ts before after s (way, m) → Prefers (is_lazy t) n m

-- the captures of the tokens, whose pieces are chosen from left to right
abbrev pub Captured : {A : Type 0} → Trees A → Bool → Bool → List ℕ → List (List ℕ) → Type 0
Captured none before after s captures = (s ≡ []) × (captures ≡ [])
Captured (more t ts) before after s captures =
    (n : ℕ) × IsChosen t ts before after s n
    × (others : List (List ℕ)) × Captured ts true after (drop n s) others
    × (captures ≡ token_captures t before (take n s) ++ others)

-- Where the captures of the tokens lie: the pieces are chosen from left to right, and one after another they
-- are the whole text. So each begins where the one before it ends, and the first at this byte.
abbrev pub CapturedAt : {A : Type 0} → Trees A → Bool → Bool → ℕ → List ℕ → List (ℕ × ℕ) → Type 0
CapturedAt none before after byte s spans = (s ≡ []) × (spans ≡ [])
CapturedAt (more t ts) before after byte s spans =
    (n : ℕ) × IsChosen t ts before after s n
    × (others : List (ℕ × ℕ)) × CapturedAt ts true after (byte + utf8_len (take n s)) (drop n s) others
    × (spans ≡ token_spans t before byte (take n s) ++ others)
