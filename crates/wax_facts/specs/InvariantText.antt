-- The invariant text of a tree: the only text that it matches, if its tokens show that there is only one.
use Rattle.std.specs.Prelude.{◌≡◌, ◌≢◌, ℕ, zero, suc, ◌==◌, ◌&&◌, Bool, true, false, IsTrue, List, [], ◌∷◌}
use Rattle.std.specs.{Prelude.{◌++◌, Option, Some, ⊤}, List.list_all}
use Rattle.wax_token.specs.declared.token.Archetype.{Archetype}
use Rattle.wax_token.specs.declared.token.Archetype.TheVariants.{Character, Range}
use Rattle.wax_token.specs.Syntax.{Leaf, literal, class, separator, one, zero_or_more, tree, Tree, leaf}
use Rattle.wax_token.specs.Syntax.{alternation, concatenation, repetition, Trees, none, more}
use Rattle.wax_token.specs.Meaning.{SameFold}

-- no other character has the same case folding
abbrev pub FoldsAlone : ℕ → Type 0
FoldsAlone c = (d : ℕ) → SameFold c d → d ≡ c

abbrev pub AllFoldAlone : List ℕ → Type 0
AllFoldAlone [] = ⊤
AllFoldAlone (c ∷ t) = FoldsAlone c × AllFoldAlone t

-- a literal, as its flag and its characters, that matches more than one text
abbrev pub VariesInCase : Bool × List ℕ → Type 0
VariesInCase l = IsTrue l.0 × (AllFoldAlone l.1 → ⊥)

abbrev pub is_only : ℕ → Archetype → Bool
is_only c (Character d) = d == c
is_only c (Range low high) = (low == c) && (high == c)

abbrev pub times : ℕ → List ℕ → List ℕ
times zero x = []
times (suc n) x = x ++ times n x

abbrev pub LeafText : Leaf → List ℕ → Type 0
LeafText (literal false t) s = s ≡ t
LeafText (literal true t) s = (s ≡ t) × AllFoldAlone t
LeafText (class true xs) s = ⊥
LeafText (class false xs) s =
    (c : ℕ) × (s ≡ c ∷ []) × (c ≢ 47) × (xs ≢ []) × (list_all (is_only c) xs ≡ true)
LeafText separator s = s ≡ 47 ∷ []
LeafText one s = ⊥
LeafText (zero_or_more evaluation) s = ⊥
LeafText (tree rooted) s = ⊥

-- s is a fixed number of copies of one text
abbrev pub IsRepeated : (List ℕ → Type 0) → ℕ → Option ℕ → List ℕ → Type 0
IsRepeated P low high s = (x : List ℕ) × P x × (high ≡ Some low) × (s ≡ times low x)

-- the tree has an invariant text, which is s
abbrev mutual
  pub Text : {A : Type 0} → Tree A → List ℕ → Type 0
  Text (leaf a l) s = LeafText l s
  Text (alternation a ts) s = TextOfAll ts s
  Text (concatenation a ts) s = TextOfEach ts s
  Text (repetition a t low high) s = IsRepeated (Text t) low high s

  -- of branches: each has the text s
  pub TextOfAll : {A : Type 0} → Trees A → List ℕ → Type 0
  TextOfAll none s = s ≡ []
  TextOfAll (more t none) s = Text t s
  TextOfAll (more t (more u us)) s = Text t s × TextOfAll (more u us) s

  -- of tokens one after another: their texts, joined
  pub TextOfEach : {A : Type 0} → Trees A → List ℕ → Type 0
  TextOfEach none s = s ≡ []
  TextOfEach (more t ts) s = (x : List ℕ) × (y : List ℕ) × (s ≡ x ++ y) × Text t x × TextOfEach ts y

abbrev pub NoText : (List ℕ → Type 0) → Type 0
NoText P = (s : List ℕ) → P s → ⊥

-- the tree has no invariant text
abbrev pub Variant : {A : Type 0} → Tree A → Type 0
Variant t = NoText (Text t)
