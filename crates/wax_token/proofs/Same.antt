-- Trees and leaves are the same where their parts are.
use Rattle.std.proofs.Common.{◌≡◌, ◌↔◌, ◌∷◌, ◌∙◌, Bool, IsTrue, List, [], ap, chars, encode_utf8_all, nat_eq}
use Rattle.std.proofs.{Common.{refl, sym, ℕ}, lemmas.Str.encodes-chars}
use Rattle.std.specs.{Cmp.Lexicographic.{bytes_decides, pointwise}, Str.IsUtf8}
use Rattle.wax_token.specs.Syntax.{Leaf, Tree, Trees, alternation, class, concatenation, leaf, literal, none}
use Rattle.wax_token.specs.{Syntax.{one, repetition, separator, tree, zero_or_more}, Words.{listed, trees}}

listed_trees : {A : Type 0} (ts : List (Tree A)) → listed (trees ts) ≡ ts
listed_trees [] = refl
listed_trees (t ∷ ts) = ap (λ us. t ∷ us) (listed_trees ts)

same_rows : {A : Type 0} (ts us : List (Tree A)) → trees ts ≡ trees us → ts ≡ us
same_rows ts us e = sym (listed_trees ts) ∙ ap listed e ∙ listed_trees us

row_of : {A : Type 0} → Tree A → Trees A
row_of (leaf a l) = none
row_of (alternation a ts) = ts
row_of (concatenation a ts) = ts
row_of (repetition a t low high) = none

module _ {A : Type 0} (r : Bool) (x : A) (ts us : List (Tree A)) (same : IsTrue r ↔ (ts ≡ us)) where
  pub alternation_same : (t u : Tree A) → t ≡ alternation x (trees ts)
      → u ≡ alternation x (trees us) → IsTrue r ↔ (t ≡ u)
  unfolding row_of
  alternation_same t u is its = (
    λ h. is ∙ ap (λ vs. alternation x (trees vs)) (same.0 h) ∙ sym its,
    λ e. same.1 (same_rows ts us (ap row_of (sym is ∙ e ∙ its))),
  )

  pub concatenation_same : (t u : Tree A) → t ≡ concatenation x (trees ts)
      → u ≡ concatenation x (trees us) → IsTrue r ↔ (t ≡ u)
  unfolding row_of
  concatenation_same t u is its = (
    λ h. is ∙ ap (λ vs. concatenation x (trees vs)) (same.0 h) ∙ sym its,
    λ e. same.1 (same_rows ts us (ap row_of (sym is ∙ e ∙ its))),
  )

text_of : Leaf → List ℕ
text_of (literal i t) = t
text_of (class n xs) = []
text_of separator = []
text_of one = []
text_of (zero_or_more e) = []
text_of (tree b) = []

pub literal_same : (r : Bool) (k l : Leaf) (i j : Bool) (s t : List ℕ) → k ≡ literal i (chars s)
    → l ≡ literal j (chars t) →
    i ≡ j → IsUtf8 s → IsUtf8 t → r ≡ pointwise nat_eq s t → IsTrue r ↔ (k ≡ l)
unfolding text_of
literal_same r k l i j s t is its flag u v told = (
  λ h. is ∙ ap (λ f. literal f (chars s)) flag
      ∙ ap (λ z. literal j (chars z)) ((bytes_decides s t).0 (sym told ∙ h)) ∙ sym its,
  λ e. (let same : chars s ≡ chars t = ap text_of (sym is ∙ e ∙ its) in
      told ∙ (bytes_decides s t).1 (sym (encodes-chars s u) ∙ ap encode_utf8_all same ∙ encodes-chars t v)),
)
