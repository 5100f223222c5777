-- What a literal and a tree wildcard match.
use Rattle.std.proofs.Common.{◌≡◌, ◌↔◌, ◌⊎◌, ℕ, Bool, true, false, List, [], ◌∷◌, ◌++◌, Option, None, Some}
use Rattle.std.proofs.Common.{IfSome, Bor, IsTrue, IsUtf8, ◌==◌, ◌<◌, ◌≤◌, length, get_or, drop, chars}
use Rattle.std.proofs.Common.{encode_utf8_all, refl, sym, ◌∙◌, ap, subst, inl, inr, append-nil, eqb-true}
use Rattle.std.proofs.{Common.{true≢false, arith}, lemmas.Str.chars-append, Math.Seq.drop-append_seam}
use Rattle.wax_prefilter.specs.Within.{IsInFolder}
use Rattle.wax_prefilter.proofs.{Holding.{chars_slash, slash_text}, MeantEdges.{bytes_begin, same_text}}
use Rattle.wax_query.specs.Components.{BeginsWithSlash}
use Rattle.wax_token.specs.{Kinds.{literal_of, is_tree_wildcard}, Meaning.{MeansEach, SameText}, Reads.Span}
use Rattle.wax_token.specs.Syntax.{literal, class, separator, one, zero_or_more, tree, Tree, leaf}
use Rattle.wax_token.specs.Syntax.{alternation, concatenation, repetition, none, more}

some_pair : (p q : Bool × List ℕ) → Some p ≡ Some q → p ≡ q
some_pair p q e = cc

literal_is : (t : Tree Span) (folder : List ℕ) → literal_of t ≡ Some (false, folder)
    → (a : Span) × (t ≡ leaf a (literal false folder))
literal_is (leaf a (literal b l)) folder e = (a, same b l e)
  where
    same : (b : Bool) (l : List ℕ) → literal_of (leaf a (literal b l)) ≡ Some (false, folder)
        → leaf a (literal b l) ≡ leaf a (literal false folder)
    same b l e = ap (λ p. leaf a (literal p.0 p.1)) (some_pair (b, l) (false, folder) e)
literal_is (leaf a (class b xs)) folder e = cc
literal_is (leaf a separator) folder e = cc
literal_is (leaf a one) folder e = cc
literal_is (leaf a (zero_or_more z)) folder e = cc
literal_is (leaf a (tree r)) folder e = cc
literal_is (alternation a ts) folder e = cc
literal_is (concatenation a ts) folder e = cc
literal_is (repetition a t low high) folder e = cc

tree_is : (u : Tree Span) → is_tree_wildcard u ≡ true → (a : Span) × (r : Bool) × (u ≡ leaf a (tree r))
tree_is (leaf a (tree r)) e = (a, r, refl)
tree_is (leaf a (literal b l)) e = cc
tree_is (leaf a (class b xs)) e = cc
tree_is (leaf a separator) e = cc
tree_is (leaf a one) e = cc
tree_is (leaf a (zero_or_more z)) e = cc
tree_is (alternation a ts) e = cc
tree_is (concatenation a ts) e = cc
tree_is (repetition a t low high) e = cc

same_self : (t : List ℕ) → SameText false t t
same_self [] = tt
same_self (c ∷ t) = (refl, same_self t)

both_mean : (a b : Span) (r : Bool) (folder text : List ℕ)
    → MeansEach (more (leaf a (literal false folder)) (more (leaf b (tree r)) none)) false false text
    ↔ IsInFolder folder text
both_mean a b r folder text = (
  λ (x, y, e, h, k). (y, e ∙ ap (λ z. z ++ y) (same_text folder x h), k),
  λ (rest, e, k). (folder, rest, e, same_self folder, k),
)

pub means_within : (t u : Tree Span) (folder : List ℕ) → literal_of t ≡ Some (false, folder)
    → is_tree_wildcard u ≡ true → (text : List ℕ)
    → MeansEach (more t (more u none)) false false text ↔ IsInFolder folder text
means_within t u folder e f text =
    let (a, is_literal) = literal_is t folder e in
    let (b, r, is_tree) = tree_is u f in
    subst (λ v. MeansEach (more v (more u none)) false false text ↔ IsInFolder folder text) (sym is_literal)
    (subst (λ v. MeansEach (more (leaf a (literal false folder)) (more v none)) false false text
    ↔ IsInFolder folder text) (sym is_tree)
    (both_mean a b r folder text))

-- ---- the same of bytes

pub within_whole : (text folder rest : List ℕ) → IsUtf8 folder → text ≡ folder ++ rest → rest ≡ []
    → IsInFolder (chars folder) (chars text)
within_whole text folder rest utf8 e empty = (
  [],
  ap chars (e ∙ ap (λ z. folder ++ z) empty ∙ append-nil folder) ∙ sym (append-nil (chars folder)),
  inl refl,
)

pub within_below : (text folder rest below : List ℕ) → IsUtf8 folder → text ≡ folder ++ rest
    → rest ≡ 47 ∷ below → IsInFolder (chars folder) (chars text)
within_below text folder rest below utf8 e slash = (
  47 ∷ chars below,
  ap chars (e ∙ ap (λ z. folder ++ z) slash) ∙ chars-append folder (47 ∷ below) utf8
      ∙ ap (λ z. chars folder ++ z) (chars-append (47 ∷ []) below slash_text
      ∙ ap (λ z. z ++ chars below) chars_slash),
  inr (chars below, refl),
)

pub bytes_within : (text folder : List ℕ) → IsUtf8 text → IsUtf8 folder
    → IsInFolder (chars folder) (chars text)
    → (rest : List ℕ) × (text ≡ folder ++ rest) × ((rest ≡ []) ⊎ BeginsWithSlash rest)
unfolding lib.Utf8.encode
bytes_within text folder utf8 valid (rest, e, k) = (
  encode_utf8_all rest,
  bytes_begin text folder rest (chars folder) utf8 valid refl e,
  elim k [
    | inl empty ↦ inl (ap encode_utf8_all empty)
    | inr (t, slash) ↦ inr (encode_utf8_all t, ap encode_utf8_all slash)
  ],
)

-- what is left of the text behind the folder
pub rest_within : (text folder rest : List ℕ) → IsUtf8 text → IsUtf8 folder → rest ≡ drop (length folder) text
    → IsInFolder (chars folder) (chars text) → (rest ≡ []) ⊎ BeginsWithSlash rest
rest_within text folder rest utf8 valid is within =
    let (others, e, k) = bytes_within text folder utf8 valid within in
    let same : rest ≡ others = is ∙ ap (drop (length folder)) e ∙ drop-append_seam folder others in
    subst (λ z. (z ≡ []) ⊎ BeginsWithSlash z) (sym same) k

pub empty_rest : (rest : List ℕ) → true ≡ (length rest == 0) → rest ≡ []
empty_rest [] e = refl
empty_rest (c ∷ rest) e = let z : length (c ∷ rest) ≡ 0 = eqb-true (length (c ∷ rest)) 0 (sym e) in
    absurd (omega (arith, z))

pub slash_rest : (rest : List ℕ) → false ≡ (length rest == 0) → IsTrue (get_or rest 0 0 == 47)
    → BeginsWithSlash rest
slash_rest [] e h = absurd (cc)
slash_rest (c ∷ rest) e h = (rest, ap (λ v. v ∷ rest) (eqb-true c 47 h))

pub slash_first : (rest : List ℕ) → false ≡ (length rest == 0) → (rest ≡ []) ⊎ BeginsWithSlash rest
    → IsTrue (get_or rest 0 0 == 47)
slash_first rest e (inl empty) = absurd (true≢false (sym (e ∙ ap (λ z. length z == 0) empty)))
slash_first rest e (inr (t, slash)) = ap (λ z. get_or z 0 0 == 47) slash

pub two_items : {A : Type 0} (xs : List A) (a b : A) → 2 ≤ length xs → length xs < 3 → a ≡ get_or xs 0 a
    → b ≡ get_or xs 1 b → xs ≡ a ∷ b ∷ []
two_items [] a b least most e f = absurd (omega (arith, least))
two_items (x ∷ []) a b least most e f = absurd (omega (arith, least))
two_items (x ∷ y ∷ []) a b least most e f = λ i. sym e i ∷ sym f i ∷ []
two_items (x ∷ y ∷ z ∷ zs) a b least most e f = absurd (omega (arith, most))

pub some_means : (t u : Tree Span) (known : Option (Bor (List ℕ)))
    → IfSome known (λ folder. literal_of t ≡ Some (false, chars folder.now))
    → is_tree_wildcard u ≡ true
    → IfSome known (λ folder. (text : List ℕ) → MeansEach (more t (more u none)) false false text
    ↔ IsInFolder (chars folder.now) text)
some_means t u None h e = h
some_means t u (Some folder) h e = means_within t u (chars folder.now) h e
