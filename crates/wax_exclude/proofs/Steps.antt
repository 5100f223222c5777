-- Steps of loops over tokens and components.
use Rattle.std.proofs.Common.{◌≡◌, ◌≢◌, ◌∙◌, ◌+◌, ◌-◌, ◌<◌, ℕ, suc, Bool, true, false, List, [], ◌∷◌, ◌++◌}
use Rattle.std.proofs.Common.{Some, length, take, drop, get_or, slice_get, refl, sym, ap, arith, append_assoc}
use Rattle.std.proofs.lemmas.List.{drop_more}
use Rattle.std.specs.List.{before_first, position_or_len}
use Rattle.wax_token.specs.{Kinds.is_tree_wildcard, Syntax.Tree, Words.trees}
use Rattle.wax_exclude.specs.Covers.{ends_wild, is_everything}

-- ---- up to the first

one_more : {X : Type 0} (n : ℕ) (x : X) (xs : List X) → take (1 + n) (x ∷ xs) ≡ x ∷ take n xs
one_more n x xs = let e : 1 + n ≡ suc n = omega arith in ap (λ k. take k (x ∷ xs)) e

first_kept : {X : Type 0} (p : X → Bool) (x : X) (xs : List X) → p x ≡ false
    → before_first p (x ∷ xs) ≡ x ∷ before_first p xs
first_kept p x xs e = rw e (one_more (position_or_len p xs) x xs)

first_cut : {X : Type 0} (p : X → Bool) (x : X) (xs : List X) → p x ≡ true → before_first p (x ∷ xs) ≡ []
first_cut p x xs e = rw e refl

module _ {X : Type 0} (p : X → Bool) (found xs all : List X) (i : ℕ) (x : X) (in' : i < length xs)
    (here : x ≡ get_or xs i x) where
  split : drop i xs ≡ x ∷ drop (i + 1) xs
  split = drop_more xs i x in' ∙ ap (λ z. z ∷ drop (i + 1) xs) (sym here)

  pub kept_next : p x ≡ false → found ++ before_first p (drop i xs) ≡ all
      → (found ++ x ∷ []) ++ before_first p (drop (i + 1) xs) ≡ all
  kept_next e h = append_assoc found (x ∷ []) (before_first p (drop (i + 1) xs))
      ∙ ap (λ z. found ++ z) (sym (ap (before_first p) split ∙ first_kept p x (drop (i + 1) xs) e)) ∙ h

  pub cut_here : p x ≡ true → found ++ before_first p (drop i xs) ≡ all → found ++ [] ≡ all
  cut_here e h =
      ap (λ z. found ++ z) (sym (ap (before_first p) split ∙ first_cut p x (drop (i + 1) xs) e)) ∙ h

-- ---- the last token, and the only one

pub wild_last : {A : Type 0} (ts : List (Tree A)) (x : Tree A) → slice_get ts (length ts - 1) ≡ Some x
    → ends_wild (trees ts) ≡ is_tree_wildcard x
wild_last [] x e = cc
wild_last (t ∷ []) x e = let f : t ≡ x = cc in ap is_tree_wildcard f
wild_last (t ∷ u ∷ ts) x e =
    let n : length (t ∷ u ∷ ts) - 1 ≡ suc (length (u ∷ ts) - 1) = omega arith in
    wild_last (u ∷ ts) x (sym (ap (slice_get (t ∷ u ∷ ts)) n) ∙ e)

pub not_alone : {A : Type 0} (ts : List (Tree A)) → length ts ≢ 1 → is_everything (trees ts) ≡ false
not_alone [] n = refl
not_alone (t ∷ []) n = absurd (n refl)
not_alone (t ∷ u ∷ ts) n = refl
