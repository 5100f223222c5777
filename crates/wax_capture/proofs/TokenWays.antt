-- The forms of the ways of one token.
use Rattle.std.proofs.Common.{◌≡◌, ℕ, zero, suc, ◌<◌, ◌↔◌, Bool, true, false, List, [], ◌∷◌, map, Err, refl}
use Rattle.std.proofs.{Common.{sym, subst, arith, true≢false}, lemmas.Option.slice_get_within}
use Rattle.unicode.specs.CaseFolding.{simple_fold}
use Rattle.wax_query.specs.{Outcome.MatchBuild, declared.diagnostics.Refusal.Refusal}
use Rattle.wax_query.specs.declared.diagnostics.Refusal.TheVariants.{Refused, Memory}
use Rattle.wax_token.specs.Meaning.{Means, SameFold, SameText, TreeMeans}
use Rattle.wax_token.specs.Syntax.{literal, class, separator, one, zero_or_more, tree, Tree, leaf}
use Rattle.wax_token.specs.Syntax.{alternation, concatenation, repetition}
use Rattle.wax_capture.specs.{Captures.{First, LeafWay, MeansByWay, tree_capture}, inner.Ways.is_single}
use Rattle.wax_capture.specs.Pieces.{WayIn}
use Rattle.wax_lengths.specs.{Forms.{SpelledBy, TakenBy}, declared.form.Form.Form}
use Rattle.wax_lengths.proofs.Lists.{some_same}

pub refused_more : {T U E : Type 0} (e : Refusal E) (P : T → Type 0) (Q : U → Type 0) (M N : Type 0) → (M → N)
    → MatchBuild {T = T} (Err e) P (λ _. M) → MatchBuild {T = U} (Err e) Q (λ _. N)
refused_more (Refused e) P Q M N f h = f h
refused_more Memory P Q M N f h = tt

-- ---- letters
pub spelled_plain : (t x : List ℕ) → SpelledBy false t x ↔ SameText false t x
spelled_plain [] [] = ((λ h. tt), (λ h. tt))
spelled_plain [] (d ∷ x) = ((λ h. h), (λ h. h))
spelled_plain (c ∷ t) [] = ((λ h. h), (λ h. h))
spelled_plain (c ∷ t) (d ∷ x) =
    let r : SpelledBy false t x ↔ SameText false t x = spelled_plain t x in
    ((λ h. (sym h.0, r.0 h.1)), (λ h. (sym h.0, r.1 h.1)))

pub spelled_folded : (t x : List ℕ) → SpelledBy true (map simple_fold t) x ↔ SameText true t x
unfolding SameFold
spelled_folded [] [] = ((λ h. tt), (λ h. tt))
spelled_folded [] (d ∷ x) = ((λ h. h), (λ h. h))
spelled_folded (c ∷ t) [] = ((λ h. h), (λ h. h))
spelled_folded (c ∷ t) (d ∷ x) =
    let r : SpelledBy true (map simple_fold t) x ↔ SameText true t x = spelled_folded t x in
    ((λ h. (h.0, r.0 h.1)), (λ h. (h.0, r.1 h.1)))

-- ---- ways
pub first_way : (form : Form) (M : List ℕ → Type 0) → ((x : List ℕ) → TakenBy form x ↔ M x)
    → (k : ℕ) (x : List ℕ) → First (M x) k ↔ WayIn (form ∷ []) k x
first_way form M h zero x = (
  (λ m. (form, refl, (h x).1 m)),
  (λ w. (h x).0 (subst (λ f. TakenBy f x) (some_same (sym w.1)) w.2)),
)
first_way form M h (suc k) x = (
  (λ m. absurd m),
  (λ w. absurd (past (slice_get_within (form ∷ []) (suc k) w.0 w.1))),
)
  where
    past : suc k < 1 → ⊥
    past lt = omega (arith, lt)

pub tree_two_ways : (rooted before after : Bool) (p q : Form)
    → ((x : List ℕ) → TakenBy p x ↔ (TreeMeans before after rooted x × (tree_capture before rooted x ≡ []))) →
    ((x : List ℕ) → TakenBy q x ↔ TreeMeans before after rooted x) → (k : ℕ) (x : List ℕ)
    → LeafWay (tree rooted) k before after x ↔ WayIn (p ∷ q ∷ []) k x
tree_two_ways rooted before after p q f g zero x = (
  (λ m. (p, refl, (f x).1 m)),
  (λ w. (f x).0 (subst (λ z. TakenBy z x) (some_same (sym w.1)) w.2)),
)
tree_two_ways rooted before after p q f g (suc k) x = first_way q (TreeMeans before after rooted) g k x

same_first : (M : Type 0) (k : ℕ) → First M k ↔ First M k
same_first M k = ((λ h. h), (λ h. h))

-- a token of one way
pub single_way : {A : Type 0} (t : Tree A) → is_single t ≡ true → (k : ℕ) (before after : Bool) (x : List ℕ)
    → MeansByWay t k before after x ↔ First (Means t before after x) k
single_way (leaf a (tree r)) e k before after x = absurd (true≢false (sym e))
single_way (leaf a (literal i t)) e k before after x = same_first _ k
single_way (leaf a (class n xs)) e k before after x = same_first _ k
single_way (leaf a separator) e k before after x = same_first _ k
single_way (leaf a one) e k before after x = same_first _ k
single_way (leaf a (zero_or_more ev)) e k before after x = same_first _ k
single_way (alternation a ts) e k before after x = absurd (true≢false (sym e))
single_way (concatenation a ts) e k before after x = same_first _ k
single_way (repetition a t low high) e k before after x = same_first _ k

pub both_ways : {P Q R : Type 0} → (P ↔ Q) → (Q ↔ R) → P ↔ R
both_ways f g = ((λ h. g.0 (f.0 h)), (λ h. f.1 (g.1 h)))
