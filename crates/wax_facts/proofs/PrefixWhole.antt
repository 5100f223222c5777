-- Where no token is left, the glob means the prefix alone.
use Rattle.std.proofs.Common.{List, None, Option, Some, false, inl, inr, subst, suc, sym, zero, ℕ, ◌↔◌, ◌≡◌}
use Rattle.wax_token.specs.{Meaning.{Means, MeansEach}, Syntax.{Tree, Trees, more, none}}
use Rattle.wax_facts.specs.{InvariantText.TextOfEach, Orderly.{Full, FullEach, IsSome}}
use Rattle.wax_facts.specs.{Prefix.{Cut, Prefix, PrefixOf, opened, or_nothing}, Rest.after}
use Rattle.wax_facts.proofs.Fronts.{FrontText, cut_text}
use Rattle.wax_facts.proofs.{OpenedMeans.{opened_from, opened_full, opened_some, opened_to}, Seams.front_all}
use Rattle.wax_facts.proofs.TextMeant.{each_meant}

front_each : {A : Type 0} (n : ℕ) (ts : Trees A) (p : List ℕ) → FrontText n ts p
    → (IsSome (after n ts) → ⊥) → TextOfEach ts p
front_each zero none p h past = h
front_each zero (more t ts) p h past = absurd (past tt)
front_each (suc n) none p h past = absurd h
front_each (suc n) (more t ts) p h past = (h.0, h.1, h.2, h.3, front_each n ts h.1 h.4 past)

module _ {A : Type 0} (ts : Trees A) (some : IsSome ts) (full : FullEach ts) (s : List ℕ) where
  taken_whole : (n : ℕ) (p : List ℕ) → FrontText n ts p → (IsSome (after n ts) → ⊥)
      → MeansEach ts false false s ↔ (s ≡ p)
  taken_whole n p h past = (
    (λ m. front_all n ts p h past false false s m),
    λ e. subst (MeansEach ts false false) (sym e)
        (each_meant ts some full p (front_each n ts p h past) false false),
  )

  cut_whole : (cut : Option (ℕ × List ℕ)) (n : ℕ) (p : List ℕ) → Cut ts cut → n ≡ (or_nothing cut).0
      → p ≡ (or_nothing cut).1 → (IsSome (after n ts) → ⊥) → MeansEach ts false false s ↔ (s ≡ p)
  cut_whole None n p c e d past = absurd (past (subst (λ k. IsSome (after k ts)) (sym e) some))
  cut_whole (Some cut) n p c e d past = taken_whole n p (subst (λ z. FrontText z ts p) (sym e)
      (subst (FrontText cut.0 ts) (sym d) (cut_text ts (Some cut) c))) past

  list_whole : (n : ℕ) (p : List ℕ) → PrefixOf ts n p → (IsSome (after n ts) → ⊥)
      → MeansEach ts false false s ↔ (s ≡ p)
  list_whole n p (inl h) past = absurd (past (subst (λ k. IsSome (after k ts)) (sym h.1) some))
  list_whole n p (inr h) past = cut_whole h.1.0 n p h.1.1 h.1.2 h.1.3 past

pub prefix_whole : {A : Type 0} (t : Tree A) (n : ℕ) (p s : List ℕ) → Full t → Prefix t n p
    → (IsSome (after n (opened t)) → ⊥) → Means t false false s ↔ (s ≡ p)
prefix_whole t n p s full h past =
    let k : MeansEach (opened t) false false s ↔ (s ≡ p) =
    list_whole (opened t) (opened_some t full) (opened_full t full) s n p h past in
    ((λ m. k.0 (opened_to t full false false s m)), λ e. opened_from t full false false s (k.1 e))
