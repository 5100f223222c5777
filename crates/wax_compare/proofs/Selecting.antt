-- Texts that programs select, and that are wanted so.
use Rattle.std.proofs.Common.{◌↔◌, ◌++◌, ◌∷◌, [], ℕ, List, inl, inr}
use Rattle.wax_compare.specs.{Comparison.AsWanted, Limit.EndsSearch, Selected.{HasOddLast, IsSelected}}
use Rattle.wax_compare.specs.declared.wanted.Criterion.{Criterion}
use Rattle.wax_compare.specs.declared.wanted.Criterion.TheVariants.{Accepted, OddLast}
use Rattle.wax_compare.specs.declared.wanted.Wanted.{Wanted}
use Rattle.wax_compare.specs.declared.wanted.Wanted.TheVariants.{Both, FirstOnly, OneOnly}
use Rattle.wax_program.specs.Machine.{mark}

pub turned : {P Q : Type 0} → P ↔ Q → Q ↔ P
turned f = (f.1, f.0)

pub along : {P Q R : Type 0} → P ↔ Q → Q ↔ R → P ↔ R
along f g = ((λ p. g.0 (f.0 p)), (λ r. f.1 (g.1 r)))

-- ---- numbers

odd_along : (Q R : ℕ → Type 0) → ((k : ℕ) → Q k ↔ R k) → HasOddLast Q → HasOddLast R
odd_along Q R f h = record {
  last = h.last;
  holds = (f h.last).0 h.holds;
  greatest = λ k r. h.greatest k ((f k).1 r);
  odd = h.odd;
}

pub odd_as : (Q R : ℕ → Type 0) → ((k : ℕ) → Q k ↔ R k) → HasOddLast Q ↔ HasOddLast R
odd_as Q R f = (odd_along Q R f, odd_along R Q (λ k. turned (f k)))

-- ---- texts that are selected

pub selected_as : (criterion : Criterion) (P Q : List ℕ → Type 0) → ((s : List ℕ) → P s ↔ Q s)
    → (s : List ℕ) → IsSelected criterion P s ↔ IsSelected criterion Q s
selected_as Accepted P Q f s = f s
selected_as OddLast P Q f s =
    odd_as (λ k. P (s ++ mark k ∷ [])) (λ k. Q (s ++ mark k ∷ [])) (λ k. f (s ++ mark k ∷ []))

-- past a character
pub selected_past : (criterion : Criterion) (P Q : List ℕ → Type 0) (c : ℕ)
    → ((s : List ℕ) → P (c ∷ s) ↔ Q s)
    → (s : List ℕ) → IsSelected criterion P (c ∷ s) ↔ IsSelected criterion Q s
selected_past Accepted P Q c f s = f s
selected_past OddLast P Q c f s =
    odd_as (λ k. P (c ∷ (s ++ mark k ∷ []))) (λ k. Q (s ++ mark k ∷ [])) (λ k. f (s ++ mark k ∷ []))

-- past a character with which no text is accepted
pub none_selected_past : (criterion : Criterion) (P : List ℕ → Type 0) (c : ℕ)
    → ((s : List ℕ) → P (c ∷ s) → ⊥) → (s : List ℕ) → IsSelected criterion P (c ∷ s) → ⊥
none_selected_past Accepted P c none s h = none s h
none_selected_past OddLast P c none s h = none (s ++ mark h.last ∷ []) h.holds

-- ---- texts that are wanted

pub wanted_along : (wanted : Wanted) (P R Q S : Type 0) → P ↔ R → Q ↔ S → AsWanted wanted P Q
    → AsWanted wanted R S
wanted_along Both P R Q S f g h = (f.0 h.0, g.0 h.1)
wanted_along FirstOnly P R Q S f g h = (f.0 h.0, (λ s. h.1 (g.1 s)))
wanted_along OneOnly P R Q S f g (inl h) = inl (f.0 h.0, (λ s. h.1 (g.1 s)))
wanted_along OneOnly P R Q S f g (inr h) = inr ((λ r. h.0 (f.1 r)), g.0 h.1)

pub wanted_as : (wanted : Wanted) (P R Q S : Type 0) → P ↔ R → Q ↔ S
    → AsWanted wanted P Q ↔ AsWanted wanted R S
wanted_as wanted P R Q S f g =
    (wanted_along wanted P R Q S f g, wanted_along wanted R P S Q (turned f) (turned g))

-- ---- where a search ends

pub ends_along : (wanted : Wanted) (P Q R S : Type 0) → (P → R) → (Q → S) → EndsSearch wanted P Q
    → EndsSearch wanted R S
ends_along Both P Q R S f g (inl p) = inl (f p)
ends_along Both P Q R S f g (inr q) = inr (g q)
ends_along FirstOnly P Q R S f g p = f p
ends_along OneOnly P Q R S f g h = absurd h

-- where a search ends no text is wanted, if each of both facts excludes that the program selects one
pub never_wanted : (wanted : Wanted) (P Q R S : Type 0) → (P → R → ⊥) → (Q → S → ⊥) → EndsSearch wanted P Q
    → AsWanted wanted R S → ⊥
never_wanted Both P Q R S f g (inl p) h = f p h.0
never_wanted Both P Q R S f g (inr q) h = g q h.1
never_wanted FirstOnly P Q R S f g p h = f p h.0
never_wanted OneOnly P Q R S f g never h = absurd never
