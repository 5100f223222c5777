-- The texts of a literal have its shape, and as many `/`.
use Rattle.std.proofs.Common.{if◌then◌else◌, ◌+◌, ◌==◌, ◌∙◌, ◌∷◌, ◌≡◌, Bool, List, ℕ, [], ap, false, refl}
use Rattle.std.proofs.Common.{subst, sym, true}
use Rattle.wax_query.specs.Components.{slash, slashes}
use Rattle.wax_token.specs.Meaning.{SameFold, SameText}
use Rattle.wax_components.specs.inner.Shapes.{ended, joined_shape, shape}
use Rattle.wax_components.proofs.Basics.{is_slash}
use Rattle.wax_token.proofs.Slash.{alone_slash, slash_alone}

same_slash : (c d : ℕ) → (c ≡ 47 → d ≡ 47) → (d ≡ 47 → c ≡ 47) → (c == 47) ≡ (d == 47)
same_slash c d to from = elim (c == 47) as (λ b. (c == 47) ≡ b → b ≡ (d == 47)) [
  | true ↦ λ e. sym (ap (λ z. z == 47) (to (is_slash c e)))
  | false ↦ λ e. elim (d == 47) as (λ b. (d == 47) ≡ b → false ≡ b) [
    | true ↦ λ g. sym e ∙ ap (λ z. z == 47) (from (is_slash d g))
    | false ↦ λ g. refl
  ] refl
] refl

alike : (insensitive : Bool) (c d : ℕ) (t s : List ℕ) → SameText insensitive (c ∷ t) (d ∷ s)
    → (d == 47) ≡ (c == 47)
alike false c d t s h = ap (λ z. z == 47) (sym h.0)
alike true c d t s h = same_slash d c (λ e. slash_alone c (subst (λ z. SameFold c z) e h.0))
    (λ e. alone_slash d (subst (λ z. SameFold z d) e h.0))

onward : (insensitive : Bool) (c d : ℕ) (t s : List ℕ) → SameText insensitive (c ∷ t) (d ∷ s)
    → SameText insensitive t s
onward false c d t s h = h.1
onward true c d t s h = h.1

pub same_text : (insensitive : Bool) (t s : List ℕ) → SameText insensitive t s
    → (shape s ≡ shape t) × (slashes s ≡ slashes t)
same_text b [] [] h = (refl, refl)
same_text b [] (d ∷ s) h = absurd h
same_text b (c ∷ t) [] h = absurd h
same_text b (c ∷ []) (d ∷ []) h = let e : (d == 47) ≡ (c == 47) = alike b c d [] [] h in
    (ap (λ z. ended z z) e, ap (λ z. (if z then 1 else 0) + 0) e)
same_text b (c ∷ []) (d ∷ e ∷ s) h = longer b (onward b c d [] (e ∷ s) h)
  where
    longer : (b : Bool) {C : Type 0} → SameText b [] (e ∷ s) → C
    longer b k = absurd k
same_text b (c ∷ e ∷ t) (d ∷ []) h = shorter b (onward b c d (e ∷ t) [] h)
  where
    shorter : (b : Bool) {C : Type 0} → SameText b (e ∷ t) [] → C
    shorter b k = absurd k
same_text b (c ∷ e ∷ t) (d ∷ f ∷ s) h =
    let g : (d == 47) ≡ (c == 47) = alike b c d (e ∷ t) (f ∷ s) h in
    let r : (shape (f ∷ s) ≡ shape (e ∷ t)) × (slashes (f ∷ s) ≡ slashes (e ∷ t)) =
    same_text b (e ∷ t) (f ∷ s) (onward b c d (e ∷ t) (f ∷ s) h) in (
      ap (λ z. joined_shape (ended z z) (shape (f ∷ s))) g
          ∙ ap (λ z. joined_shape (ended (c == 47) (c == 47)) z) r.0,
      ap (λ z. (if z then 1 else 0) + slashes (f ∷ s)) g ∙ ap (λ z. slash c + z) r.1,
    )

pub itself : (insensitive : Bool) (t : List ℕ) → SameText insensitive t t
unfolding SameFold
itself b [] = tt
itself false (c ∷ t) = (refl, itself false t)
itself true (c ∷ t) = (refl, itself true t)
