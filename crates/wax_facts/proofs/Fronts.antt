-- Invariant tokens are taken from the front.
use Rattle.std.proofs.Common.{Bool, List, None, Option, Some, [], ap, append-nil, append_assoc, false, inl}
use Rattle.std.proofs.Common.{inr, refl, subst, suc, sym, true, zero, ℕ, ◌++◌, ◌∙◌, ◌≡◌}
use Rattle.wax_token.specs.{Meaning.MeansEach, Syntax.{Trees, more, none}, Kinds.is_separator}
use Rattle.wax_facts.specs.{InvariantText.Text, Orderly.{FullEach, IsSome}, Prefix.{Cut, taken}, Rest.after}
use Rattle.wax_facts.proofs.{Lists.same_back, TextMeant.text_meant, TextSound.text_sound}

abbrev pub FrontText : {A : Type 0} → ℕ → Trees A → List ℕ → Type 0
FrontText zero ts p = p ≡ []
FrontText (suc n) none p = ⊥
FrontText (suc n) (more t ts) p = (x : List ℕ) × (y : List ℕ) × (p ≡ x ++ y) × Text t x × FrontText n ts y

abbrev pub later : Bool → ℕ → Bool
later b zero = b
later b (suc n) = true

pub take_to : {A : Type 0} (n : ℕ) (ts : Trees A) (p : List ℕ) → FrontText n ts p → IsSome (after n ts)
    → (b f : Bool) (y : List ℕ) → MeansEach ts b f (p ++ y) → MeansEach (after n ts) (later b n) f y
take_to zero ts p h some b f y m = subst (λ z. MeansEach ts b f (z ++ y)) h m
take_to (suc n) none p h some b f y m = absurd h
take_to (suc zero) (more t none) p h some b f y m = absurd some
take_to (suc (suc n)) (more t none) p h some b f y m = absurd some
take_to (suc n) (more t (more u us)) p h some b f y m =
    let e : m.0 ≡ h.0 = text_sound t h.0 h.3 b true m.0 m.3 in
    let g : m.1 ≡ h.1 ++ y = same_back h.0 m.1 (h.1 ++ y)
    (ap (λ z. z ++ m.1) (sym e) ∙ sym m.2 ∙ ap (λ z. z ++ y) h.2 ∙ append_assoc h.0 h.1 y) in
    onward n (take_to n (more u us) h.1 h.4 some true f y (subst (MeansEach (more u us) true f) g m.4))
  where
    onward : (n : ℕ) → MeansEach (after n (more u us)) (later true n) f y
        → MeansEach (after n (more u us)) true f y
    onward zero k = k
    onward (suc n) k = k

pub take_from : {A : Type 0} (n : ℕ) (ts : Trees A) (p : List ℕ) → FullEach ts → FrontText n ts p
    → IsSome (after n ts) → (b f : Bool) (y : List ℕ) → MeansEach (after n ts) (later b n) f y
    → MeansEach ts b f (p ++ y)
take_from zero ts p w h some b f y m = subst (λ z. MeansEach ts b f (z ++ y)) (sym h) m
take_from (suc n) none p w h some b f y m = absurd h
take_from (suc zero) (more t none) p w h some b f y m = absurd some
take_from (suc (suc n)) (more t none) p w h some b f y m = absurd some
take_from (suc n) (more t (more u us)) p w h some b f y m = (
  h.0,
  h.1 ++ y,
  ap (λ z. z ++ y) h.2 ∙ append_assoc h.0 h.1 y,
  text_meant t w.0 h.0 h.3 b true,
  take_from n (more u us) h.1 w.1 h.4 some true f y (onward n m),
)
  where
    onward : (n : ℕ) → MeansEach (after n (more u us)) true f y
        → MeansEach (after n (more u us)) (later true n) f y
    onward zero k = k
    onward (suc n) k = k

-- the tokens before the cut
abbrev CutFront : {A : Type 0} → Trees A → Option (ℕ × List ℕ) → Type 0
CutFront ts None = Unit {0}
CutFront ts (Some cut) = FrontText cut.0 ts cut.1

pub cut_text : {A : Type 0} (ts : Trees A) (cut : Option (ℕ × List ℕ)) → Cut ts cut → CutFront ts cut
cut_text none cut c = subst (CutFront none) (sym c) refl
cut_text (more t ts) cut (inl c) = subst (CutFront (more t ts)) (sym c.1) refl
cut_text (more t ts) cut (inr (inl c)) = subst (CutFront (more t ts)) (sym c.2) tt
cut_text (more t ts) cut (inr (inr c)) =
    subst (CutFront (more t ts)) (sym c.4) (both (is_separator t) c.0 c.1 c.2 (cut_text ts c.1 c.3))
  where
    both : (b : Bool) (x : List ℕ) (later : Option (ℕ × List ℕ)) → Text t x → CutFront ts later
        → CutFront (more t ts) (taken b x later)
    both b x (Some cut) h k = (x, cut.1, refl, h, k)
    both true x None h k = (x, [], sym (append-nil x), h, refl)
    both false x None h k = tt
