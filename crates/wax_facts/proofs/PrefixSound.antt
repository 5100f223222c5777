-- Each text that is meant begins with the prefix.
use Rattle.std.proofs.Common.{Bool, List, None, Option, Some, [], ap, append-nil, append_assoc, false, inl}
use Rattle.std.proofs.Common.{inr, refl, subst, suc, sym, true, zero, ℕ, ◌++◌, ◌∙◌, ◌∷◌, ◌≡◌}
use Rattle.wax_query.specs.Components.{BeginsWithSlash}
use Rattle.wax_token.specs.Meaning.{Means, MeansEach}
use Rattle.wax_token.specs.Syntax.{Tree, Trees, alternation, concatenation, leaf, more, none, repetition}
use Rattle.wax_token.specs.Kinds.{is_separator}
use Rattle.wax_facts.specs.Prefix.{Cut, IsRooted, Prefix, opened, opened_last, or_nothing, taken}
use Rattle.wax_facts.specs.Joined.{Front}
use Rattle.wax_facts.proofs.{OneCopy.one_copy, Roots.root_sound, TextSound.text_sound}

-- one piece for each token, matched with or without something after it
abbrev pub Loosely : {A : Type 0} → Trees A → Bool → List ℕ → Type 0
Loosely none before s = s ≡ []
Loosely (more t ts) before s = (x : List ℕ) × (y : List ℕ) × (s ≡ x ++ y)
    × ((after : Bool) × Means t before after x) × Loosely ts true y

alone : {A : Type 0} (t : Tree A) (before after : Bool) (s : List ℕ) → Means t before after s
    → Loosely (more t none) before s
alone t before after s h = (s, [], sym (append-nil s), (after, h), refl)

mutual
  pub opened_loosely : {A : Type 0} (t : Tree A) (before after : Bool) (s : List ℕ) → Means t before after s
      → Loosely (opened t) before s
  opened_loosely (leaf a l) before after s h = alone (leaf a l) before after s h
  opened_loosely (alternation a none) before after s h = absurd h
  opened_loosely (alternation a (more t none)) before after s h =
      elim h [ inl m ↦ opened_loosely t before after s m | inr m ↦ absurd m ]
  opened_loosely (alternation a (more t (more u us))) before after s h =
      alone (alternation a (more t (more u us))) before after s h
  opened_loosely (concatenation a ts) before after s h = last_loosely ts before after s h
  opened_loosely (repetition a t zero high) before after s h =
      alone (repetition a t zero high) before after s h
  opened_loosely (repetition a t (suc zero) None) before after s h =
      alone (repetition a t 1 None) before after s h
  opened_loosely (repetition a t (suc zero) (Some zero)) before after s h =
      alone (repetition a t 1 (Some 0)) before after s h
  opened_loosely (repetition a t (suc zero) (Some (suc zero))) before after s h =
      opened_loosely t before after s (one_copy (Means t) h.0 before after s h.1 h.2 h.3)
  opened_loosely (repetition a t (suc zero) (Some (suc (suc n)))) before after s h =
      alone (repetition a t 1 (Some (suc (suc n)))) before after s h
  opened_loosely (repetition a t (suc (suc low)) high) before after s h =
      alone (repetition a t (suc (suc low)) high) before after s h

  last_loosely : {A : Type 0} (ts : Trees A) (before after : Bool) (s : List ℕ) → MeansEach ts before after s
      → Loosely (opened_last ts) before s
  last_loosely none before after s h = h
  last_loosely (more t none) before after s h = opened_loosely t before after s h
  last_loosely (more t (more u us)) before after s h =
      (h.0, h.1, h.2, (true, h.3), last_loosely (more u us) true after h.1 h.4)

abbrev FrontOf : Option (ℕ × List ℕ) → List ℕ → Type 0
FrontOf cut s = Front (or_nothing cut).1 s

cut_front : {A : Type 0} (ts : Trees A) (cut : Option (ℕ × List ℕ)) → Cut ts cut
    → (before : Bool) (s : List ℕ) → Loosely ts before s → FrontOf cut s
cut_front none cut c before s h = subst (λ z. FrontOf z s) (sym c) (s, refl)
cut_front (more t ts) cut (inl c) before s h = subst (λ z. FrontOf z s) (sym c.1) (s, refl)
cut_front (more t ts) cut (inr (inl c)) before s h = subst (λ z. FrontOf z s) (sym c.2) (s, refl)
cut_front (more t ts) cut (inr (inr c)) before s h =
    let e : h.0 ≡ c.0 = text_sound t c.0 c.2 before h.3.0 h.0 h.3.1 in
    subst (λ z. FrontOf z s) (sym c.4) (subst (FrontOf (taken (is_separator t) c.0 c.1)) (sym
    (h.2 ∙ ap (λ z. z ++ h.1) e)) (both (is_separator t) c.0 c.1 h.1 (cut_front ts c.1 c.3 true h.1 h.4)))
  where
    both : (b : Bool) (x : List ℕ) (later : Option (ℕ × List ℕ)) (y : List ℕ) → FrontOf later y
        → FrontOf (taken b x later) (x ++ y)
    both b x (Some cut) y f = (f.0, ap (λ z. x ++ z) f.1 ∙ sym (append_assoc x cut.1 f.0))
    both true x None y f = (y, refl)
    both false x None y f = (x ++ y, refl)

rooted_front : {A : Type 0} (ts : Trees A) (s : List ℕ) → IsRooted ts → Loosely ts false s → Front (47 ∷ []) s
rooted_front none s r h = absurd r
rooted_front (more t ts) s r h =
    let b : BeginsWithSlash h.0 = root_sound t r.0 h.3.0 h.0 h.3.1 in
    (b.0 ++ h.1, h.2 ∙ ap (λ z. z ++ h.1) b.1)

pub prefix_sound : {A : Type 0} (t : Tree A) (n : ℕ) (p s : List ℕ) → Prefix t n p
    → Means t false false s → Front p s
prefix_sound t n p s (inl r) h =
    subst (λ z. Front z s) (sym r.2) (rooted_front (opened t) s r.0 (opened_loosely t false false s h))
prefix_sound t n p s (inr r) h = subst (λ z. Front z s) (sym r.1.3)
    (cut_front (opened t) r.1.0 r.1.1 false s (opened_loosely t false false s h))
