-- Texts that end with `/`.
use Rattle.std.proofs.Common.{List, [], ap, append_assoc, inl, inr, sym, ℕ, ◌++◌, ◌∙◌, ◌∷◌, ◌≡◌, ◌≢◌, ◌⊎◌}
use Rattle.wax_query.specs.Components.{EndsWithSlash}
use Rattle.wax_facts.proofs.Lists.{nil_right}

pub nil_ends : EndsWithSlash [] → ⊥
nil_ends h = no h.0 h.1
  where
    no : (t : List ℕ) → [] ≡ t ++ 47 ∷ [] → ⊥
    no [] e = cc
    no (c ∷ t) e = cc

pub one_ends : (c : ℕ) → EndsWithSlash (c ∷ []) → c ≡ 47
one_ends c h = only h.0 h.1
  where
    only : (t : List ℕ) → c ∷ [] ≡ t ++ 47 ∷ [] → c ≡ 47
    only [] e = cc
    only (d ∷ t) e = absurd (let f : [] ≡ t ++ 47 ∷ [] = cc in nil_ends (t, f))

pub ends_back : (x y : List ℕ) → y ≢ [] → EndsWithSlash (x ++ y) → EndsWithSlash y
ends_back [] y some h = h
ends_back (c ∷ x) y some h = back h.0 h.1 (λ k. ends_back x y some k)
  where
    back : (t : List ℕ) → (c ∷ x) ++ y ≡ t ++ 47 ∷ []
        → (EndsWithSlash (x ++ y) → EndsWithSlash y) → EndsWithSlash y
    back [] e onward = absurd (let f : x ++ y ≡ [] = cc in some (nil_right x y f))
    back (d ∷ t) e onward = let f : x ++ y ≡ t ++ 47 ∷ [] = cc in onward (t, f)

pub ends_cons : (x : List ℕ) → EndsWithSlash (47 ∷ x) → (x ≡ []) ⊎ EndsWithSlash x
ends_cons x h = split h.0 h.1
  where
    split : (t : List ℕ) → 47 ∷ x ≡ t ++ 47 ∷ [] → (x ≡ []) ⊎ EndsWithSlash x
    split [] e = inl (let f : x ≡ [] = cc in f)
    split (c ∷ t) e = inr (t, (let f : x ≡ t ++ 47 ∷ [] = cc in f))

pub cons_ends : (x : List ℕ) → (x ≡ []) ⊎ EndsWithSlash x → EndsWithSlash (47 ∷ x)
cons_ends x (inl e) = ([], ap (λ z. 47 ∷ z) e)
cons_ends x (inr h) = (47 ∷ h.0, ap (λ z. 47 ∷ z) h.1)

pub ends_append : (x y : List ℕ) → EndsWithSlash y → EndsWithSlash (x ++ y)
ends_append x y h = (x ++ h.0, ap (λ z. x ++ z) h.1 ∙ sym (append_assoc x h.0 (47 ∷ [])))
