-- Plain paths, read character by character.
use Rattle.std.proofs.Common.{◌≡◌, ◌≢◌, ◌==◌, ℕ, Bool, true, false, not, List, [], ◌∷◌, ◌++◌, refl, sym, ◌∙◌}
use Rattle.std.proofs.{Common.{ap, subst, inl, inr}, lemmas.Bool.{cases_eq, eq-eqb, eqb-true}}
use Rattle.wax_query.specs.Below.{AreNames, IsPlainPath, slashed}
use Rattle.wax_query.specs.Components.{Bare, BeginsWithSlash, EndsWithSlash, HasNoSlash}
use Rattle.wax_compare.specs.{Texts.HasTwoSlashes, inner.Going.GoesOnInNames}

-- a character other than `/`
other_false : (c : ℕ) → c ≢ 47 → (c == 47) ≡ false
other_false c n = go (c == 47) refl
  where
    go : (b : Bool) → (c == 47) ≡ b → (c == 47) ≡ false
    go true e = absurd (n (eqb-true c 47 e))
    go false e = e

after_other : (c : ℕ) (s : List ℕ) → c ≢ 47 → GoesOnInNames true s → GoesOnInNames (not (c == 47)) s
after_other c s n h = subst (λ b. GoesOnInNames (not b) s) (sym (other_false c n)) h

from_other : (c : ℕ) (s : List ℕ) → c ≢ 47 → GoesOnInNames (not (c == 47)) s → GoesOnInNames true s
from_other c s n h = subst (λ b. GoesOnInNames (not b) s) (other_false c n) h

-- ---- from names to characters
named : (n rest : List ℕ) → HasNoSlash n → GoesOnInNames true rest → GoesOnInNames true (n ++ rest)
named [] rest h a = a
named (c ∷ n) rest h a = ((λ e. refl), after_other c (n ++ rest) h.0 (named n rest h.1 a))

begun : (n rest : List ℕ) → ¬ (n ≡ []) → HasNoSlash n → GoesOnInNames true rest
    → GoesOnInNames false (n ++ rest)
begun [] rest e h a = absurd (e refl)
begun (c ∷ n) rest e h a = ((λ is. absurd (h.0 is)), after_other c (n ++ rest) h.0 (named n rest h.1 a))

after_names : (names : List (List ℕ)) → AreNames names → GoesOnInNames true (slashed names)
after_names [] a = refl
after_names (n ∷ names) a = ((λ e. refl), begun n (slashed names) a.0 a.1 (after_names names a.2))

pub plain_goes : (s : List ℕ) → IsPlainPath s → GoesOnInNames false s
plain_goes s ([], a, e, is) = absurd (e refl)
plain_goes s (n ∷ names, a, e, is) =
    subst (GoesOnInNames false) (sym is) (begun n (slashed names) a.0 a.1 (after_names names a.2))

-- ---- and back
-- the rest of a name, and names after it
abbrev RestOfPath : List ℕ → Type 0
RestOfPath s = (n : List ℕ) × (names : List (List ℕ)) × HasNoSlash n × AreNames names
    × (s ≡ n ++ slashed names)

with_first : (c : ℕ) (s : List ℕ) → c ≢ 47 → RestOfPath s → RestOfPath (c ∷ s)
with_first c s n (m, names, h, a, is) = (c ∷ m, names, (n, h), a, ap (λ z. c ∷ z) is)

path_of : (c : ℕ) (s : List ℕ) → c ≢ 47 → RestOfPath s → IsPlainPath (c ∷ s)
path_of c s n (m, names, h, a, is) = ((c ∷ m) ∷ names, ((λ e. cc), (n, h), a), (λ e. cc), ap (λ z. c ∷ z) is)

after_slash : (c : ℕ) (s : List ℕ) → c ≡ 47 → IsPlainPath s → RestOfPath (c ∷ s)
after_slash c s e ([], a, some, is) = absurd (some refl)
after_slash c s e (n ∷ names, a, some, is) = ([], n ∷ names, tt, a, ap (λ z. z ∷ s) e ∙ ap (λ z. 47 ∷ z) is)

mutual
  rest_of : (s : List ℕ) → GoesOnInNames true s → RestOfPath s
  rest_of [] h = ([], [], tt, tt, refl)
  rest_of (c ∷ s) h = elim (cases_eq c 47) [
    | inl e ↦ after_slash c s e (goes_plain s (subst (λ b. GoesOnInNames (not b) s) (eq-eqb c 47 e) h.1))
    | inr n ↦ with_first c s n (rest_of s (from_other c s n h.1))
  ]

  pub goes_plain : (s : List ℕ) → GoesOnInNames false s → IsPlainPath s
  goes_plain [] h = cc
  goes_plain (c ∷ s) h = elim (cases_eq c 47) [
    | inl e ↦ (let no : false ≡ true = h.0 e in cc)
    | inr n ↦ path_of c s n (rest_of s (from_other c s n h.1))
  ]

-- ---- by where a `/` may be
not_begun : (t : List ℕ) → GoesOnInNames false (47 ∷ t) → ⊥
not_begun t h = let no : false ≡ true = h.0 refl in cc

no_empty_name : (begun : Bool) (x y : List ℕ) → GoesOnInNames begun (x ++ 47 ∷ 47 ∷ y) → ⊥
no_empty_name begun [] y h = not_begun y h.1
no_empty_name begun (c ∷ x) y h = no_empty_name (not (c == 47)) x y h.1

no_end : (begun : Bool) (t : List ℕ) → GoesOnInNames begun (t ++ 47 ∷ []) → ⊥
no_end begun [] h = let no : false ≡ true = h.1 in cc
no_end begun (c ∷ t) h = no_end (not (c == 47)) t h.1

not_empty : (s : List ℕ) → GoesOnInNames false s → s ≡ [] → ⊥
not_empty s h e = let no : false ≡ true = subst (GoesOnInNames false) e h in cc

pub plain_bare : (s : List ℕ) → IsPlainPath s → Bare s × (HasTwoSlashes s → ⊥)
plain_bare s h =
    let goes = plain_goes s h in (
      (
        not_empty s goes,
        (λ b. not_begun b.0 (subst (GoesOnInNames false) b.1 goes)),
        (λ e. no_end false e.0 (subst (GoesOnInNames false) e.1 goes)),
      ),
      (λ d. no_empty_name false d.0 d.1 (subst (GoesOnInNames false) d.2 goes)),
    )

-- what is left of a text that has no `/` at its end or beside another
abbrev EndsInName : List ℕ → Type 0
EndsInName s = (EndsWithSlash s → ⊥) × (HasTwoSlashes s → ⊥)

tail_ends : (c : ℕ) (s : List ℕ) → EndsInName (c ∷ s) → EndsInName s
tail_ends c s h = (
  (λ e. h.0 (c ∷ e.0, ap (λ z. c ∷ z) e.1)),
  (λ d. h.1 (c ∷ d.0, d.1, ap (λ z. c ∷ z) d.2)),
)

mutual
  goes_begun : (s : List ℕ) → EndsInName s → GoesOnInNames true s
  goes_begun [] h = refl
  goes_begun (c ∷ s) h = elim (cases_eq c 47) [
    | inl e ↦ (
      (λ _. refl),
      subst (λ b. GoesOnInNames (not b) s) (sym (eq-eqb c 47 e))
          (goes_fresh s (λ n. h.0 ([], ap (λ z. z ∷ s) e ∙ ap (λ z. 47 ∷ z) n))
          (λ b. h.1 ([], b.0, ap (λ z. z ∷ s) e ∙ ap (λ z. 47 ∷ z) b.1)) (tail_ends c s h)),
    )
    | inr n ↦ ((λ _. refl), after_other c s n (goes_begun s (tail_ends c s h)))
  ]

  goes_fresh : (s : List ℕ) → (s ≡ [] → ⊥) → (BeginsWithSlash s → ⊥) → EndsInName s → GoesOnInNames false s
  goes_fresh [] some b h = absurd (some refl)
  goes_fresh (c ∷ s) some b h = elim (cases_eq c 47) [
    | inl e ↦ absurd (b (s, ap (λ z. z ∷ s) e))
    | inr n ↦ ((λ e. absurd (n e)), after_other c s n (goes_begun s (tail_ends c s h)))
  ]

pub bare_plain : (s : List ℕ) → Bare s × (HasTwoSlashes s → ⊥) → IsPlainPath s
bare_plain s h = goes_plain s (goes_fresh s h.0.0 h.0.1 (h.0.2, h.1))
