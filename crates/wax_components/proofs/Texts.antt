-- Texts of literals.
use Rattle.std.proofs.Common.{◌≡◌, ℕ, Bool, true, false, ◌==◌, List, [], ◌∷◌, refl, sym, ◌∙◌, ap, arith, fold}
use Rattle.std.proofs.{lemmas.Bool.eqb-true, lemmas.Str.chars-nil}
use Rattle.std.specs.Str.{chars}
use Rattle.wax_components.specs.{Parts.is_semantic, inner.Dots.{dot_after, dots_of}}

pub no_text : chars [] ≡ []
no_text = chars-nil

-- ---- dots
stays_at : (c : ℕ) (s : List ℕ) (b : Bool) → (c == 46) ≡ b → fold dot_after 3 s ≡ 3
    → fold dot_after 3 (c ∷ s) ≡ 3
stays_at c s true e h = rw e h
stays_at c s false e h = rw e h

stays : (s : List ℕ) → fold dot_after 3 s ≡ 3
stays [] = refl
stays (c ∷ s) = stays_at c s (c == 46) refl (stays s)

third : (c : ℕ) (s : List ℕ) (b : Bool) → (c == 46) ≡ b → fold dot_after 2 (c ∷ s) ≡ 3
third c s true e = rw e (stays s)
third c s false e = rw e (stays s)

second : (c d : ℕ) (s : List ℕ) (b : Bool) → (c == 46) ≡ b → fold dot_after 1 (c ∷ d ∷ s) ≡ 3
second c d s true e = rw e (third d s (d == 46) refl)
second c d s false e = rw e (stays (d ∷ s))

first : (c d e : ℕ) (s : List ℕ) (b : Bool) → (c == 46) ≡ b → dots_of (c ∷ d ∷ e ∷ s) ≡ 3
first c d e s true k = rw k (second d e s (d == 46) refl)
first c d e s false k = rw k (stays (d ∷ e ∷ s))

-- ---- a text is `.` or `..` where it is one or two dots
abbrev IsText : List ℕ → List ℕ → Type 0
IsText t s = (is_semantic s ≡ true) × (chars t ≡ s)

dot : chars (46 ∷ []) ≡ 46 ∷ []
unfolding chars
dot = refl

dots : chars (46 ∷ 46 ∷ []) ≡ 46 ∷ 46 ∷ []
unfolding chars
dots = refl

one_at : (c : ℕ) (b : Bool) → (c == 46) ≡ b → dots_of (c ∷ []) ≡ 1 → IsText (46 ∷ []) (c ∷ [])
one_at c true e h = (e, dot ∙ ap (λ z. z ∷ []) (sym (eqb-true c 46 e)))
one_at c false e h = absurd (omega (arith, rw e at h))

not_one_at : (c d : ℕ) (a b : Bool) → (c == 46) ≡ a → (d == 46) ≡ b → dots_of (c ∷ d ∷ []) ≡ 1 → ⊥
not_one_at c d true true e f h = omega (arith, rw (e, f) at h)
not_one_at c d true false e f h = omega (arith, rw (e, f) at h)
not_one_at c d false true e f h = omega (arith, rw (e, f) at h)
not_one_at c d false false e f h = omega (arith, rw (e, f) at h)

pub one_dot : (s : List ℕ) → dots_of s ≡ 1 → IsText (46 ∷ []) s
one_dot [] h = absurd (omega (arith, h))
one_dot (c ∷ []) h = one_at c (c == 46) refl h
one_dot (c ∷ d ∷ []) h = absurd (not_one_at c d (c == 46) (d == 46) refl refl h)
one_dot (c ∷ d ∷ e ∷ s) h = absurd (omega (arith, h, first c d e s (c == 46) refl))

not_two_at : (c : ℕ) (b : Bool) → (c == 46) ≡ b → dots_of (c ∷ []) ≡ 2 → ⊥
not_two_at c true e h = omega (arith, rw e at h)
not_two_at c false e h = omega (arith, rw e at h)

two_at : (c d : ℕ) (a b : Bool) → (c == 46) ≡ a → (d == 46) ≡ b → dots_of (c ∷ d ∷ []) ≡ 2
    → IsText (46 ∷ 46 ∷ []) (c ∷ d ∷ [])
two_at c d true true e f h = (
  rw (e, f) refl,
  dots ∙ ap (λ z. z ∷ 46 ∷ []) (sym (eqb-true c 46 e)) ∙ ap (λ z. c ∷ z ∷ []) (sym (eqb-true d 46 f)),
)
two_at c d true false e f h = absurd (omega (arith, rw (e, f) at h))
two_at c d false true e f h = absurd (omega (arith, rw (e, f) at h))
two_at c d false false e f h = absurd (omega (arith, rw (e, f) at h))

pub two_dots : (s : List ℕ) → dots_of s ≡ 2 → IsText (46 ∷ 46 ∷ []) s
two_dots [] h = absurd (omega (arith, h))
two_dots (c ∷ []) h = absurd (not_two_at c (c == 46) refl h)
two_dots (c ∷ d ∷ []) h = two_at c d (c == 46) (d == 46) refl refl h
two_dots (c ∷ d ∷ e ∷ s) h = absurd (omega (arith, h, first c d e s (c == 46) refl))
