-- What contracts see of a text that was matched, and of a match.
use Rattle.std.specs.Prelude.{◌≡◌, ℕ, ◌+◌, ◌*◌, List, ◌∷◌, length, Option, Some, None, refl}
use Rattle.std.specs.Coded.{Coded, code_by, coded×, coded_list, coded_ℕ}

-- the characters of the text and of its captures
pub record MatchedView : Type 0 where
  pub text : List ℕ
  pub captures : List (List ℕ)

-- it is stored as the pair of its fields
abbrev pub matched_code : Coded MatchedView
matched_code = code_by (List ℕ × List (List ℕ))
    (coded× (coded_list coded_ℕ) (coded_list (coded_list coded_ℕ)))
    (λ m. (m.text, m.captures)) (λ p. record { text = p.0; captures = p.1 }) (λ _. refl)

-- the whole text, and then its captures
abbrev pub texts : MatchedView → List (List ℕ)
texts m = m.text ∷ m.captures

-- the text with what is captured of it, if it matches, and nothing else
abbrev pub IsMatchOf : (List ℕ → Type 0) → (List ℕ → List (List ℕ) → Type 0)
    → List ℕ → Option MatchedView → Type 0
IsMatchOf Means Captured s None = Means s → ⊥
IsMatchOf Means Captured s (Some m) = Means s × (m.text ≡ s) × Captured s m.captures

-- 8 times the length of the program, times the cube of the number of characters and one more
abbrev pub cube_visits : ℕ → List ℕ → ℕ
cube_visits len s = 8 * (len * ((length s + 1) * ((length s + 1) * (length s + 1))))
