-- Among which texts one is looked for.
use Rattle.std.specs.Prelude.{◌≡◌, ◌↔◌, ℕ, List, ◌∷◌, ◌++◌, ⊤}
use Rattle.wax_query.specs.{Below.IsPlainPath, Components.Bare}
use Rattle.wax_compare.specs.{declared.wanted.Texts.Texts, declared.wanted.Texts.TheVariants.{All, Paths}}

abbrev pub IsAmongTexts : Texts → List ℕ → Type 0
IsAmongTexts All s = ⊤
IsAmongTexts Paths s = IsPlainPath s

-- two `/` are side by side
abbrev pub HasTwoSlashes : List ℕ → Type 0
HasTwoSlashes s = (x y : List ℕ) × (s ≡ x ++ 47 ∷ 47 ∷ y)

-- a text is names with a `/` between each two exactly if it isn't empty and has no `/` at an end or beside
-- another
abbrev pub PlainPathLaw : Type 0
PlainPathLaw = (s : List ℕ) → IsPlainPath s ↔ (Bare s × (HasTwoSlashes s → ⊥))
