-- Worked examples: the trees that expressions spell, and their alternatives.
use Rattle.std.proofs.Common.{◌≡◌, ℕ, false, List, [], ◌∷◌, None, Option, Some, refl, codes}
use Rattle.wax_token.specs.{Syntax.{Tree, leaf, alternation, concatenation, repetition, literal}, Words.trees}
use Rattle.wax_facts.specs.Alternatives.{alternatives}

-- tokens, without what the parser knows of them
abbrev text : List ℕ → Tree ℕ
text s = leaf 0 (literal false s)

abbrev one_of : List (Tree ℕ) → Tree ℕ
one_of ts = alternation 0 (trees ts)

abbrev glob : List (Tree ℕ) → Tree ℕ
glob ts = concatenation 0 (trees ts)

abbrev copies : Tree ℕ → ℕ → Option ℕ → Tree ℕ
copies t low high = repetition 0 t low high

abbrev a : Tree ℕ
a = text (codes "a")

abbrev b : Tree ℕ
b = text (codes "b")

abbrev c : Tree ℕ
c = text (codes "c")

-- `a`
pub of_text : alternatives a ≡ a ∷ []
of_text = refl

-- `{{a,b},c}`
pub nested_last :
    alternatives (glob (one_of (glob (one_of (a ∷ b ∷ []) ∷ []) ∷ c ∷ []) ∷ [])) ≡ c ∷ a ∷ b ∷ []
nested_last = refl

-- `<{a,b}:1>`
pub exactly_one : alternatives (copies (glob (one_of (a ∷ b ∷ []) ∷ [])) 1 (Some 1)) ≡ a ∷ b ∷ []
exactly_one = refl

-- `<{a,b}:1,>`
pub one_or_more :
    alternatives (copies (one_of (a ∷ b ∷ [])) 1 None) ≡ copies (one_of (a ∷ b ∷ [])) 1 None ∷ []
one_or_more = refl

-- `{a}`
pub single_branch : alternatives (one_of (a ∷ [])) ≡ a ∷ []
single_branch = refl

-- `{a,b}c`
pub among_others :
    alternatives (glob (one_of (a ∷ b ∷ []) ∷ c ∷ [])) ≡ glob (one_of (a ∷ b ∷ []) ∷ c ∷ []) ∷ []
among_others = refl

-- an alternation without branches
pub nothing : alternatives (one_of []) ≡ []
nothing = refl
