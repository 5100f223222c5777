-- Which tokens have one way, and which are tree wildcards.
use Rattle.std.specs.Prelude.{◌≡◌, ℕ, Bool, true, false, List, [], ◌∷◌}
use Rattle.wax_program.specs.{Machine.PassesTest, declared.instruction.Test.Test}
use Rattle.wax_token.specs.Syntax.{literal, class, separator, one, zero_or_more, tree, Tree, leaf}
use Rattle.wax_token.specs.Syntax.{alternation, concatenation, repetition}

-- whether it has one way
abbrev pub is_single : {A : Type 0} → Tree A → Bool
is_single (leaf a (tree r)) = false
is_single (leaf a (literal i t)) = true
is_single (leaf a (class n xs)) = true
is_single (leaf a separator) = true
is_single (leaf a one) = true
is_single (leaf a (zero_or_more e)) = true
is_single (alternation a ts) = false
is_single (concatenation a ts) = true
is_single (repetition a t low high) = true

-- a tree wildcard, and whether it is rooted
abbrev pub IsTreeToken : {A : Type 0} → Tree A → Bool → Type 0
IsTreeToken (leaf a (tree r)) rooted = r ≡ rooted
IsTreeToken (leaf a (literal i t)) rooted = ⊥
IsTreeToken (leaf a (class n xs)) rooted = ⊥
IsTreeToken (leaf a separator) rooted = ⊥
IsTreeToken (leaf a one) rooted = ⊥
IsTreeToken (leaf a (zero_or_more e)) rooted = ⊥
IsTreeToken (alternation a ts) rooted = ⊥
IsTreeToken (concatenation a ts) rooted = ⊥
IsTreeToken (repetition a t low high) rooted = ⊥

-- one character, which passes the test
abbrev pub PassesOne : Test → List ℕ → Type 0
PassesOne test x = (c : ℕ) × (x ≡ c ∷ []) × PassesTest test c
