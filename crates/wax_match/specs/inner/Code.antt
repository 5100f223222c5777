-- The instructions of a token tree. This mirrors the code that writes them, and is no part of what a
-- tree means: only private functions cite it.
use Rattle.std.specs.Prelude.{ℕ, zero, suc, ◌+◌, ◌-◌, Bool, true, false, List, [], ◌∷◌, ◌++◌, length, Option}
use Rattle.std.specs.Prelude.{Some, None, nat_le, if◌then◌else◌}
use Rattle.unicode.specs.CaseFolding.{simple_fold}
use Rattle.wax_program.specs.declared.instruction.Test.TheVariants.{Char, Folded, Class, NotSlash, Any, Never}
use Rattle.wax_program.specs.declared.instruction.Instruction.{Instruction}
use Rattle.wax_program.specs.declared.instruction.Instruction.TheVariants.{Check, Repeat, Components, Fork}
use Rattle.wax_program.specs.declared.instruction.Instruction.TheVariants.{Jump, Back}
use Rattle.wax_token.specs.Syntax.{Leaf, literal, class, separator, one, zero_or_more, tree, Tree, leaf}
use Rattle.wax_token.specs.Syntax.{alternation, concatenation, repetition, Trees, none, more}
use Rattle.wax_token.specs.Cost.{holds_tree}

-- the character `/`
abbrev pub slash_code : List Instruction
slash_code = Check (Char 47) ∷ []

-- nothing
abbrev pub never : List Instruction
never = Check Never ∷ []

-- a, any number of times
abbrev pub loop : List Instruction → List Instruction
loop a = Fork (length a + 1) ∷ (a ++ Back (length a + 1) ∷ [])

-- a or nothing
abbrev pub skip : List Instruction → List Instruction
skip a = Fork (length a) ∷ a

-- a or b
abbrev pub choose : List Instruction → List Instruction → List Instruction
choose a b = Fork (length a + 1) ∷ (a ++ Jump (length b) ∷ b)

-- characters, with the flag by their folding
abbrev pub literal_code : Bool → List ℕ → List Instruction
literal_code insensitive [] = []
literal_code false (c ∷ t) = Check (Char c) ∷ literal_code false t
literal_code true (c ∷ t) = Check (Folded (simple_fold c)) ∷ literal_code true t

-- a tree wildcard: whether something is before it, whether something is after it, whether it is rooted
abbrev pub wildcard_code : Bool → Bool → Bool → List Instruction
wildcard_code false false false = Repeat Any ∷ []
wildcard_code false false true = slash_code ++ Repeat Any ∷ []
wildcard_code false true false = skip (Components ∷ [])
wildcard_code false true true = slash_code ++ skip (Components ∷ [])
wildcard_code true true rooted = slash_code ++ skip (Components ∷ [])
wildcard_code true false rooted = skip (slash_code ++ Repeat Any ∷ [])

-- a leaf
abbrev pub leaf_instructions : Leaf → Bool → Bool → List Instruction
leaf_instructions (literal insensitive t) before after = literal_code insensitive t
leaf_instructions (class negated xs) before after = Check (Class (negated, xs)) ∷ []
leaf_instructions separator before after = slash_code
leaf_instructions one before after = Check NotSlash ∷ []
leaf_instructions (zero_or_more _) before after = Repeat NotSlash ∷ []
leaf_instructions (tree rooted) before after = wildcard_code before after rooted

-- n times a
abbrev pub copies_code : ℕ → List Instruction → List Instruction
copies_code zero a = []
copies_code (suc n) a = a ++ copies_code n a

-- at most n times a
abbrev pub up_to_code : ℕ → List Instruction → List Instruction
up_to_code zero a = []
up_to_code (suc n) a = skip (a ++ up_to_code n a)

-- as many times a as the bounds say
abbrev pub counted_code : ℕ → Option ℕ → List Instruction → List Instruction
counted_code low None a = copies_code low a ++ loop a
counted_code low (Some high) a =
    if nat_le low high then copies_code low a ++ up_to_code (high - low) a else never

-- two copies or more, each with the others around it
abbrev pub many_code : ℕ → Option ℕ → (Bool → Bool → List Instruction) → Bool → Bool → List Instruction
many_code low high body before after =
    body before true ++ (counted_code low high (body true true) ++ body true after)

-- the same for a body that depends on what stands around it: no copy, one copy, or two copies or more
abbrev pub copied_code : ℕ → Option ℕ → (Bool → Bool → List Instruction) → Bool → Bool → List Instruction
copied_code zero (Some zero) body before after = []
copied_code zero (Some (suc zero)) body before after = skip (body before after)
copied_code zero (Some (suc (suc high))) body before after =
    skip (choose (body before after) (many_code 0 (Some high) body before after))
copied_code zero None body before after =
    skip (choose (body before after) (many_code 0 None body before after))
copied_code (suc zero) (Some zero) body before after = never
copied_code (suc zero) (Some (suc zero)) body before after = body before after
copied_code (suc zero) (Some (suc (suc high))) body before after =
    choose (body before after) (many_code 0 (Some high) body before after)
copied_code (suc zero) None body before after =
    choose (body before after) (many_code 0 None body before after)
copied_code (suc (suc low)) (Some zero) body before after = never
copied_code (suc (suc low)) (Some (suc zero)) body before after = never
copied_code (suc (suc low)) (Some (suc (suc high))) body before after =
    many_code low (Some high) body before after
copied_code (suc (suc low)) None body before after = many_code low None body before after

-- a tree; its branches, each before the others; trees one after another
abbrev mutual
  pub instructions_of : {A : Type 0} → Tree A → Bool → Bool → List Instruction
  instructions_of (leaf a l) before after = leaf_instructions l before after
  instructions_of (alternation a ts) before after = branches_code ts before after
  instructions_of (concatenation a ts) before after = sequence_code ts before after
  instructions_of (repetition a t low high) before after =
      if holds_tree t then copied_code low high (instructions_of t) before after
      else counted_code low high (instructions_of t before after)

  pub branches_code : {A : Type 0} → Trees A → Bool → Bool → List Instruction
  branches_code none before after = never
  branches_code (more t ts) before after =
      choose (instructions_of t before after) (branches_code ts before after)

  pub sequence_code : {A : Type 0} → Trees A → Bool → Bool → List Instruction
  sequence_code none before after = []
  sequence_code (more t none) before after = instructions_of t before after
  sequence_code (more t (more u us)) before after =
      instructions_of t before true ++ sequence_code (more u us) true after

-- a repetition of the tree
abbrev pub repeated_code : {A : Type 0} → ℕ → Option ℕ → Tree A → Bool → Bool → List Instruction
repeated_code low high t before after =
    if holds_tree t then copied_code low high (instructions_of t) before after
    else counted_code low high (instructions_of t before after)
