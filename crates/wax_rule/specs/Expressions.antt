-- Which trees expressions spell that keep the rules, and why an expression spells none.
use Rattle.std.specs.Prelude.{◌≡◌, ℕ, List, [], ⊤}
use Rattle.wax_facts.specs.Rules.{broken}
use Rattle.wax_parse.specs.Accepted.{IsPlace}
use Rattle.wax_rule.specs.{FirstBreak.TellsFirst, declared.error.build_error.BuildError.BuildError}
use Rattle.wax_rule.specs.declared.error.build_error.BuildError.TheVariants.{Parse, Rule, Compile, Memory}
use Rattle.wax_token.specs.{Reads.{Reads, Span}, Syntax.Tree}

-- the expression spells the tree, which breaks no rule
abbrev pub Spells : List ℕ → Tree Span → Type 0
Spells e t = Reads e t × (broken t ≡ [])

-- why it spells none; nothing is claimed if allocation fails
abbrev pub Refuses : List ℕ → BuildError → Type 0
Refuses e (Parse place) = ((t : Tree Span) → Reads e t → ⊥) × IsPlace e place
Refuses e (Rule error) = (t : Tree Span) × Reads e t × TellsFirst (broken t) error × (error.expression ≡ e)
Refuses e (Compile _) = ⊥
Refuses e Memory = ⊤
