-- The numbers of refusals.
use Rattle.std.specs.Prelude.{ℕ}
use Rattle.wax_facts.specs.declared.rules.RuleErrorKind.{RuleErrorKind}
use Rattle.wax_facts.specs.declared.rules.RuleErrorKind.TheVariants.{AdjacentBoundary, IncompatibleBounds}
use Rattle.wax_facts.specs.declared.rules.RuleErrorKind.TheVariants.{SingularTree, AdjacentZeroOrMore}
use Rattle.wax_facts.specs.declared.rules.RuleErrorKind.TheVariants.{RootedSubGlob, SingularZeroOrMore}
use Rattle.wax_facts.specs.declared.rules.RuleErrorKind.TheVariants.{OversizedInvariant}
use Rattle.wax_rule.specs.declared.error.build_error.BuildError.{BuildError}
use Rattle.wax_rule.specs.declared.error.build_error.BuildError.TheVariants.{Parse, Rule, Compile, Memory}

-- a broken rule
abbrev pub rule_number : RuleErrorKind → ℕ
rule_number AdjacentBoundary = 2
rule_number IncompatibleBounds = 3
rule_number SingularTree = 4
rule_number AdjacentZeroOrMore = 5
rule_number RootedSubGlob = 6
rule_number SingularZeroOrMore = 7
rule_number OversizedInvariant = 8

-- a refusal to build
abbrev pub build_number : BuildError → ℕ
build_number (Parse place) = 1
build_number (Rule error) = rule_number error.kind
build_number (Compile error) = 9
build_number Memory = 10
