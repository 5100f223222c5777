-- Refusals of a layer as those of a build.
use Rattle.std.specs.Prelude.{◌≡◌, ⊤}
use Rattle.wax_match.specs.declared.encode.CompileError.{CompileError}
use Rattle.wax_query.specs.declared.diagnostics.Refusal.{Refusal}
use Rattle.wax_parse.specs.declared.parse.ParseError.{ParseError}
use Rattle.wax_rule.specs.{FirstBreak.ErrorView, declared.error.build_error.BuildError.BuildError}
use Rattle.wax_rule.specs.declared.error.build_error.BuildError.TheVariants.{Parse, Rule, Compile, Memory}
use Rattle.wax_query.specs.declared.diagnostics.Refusal.TheVariants as refusal

abbrev pub parse_refusal : Refusal ParseError → BuildError
parse_refusal (refusal.Refused e) = Parse e
parse_refusal refusal.Memory = Memory

-- a rule is broken, or memory ran out
abbrev pub IsRuleRefusal : Refusal ErrorView → BuildError → Type 0
IsRuleRefusal (refusal.Refused e) (Rule f) = f ≡ e
IsRuleRefusal refusal.Memory (Rule f) = ⊥
IsRuleRefusal r (Parse p) = ⊥
IsRuleRefusal r (Compile d) = ⊥
IsRuleRefusal r Memory = ⊤

abbrev pub compile_refusal : Refusal CompileError → BuildError
compile_refusal (refusal.Refused e) = Compile e
compile_refusal refusal.Memory = Memory
