use Rattle.std.proofs.Common.{◌≡◌, drop}
use Rattle.std.specs.List.{list_all}
use Rattle.wax_token.specs.Kinds.{is_literal}
use Rattle.wax_components.proofs.parts.Component.literal.Given as goal

abbrev pub invariant-loop-token : goal.invariant-loop-token
invariant-loop-token g l = list_all is_literal (drop l.token-index l.self) ≡ list_all is_literal l.self
