use Rattle.std.proofs.Common.{◌≡◌, ◌++◌, drop}
use Rattle.std.specs.List.{before_first, list_any}
use Rattle.wax_token.specs.Kinds.{has_boundary}
use Rattle.wax_exclude.specs.Leading.{leading}
use Rattle.wax_exclude.proofs.component.leading.Given as goal

abbrev pub invariant-loop-component : goal.invariant-loop-component
invariant-loop-component l = l.leading.items ++ before_first (list_any has_boundary)
    (drop l.component-index l.component-items) ≡ leading l.token
