use Rattle.std.proofs.Common.{◌≡◌, ◌++◌, drop, string_bytes}
use Rattle.std.specs.List.{flat_map}
use Rattle.wax_commands.specs.QueryText.{warning_line}
use Rattle.wax_commands.proofs.query.push_warnings.Given as goal

abbrev pub invariant-loop-warning : goal.invariant-loop-warning
invariant-loop-warning l =
    string_bytes l.lines ++ flat_map warning_line (drop l.warning-index l.warnings)
    ≡ string_bytes l.initial.lines ++ flat_map warning_line l.warnings
