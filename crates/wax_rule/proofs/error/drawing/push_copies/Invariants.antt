use Rattle.std.proofs.Common.{◌≡◌, ◌++◌, replicate, string_bytes}
use Rattle.wax_rule.proofs.error.drawing.push_copies.Given as goal

abbrev pub invariant-loop-i : goal.invariant-loop-i
invariant-loop-i l = string_bytes l.picture ≡ string_bytes l.initial.picture ++ replicate l._i l.fn.character
