use Rattle.std.proofs.Common.{◌≡◌, ◌++◌, chars, map, string_bytes, take}
use Rattle.wax_query.specs.Labels.{seen}
use Rattle.wax_rule.specs.Drawn.{label_lines}
use Rattle.wax_rule.proofs.error.drawing.push_labels.Given as goal

abbrev pub invariant-loop-label : goal.invariant-loop-label
invariant-loop-label l =
    string_bytes l.picture
    ≡ string_bytes l.initial.picture ++ label_lines (chars l.expression)
    (map seen (take l.label-index l.labels))
