use Rattle.std.proofs.Common.{◌≡◌, ◌≤◌, ◌+◌, IsUtf8, chars}
use Rattle.std.specs.Str.Iter.{chars_rest}
use Rattle.wax_rule.specs.Drawn.{columns_before}
use Rattle.wax_rule.proofs.error.drawing.columns_before.Given as goal

abbrev pub invariant-loop-character : goal.invariant-loop-character
invariant-loop-character l =
    IsUtf8 (chars_rest l.character-iterator)
    × (l.columns + columns_before l.left (chars (chars_rest l.character-iterator))
    ≡ columns_before l.fn.byte (chars l.fn.text))
    × (l.columns + l.left ≤ l.fn.byte)
