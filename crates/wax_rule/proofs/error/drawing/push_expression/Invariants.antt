use Rattle.std.proofs.Common.{◌≡◌, ◌++◌, IsUtf8, chars, encode_utf8_all, map, string_bytes}
use Rattle.std.specs.Str.Iter.{chars_rest}
use Rattle.wax_rule.specs.Drawn.{drawn_character}
use Rattle.wax_rule.proofs.error.drawing.push_expression.Given as goal

abbrev pub invariant-loop-character : goal.invariant-loop-character
invariant-loop-character l =
    IsUtf8 (chars_rest l.character-iterator)
    × (string_bytes l.picture
    ++ encode_utf8_all (map drawn_character (chars (chars_rest l.character-iterator)))
    ≡ string_bytes l.initial.picture ++ encode_utf8_all (map drawn_character (chars l.initial.expression)))
