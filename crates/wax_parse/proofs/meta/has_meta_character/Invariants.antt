use Rattle.std.proofs.Common.{◌≡◌, IsUtf8, chars}
use Rattle.std.specs.{List.list_any, Str.Iter.chars_rest}
use Rattle.wax_token.specs.Reads.{escapable, is_one_of}
use Rattle.wax_parse.proofs.meta.has_meta_character.Given as goal

abbrev pub invariant-loop-character : goal.invariant-loop-character
invariant-loop-character l =
    IsUtf8 (chars_rest l.character-iterator)
    × (list_any (is_one_of escapable) (chars (chars_rest l.character-iterator))
    ≡ list_any (is_one_of escapable) (chars l.fn.text))
