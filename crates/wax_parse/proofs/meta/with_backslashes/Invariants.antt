use Rattle.std.proofs.Common.{◌≡◌, ◌++◌, IsUtf8, chars, encode_utf8_all, string_bytes}
use Rattle.std.specs.Str.Iter.{chars_rest}
use Rattle.wax_parse.proofs.Escaped.{escaped}
use Rattle.wax_parse.proofs.meta.with_backslashes.Given as goal

abbrev pub invariant-loop-character : goal.invariant-loop-character
invariant-loop-character l =
    IsUtf8 (chars_rest l.character-iterator)
    × (string_bytes l.escaped ++ encode_utf8_all (escaped (chars (chars_rest l.character-iterator)))
    ≡ encode_utf8_all (escaped (chars l.fn.text)))
