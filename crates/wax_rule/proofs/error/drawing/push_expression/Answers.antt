use Rattle.std.proofs.Common.{◌≡◌, ◌∙◌, ◌++◌, [], ap, sym, append-nil, chars, encode_utf8_all, map}
use Rattle.std.proofs.{Common.string_bytes, lemmas.List.nil_from_length}
use Rattle.std.proofs.lemmas.Str.{IsUtf8-past_char, chars-nil, chars_past_char}
use Rattle.std.specs.Str.Iter.{chars_rest}
use Rattle.wax_rule.specs.Drawn.{drawn_character}
use Rattle.wax_rule.proofs.Pushed.{drawn_past, feed_pushed}
use Rattle.wax_rule.proofs.error.drawing.push_expression.Goals as goal

pub loop-character-preserved : goal.loop-character-preserved
loop-character-preserved c =
    let held = c.loop-character.invariant in
    let parts = c.in-Some.ensures.steps.0 in
    let step = chars_past_char _ _ c.in-Some.character held.0 parts in (
      IsUtf8-past_char _ _ c.in-Some.character held.0 parts,
      drawn_past c.in-Some.character c.drawn_character.result _ _ _ _ _ step c.drawn_character.ensures
          c.in_ok-push.ensures.bytes held.1,
    )

pub returns : goal.returns
unfolding lib.Utf8.encode
returns c =
    let written = string_bytes c.loop-character.picture in
    let end : chars (chars_rest c.loop-character.character-iterator) ≡ [] =
    ap chars (nil_from_length _ c.in-None.ensures.steps.0.0) ∙ chars-nil in
    let none : written ++ encode_utf8_all
    (map drawn_character (chars (chars_rest c.loop-character.character-iterator)))
    ≡ written = ap (λ z. written ++ encode_utf8_all (map drawn_character z)) end ∙ append-nil written in
    feed_pushed c.push-2.result written _ _ c.push-2.ensures.bytes (sym none ∙ c.loop-character.invariant.1)
