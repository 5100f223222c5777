use Rattle.std.proofs.Common.{◌≡◌, ◌∙◌, ◌++◌, ◌∷◌, List, ℕ, [], ap, sym, append_assoc, append-nil, chars}
use Rattle.std.proofs.{Common.{encode_utf8_all, string_bytes}, lemmas.List.nil_from_length}
use Rattle.std.proofs.lemmas.Str.{IsUtf8-past_char, IsUtf8-string_bytes, chars-nil, chars_from_encodes}
use Rattle.std.proofs.lemmas.Str.{chars_past_char, encodes-append}
use Rattle.std.specs.Str.Iter.{chars_rest}
use Rattle.wax_token.specs.Reads.{escapable, spelled}
use Rattle.wax_parse.proofs.Escaped.{escaped}
use Rattle.wax_parse.proofs.meta.with_backslashes.Goals as goal

-- after the first character c is written
past : (c : ℕ) (r s old new all : List ℕ) → r ≡ c ∷ s → new ≡ old ++ encode_utf8_all (spelled escapable c) →
    old ++ encode_utf8_all (escaped r) ≡ all → new ++ encode_utf8_all (escaped s) ≡ all
past c r s old new all e f h =
    ap (λ z. z ++ encode_utf8_all (escaped s)) f
    ∙ append_assoc old (encode_utf8_all (spelled escapable c)) (encode_utf8_all (escaped s))
    ∙ sym (ap (λ z. old ++ z) (encodes-append (spelled escapable c) (escaped s)))
    ∙ sym (ap (λ z. old ++ encode_utf8_all (escaped z)) e) ∙ h

pub loop-character-preserved : goal.loop-character-preserved
loop-character-preserved c =
    let held = c.loop-character.invariant in
    let parts = c.in-Some.ensures.steps.0 in
    let step = chars_past_char _ _ c.in-Some.character held.0 parts in (
      IsUtf8-past_char _ _ c.in-Some.character held.0 parts,
      past _ _ _ _ _ _ step c.in_ok-push_escaped.ensures held.1,
    )

pub returns : goal.returns
returns c =
    let written = string_bytes c.loop-character.escaped in
    let end : chars (chars_rest c.loop-character.character-iterator) ≡ [] =
    ap chars (nil_from_length _ c.in-None.ensures.steps.0.0) ∙ chars-nil in
    let bytes : written ≡ encode_utf8_all (escaped (chars c.args.text.now)) =
    sym (append-nil written) ∙ sym (ap (λ z. written ++ encode_utf8_all (escaped z)) end)
    ∙ c.loop-character.invariant.1 in
    sym (chars_from_encodes (escaped (chars c.args.text.now)) written
    (IsUtf8-string_bytes c.loop-character.escaped)
    (sym bytes))
