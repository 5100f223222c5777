use Rattle.std.proofs.Common.{◌≡◌, ◌<◌, ◌++◌, ◌∷◌, [], Some, append-nil, chars, encode_utf8, false, get_or}
use Rattle.std.proofs.Common.{slice_get, string_bytes, sym, ◌∙◌, ap, subst, arith}
use Rattle.std.proofs.lemmas.Option.{slice_get-get_or}
use Rattle.std.proofs.lemmas.Str.{IsUtf8-string_bytes, chars-nil, chars_past_char}
use Rattle.wax_compare.specs.{declared.pairs.Reached.Reached, inner.ReadBack.IsReadFrom}
use Rattle.wax_compare.proofs.ReadingBack.{read_last, read_more}
use Rattle.wax_compare.proofs.witness.text_to.Goals as goal

pub loop-at-init : goal.loop-at-init
loop-at-init c =
    let bytes : string_bytes c.push.new.self ≡ encode_utf8 c.args.last ++ [] =
    c.in_ok-push.ensures.bytes ∙ ap (λ z. z ++ encode_utf8 c.args.last) c.new-text.ensures.bytes
    ∙ sym (append-nil (encode_utf8 c.args.last)) in
    let one : chars (string_bytes c.push.new.self) ≡ c.args.last ∷ [] =
    chars_past_char (string_bytes c.push.new.self) [] c.args.last (IsUtf8-string_bytes c.push.new.self)
    bytes ∙ ap (λ z. c.args.last ∷ z) chars-nil in (
      c.requires.within,
      read_last c.args.reached.now c.args.from c.args.last (chars (string_bytes c.push.new.self)) one,
    )

pub loop-at-smaller : goal.loop-at-smaller
loop-at-smaller c =
    c.requires.earlier c.loop-at.at _ (omega (arith, c.loop-at-test.true))
    (slice_get-get_or c.args.reached.now c.loop-at.at _ c.loop-at.invariant.0)

pub loop-at-preserved : goal.loop-at-preserved
loop-at-preserved c =
    let step : Reached = get_or c.args.reached.now c.loop-at.at (record {
      pair = record { first = 0; second = 0; may_end = false };
      before = 0;
      letter = 0;
      depth = 0;
    }) in
    let is : slice_get c.args.reached.now c.loop-at.at ≡ Some step =
    slice_get-get_or c.args.reached.now c.loop-at.at _ c.loop-at.invariant.0 in
    let positive : 0 < c.loop-at.at = omega (arith, c.loop-at-test.true) in
    let earlier : step.before < c.loop-at.at = c.requires.earlier c.loop-at.at step positive is in
    let more : chars (string_bytes c.insert.new.self) ≡ step.letter ∷ chars (string_bytes c.loop-at.text) =
    chars_past_char (string_bytes c.insert.new.self) (string_bytes c.loop-at.text) step.letter
    (IsUtf8-string_bytes c.insert.new.self) c.in_ok-insert.ensures.bytes in (
      omega (arith, earlier, c.loop-at.invariant.0),
      read_more c.args.reached.now c.args.from c.args.last c.loop-at.at step
          (chars (string_bytes c.loop-at.text)) (chars (string_bytes c.insert.new.self)) is positive more
          c.loop-at.invariant.1,
    )

pub returns : goal.returns
returns c = let zeroth : c.loop-at.at ≡ 0 = omega (arith, c.loop-at-test.false) in
    subst (λ n. IsReadFrom c.args.reached.now c.args.from c.args.last n (chars (string_bytes c.loop-at.text)))
    zeroth c.loop-at.invariant.1
