use Rattle.std.proofs.Common.{◌≡◌, ◌∙◌, length, ap, rules}
use Rattle.wax_token.specs.Reads.{utf8_len}
use Rattle.wax_capture.proofs.ByteParts.{same_places, text_len}
use Rattle.wax_capture.proofs.bytes.to_bytes.Goals as goal

pub returns-then-text-len : goal.returns-then-text-len
returns-then-text-len c =
    let len : utf8_len c.args.characters.now ≡ length c.args.text.now =
    ap utf8_len c.requires.characters ∙ text_len c.args.text.now c.utf8.text in
    same_places c.args.characters.now c.args.parts.items
    (len ∙ c.if-text-len.true ∙ c.len.ensures.is) c.requires.within

pub count_bytes-requires-clause-fits : goal.count_bytes-requires-clause-fits
count_bytes-requires-clause-fits c =
    let len : utf8_len c.args.characters.now ≡ length c.args.text.now =
    ap utf8_len c.requires.characters ∙ text_len c.args.text.now c.utf8.text in
    search (rules, len)
