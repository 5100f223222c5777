use Rattle.std.proofs.Common.{◌≡◌, ◌∙◌, Some, ap, chars, length, rules, string_bytes}
use Rattle.std.proofs.lemmas.Str.{IsUtf8-string_bytes}
use Rattle.std.specs.List.{slice_get}
use Rattle.wax_token.specs.{Reads.utf8_len, Syntax.concatenation, Words.trees}
use Rattle.wax_token.proofs.Bytes.{bytes_len}
use Rattle.wax_partition.proofs.RestGlob.{glob_is}
use Rattle.wax_partition.proofs.parts.cut_out.Goals as goal

pub returns : goal.returns
returns c =
    let f : Some c.in-Some.first.now ≡ slice_get c.args.tokens.items 0 = search rules in
    let l : c.len.result ≡ length (string_bytes c.in_ok-text.text) = search rules in
    let n : c.len.result ≡ utf8_len (chars (string_bytes c.in_ok-text.text)) =
    l ∙ bytes_len (string_bytes c.in_ok-text.text) (IsUtf8-string_bytes c.in_ok-text.text) in
    glob_is (chars c.args.expression.now) c.args.end c.args.tokens.items c.in-Some.first.now
    (chars (string_bytes c.in_ok-text.text)) c.len.result (trees c.in_ok-tokens.tokens.items)
    c.new_branch-token.result
    f c.in_ok-text.ensures n c.in_ok-tokens.ensures (c.new_branch-token.ensures
    ∙ ap (λ z. concatenation z (trees c.in_ok-tokens.tokens.items)) c.new.ensures)
