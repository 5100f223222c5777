use Rattle.std.proofs.{Common.{chars, string_bytes}, lemmas.Str.IsUtf8-string_bytes}
use Rattle.wax_set.proofs.Edges.{begun_more, begun_none, begun_text, chars_added}
use Rattle.wax_set.proofs.set.edges.beginning_of.Goals as goal

pub loop-token-init : goal.loop-token-init
loop-token-init c =
    begun_none c.args.tokens.now (string_bytes c.new-beginning.result) c.new-beginning.ensures.bytes

pub loop-token-preserved : goal.loop-token-preserved
loop-token-preserved c =
    let old = string_bytes c.loop-token.beginning in
    let new = string_bytes c.push_str.new.self in
    let only = c.in-Some.text.now in
    begun_more c.args.tokens.now c.loop-token.token-index c.token-item.result (chars old) (chars new)
    (chars only) c.loop-token-test.true c.token-item.is c.in-Some.ensures
    (chars_added old new only (IsUtf8-string_bytes c.loop-token.beginning) c.in_ok-push_str.ensures.bytes)
    c.loop-token.invariant

pub returns-in_default : goal.returns-in_default
returns-in_default c = λ text. begun_text c.args.tokens.now c.loop-token.token-index
    (chars (string_bytes c.loop-token.beginning)) text c.loop-token.invariant

pub returns : goal.returns
returns c = λ text. begun_text c.args.tokens.now c.loop-token.token-index
    (chars (string_bytes c.loop-token.beginning)) text c.loop-token.invariant
