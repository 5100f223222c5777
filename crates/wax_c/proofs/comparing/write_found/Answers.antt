-- The path that is found has at most so many characters, so its bytes fit.
use Rattle.std.proofs.{Common.{string_bytes, subst, ◌∙◌}, lemmas.Str.IsUtf8-string_bytes}
use Rattle.wax_c.specs.inner.Searching.{IsAskedFor, IsSearchResult}
use Rattle.wax_c.proofs.FoundPath.{has_room}
use Rattle.wax_c.proofs.comparing.write_found.Goals as goal

pub returns-in-Ok-Path-clause-room : goal.returns-in-Ok-Path-clause-room
returns-in-Ok-Path-clause-room g c =
    let one = g.A.Compared.selects c.args.one.now in
    let other = g.B.Compared.selects c.args.other.now in
    let text = c.in-Ok-Path in
    let put = c.in-Err-put in
    let found = subst (IsSearchResult (IsAskedFor c.args.asked one other) _ c.args.most_states)
    text.field-0-is text.ensures.found in
    has_room (string_bytes text.path) _ _ _ c.args.most_states put.error (IsUtf8-string_bytes text.path)
    found.1 (c.as_bytes.ensures.value ∙ c.as_str.ensures.value) put.ensures.fills put.ensures.unchanged
