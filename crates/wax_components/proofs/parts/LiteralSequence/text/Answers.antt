use Rattle.std.proofs.Common.{◌≡◌, ◌∙◌, ◌+◌, ◌++◌, ◌∷◌, ap, sym, chars, drop, string_bytes}
use Rattle.std.proofs.{lemmas.List.{append_assoc, drop_more}, lemmas.Str.{chars-append, IsUtf8-string_bytes}}
use Rattle.wax_components.proofs.Texts.{no_text}
use Rattle.wax_components.specs.Parts.{literals_text}
use Rattle.wax_components.proofs.parts.LiteralSequence.text.Goals as goal

pub loop-token-init : goal.loop-token-init
loop-token-init g c = ap (λ z. z ++ literals_text c.self.inside.tokens.now)
    (ap chars c.new-text.ensures.bytes ∙ no_text) ∙ c.self.view_is

pub loop-token-preserved : goal.loop-token-preserved
loop-token-preserved g c =
    let ts = c.self.inside.tokens.now in
    let i = c.loop-token.token-index in
    let old = string_bytes c.loop-token.text in
    let piece = c.literal_text.result.now in
    let rest = literals_text (drop (i + 1) ts) in
    let split : drop i ts ≡ c.token-item.result ∷ drop (i + 1) ts =
    drop_more ts i c.token-item.result c.loop-token-test.true
    ∙ ap (λ z. z ∷ drop (i + 1) ts) (sym c.token-item.is) in
    ap (λ z. chars z ++ rest) c.in_ok-push_str.ensures.bytes
    ∙ ap (λ z. z ++ rest) (chars-append old piece (IsUtf8-string_bytes c.loop-token.text))
    ∙ append_assoc (chars old) (chars piece) rest
    ∙ ap (λ z. chars old ++ (z ++ rest)) c.literal_text.ensures
    ∙ ap (λ z. chars old ++ literals_text z) (sym split)
    ∙ c.loop-token.invariant
