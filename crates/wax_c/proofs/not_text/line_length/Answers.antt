use Rattle.std.proofs.{Common.{◌∙◌, ap, length}, lemmas.List.Sums.prefix_len-le-length}
use Rattle.std.specs.Option.{unwrap_or}
use Rattle.wax_c.proofs.NotText.{line_end}
use Rattle.wax_c.proofs.not_text.line_length.Goals as goal

pub returns : goal.returns
returns c = let bytes = c.args.bytes.now in
    c.unwrap_or.ensures ∙ ap (λ found. unwrap_or found (length bytes)) c.first_feed.ensures
    ∙ line_end _ (length bytes) (prefix_len-le-length _ bytes)
