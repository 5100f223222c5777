use Rattle.std.proofs.Common.{◌≡◌, ◌∙◌, ◌∷◌, ◌++◌, [], List, ℕ, ap, sym, rules, chars, encode_utf8}
use Rattle.std.proofs.{Common.{if◌then◌else◌, string_bytes}, lemmas.Str.{IsUtf8-encode, IsUtf8-string_bytes}}
use Rattle.wax_facts.proofs.TextSteps.{char_text, chars_pushed}
use Rattle.wax_partition.proofs.kept.keep.Goals as goal

pub returns-in_ok-push : goal.returns-in_ok-push
returns-in_ok-push c =
    let old : List ℕ = string_bytes c.args.kept.now in
    let e : string_bytes c.push.new.self ≡ old ++ encode_utf8 c.args.c = search rules in
    chars_pushed old (encode_utf8 c.args.c) _ (IsUtf8-string_bytes c.args.kept.now) e
    ∙ ap (λ z. chars old ++ z) (char_text c.args.c (encode_utf8 c.args.c)
    (IsUtf8-encode c.args.c c.ranges.c.0) (λ i. encode_utf8 c.args.c))
    ∙ ap (λ b. chars old ++ (if b then c.args.c ∷ [] else [])) (sym c.if-is_kept.true)
