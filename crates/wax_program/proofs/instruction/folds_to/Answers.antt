use Rattle.std.proofs.Common.{◌≡◌, ◌<◌, rules, sym, ◌∙◌}
use Rattle.unicode.specs.CaseFolding.{simple_fold}
use Rattle.unicode.proofs.CaseFoldingLemmas.{simple_fold-ascii}
use Rattle.wax_program.proofs.instruction.folds_to.Goals as goal

pub returns-then-is_ascii : goal.returns-then-is_ascii
returns-then-is_ascii c =
    let low : c.args.c < 128 = search rules in
    let same : c.to_ascii_lowercase.result ≡ simple_fold c.args.c =
    c.to_ascii_lowercase.ensures.value ∙ sym (simple_fold-ascii c.args.c low) in (
      (λ h. (let e : c.to_ascii_lowercase.result ≡ c.args.d = search (rules, h) in sym e ∙ same)),
      (λ h. (let e : c.to_ascii_lowercase.result ≡ c.args.d = same ∙ sym h in search (rules, e))),
    )
