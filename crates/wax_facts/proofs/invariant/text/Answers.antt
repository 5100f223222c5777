use Rattle.std.proofs.Common.{chars, string_bytes}
use Rattle.wax_facts.proofs.TextSteps.{only_text}
use Rattle.wax_facts.proofs.invariant.text.Goals as goal

pub returns-clause-only : goal.returns-clause-only
returns-clause-only g c = only_text c.args.token.now (λ t. chars (string_bytes t)) c.in_ok-find_text.field-0
    c.in_ok-find_text.ensures
