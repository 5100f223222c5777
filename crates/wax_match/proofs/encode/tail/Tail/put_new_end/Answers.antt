use Rattle.std.proofs.{Common.{◌∙◌, ap, ◌++◌}, lemmas.Result.on_ok_weaker}
use Rattle.wax_match.proofs.SharedEnds.{written_end}
use Rattle.wax_match.specs.inner.LeadCode.{gap_code}
use Rattle.wax_match.proofs.encode.tail.Tail.put_new_end.Goals as goal

pub returns-clause-written : goal.returns-clause-written
returns-clause-written c =
    on_ok_weaker c.put_gap.result
    (λ w. written_end c.args.number c.args.gap c.args.self.now c.put_gap.new.self
    (w ∙ ap (λ z. gap_code c.args.gap ++ z) c.in_ok-put.ensures)) c.put_gap.ensures
