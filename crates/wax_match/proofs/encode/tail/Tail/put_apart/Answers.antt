use Rattle.std.proofs.{Common.{◌∙◌, ap, false, ◌++◌}, lemmas.Result.on_ok_weaker}
use Rattle.wax_match.proofs.{Joining.written_apart, LeftCosts.apart_fits}
use Rattle.wax_match.specs.inner.Code.{sequence_code}
use Rattle.wax_token.specs.Words.{trees}
use Rattle.wax_match.proofs.encode.tail.Tail.put_apart.Goals as goal

pub returns-clause-written : goal.returns-clause-written
returns-clause-written c =
    let l = c.args.left.now in
    on_ok_weaker c.put_text.result
    (λ w. written_apart l c.args.self.now c.put_sequence.new.self c.put_gap.new.self c.put_text.new.self
    (c.in_ok-put_sequence.ensures ∙ ap (λ z. sequence_code (trees l.tokens.now) l.before false ++ z)
    c.in_ok-put.ensures) c.in_ok-put_gap.ensures w) c.put_text.ensures

pub returns-clause-cost : goal.returns-clause-cost
returns-clause-cost c =
    let l = c.args.left.now in
    on_ok_weaker c.put_text.result
    (λ w. apart_fits l c.args.self.now c.put_sequence.new.self c.put_gap.new.self c.put_text.new.self _
    (c.in_ok-put_sequence.ensures ∙ ap (λ z. sequence_code (trees l.tokens.now) l.before false ++ z)
    c.in_ok-put.ensures) c.in_ok-put_gap.ensures w) c.put_text.ensures
