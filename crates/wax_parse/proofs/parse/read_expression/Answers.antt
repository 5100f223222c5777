use Rattle.std.proofs.Common.{chars, refl}
use Rattle.wax_parse.proofs.{Outcomes.passed_up, Texts.{chars_if_empty, chars_unless_empty}}
use Rattle.wax_parse.proofs.Wholes.{reads_empty, reads_sole, reads_fails}
use Rattle.wax_parse.proofs.parse.read_expression.Goals as goal

pub returns-then-is_empty : goal.returns-then-is_empty
returns-then-is_empty c =
    reads_empty (chars c.args.expression.now) c.empty.result c.new.result
    (chars_if_empty c.args.expression.now c.args.expression.now c.is_empty.result refl c.is_empty.ensures
    c.if-is_empty.true) c.new.ensures c.empty.ensures

pub returns-in_err-token : goal.returns-in_err-token
returns-in_err-token c =
    passed_up c.from_residual.result c.in_err-token.field-0.0 _ _ _ _ c.from_residual.ensures.1
    (λ e h. (
      reads_fails (chars c.args.expression.now)
          (chars_unless_empty c.args.expression.now c.args.expression.now c.is_empty.result c.utf8.expression
          refl c.is_empty.ensures c.if-is_empty.false) h.0,
      h.1,
    ))
    c.in_err-token.ensures

pub returns : goal.returns
returns c = reads_sole (chars c.args.expression.now) c.in_ok-token.token _
    (chars_unless_empty c.args.expression.now c.args.expression.now c.is_empty.result c.utf8.expression refl
    c.is_empty.ensures c.if-is_empty.false) c.in_ok-token.ensures.0
