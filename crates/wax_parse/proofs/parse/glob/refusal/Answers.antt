use Rattle.std.proofs.Common.{◌-◌, chars, arith}
use Rattle.wax_token.proofs.Bytes.{bytes_len}
use Rattle.wax_parse.proofs.Texts.{end_shorter, place_is}
use Rattle.wax_parse.proofs.parse.glob.refusal.Goals as goal

pub overflow_sub-place : goal.overflow_sub-place
overflow_sub-place c =
    omega (
      arith,
      end_shorter (chars c.args.expression.now) (chars c.args.rest.now) c.requires,
      bytes_len c.args.expression.now c.utf8.expression,
      bytes_len c.args.rest.now c.utf8.rest,
    )

pub returns : goal.returns
returns c = place_is (chars c.args.expression.now) (chars c.args.rest.now) c.requires _
    (λ i. (
      bytes_len c.args.expression.now c.utf8.expression i - bytes_len c.args.rest.now c.utf8.rest i,
      c.first_width.ensures i,
    ))
