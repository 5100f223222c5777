use Rattle.std.proofs.Common.{◌≡◌, ◌-◌, ◌∙◌, length, chars, arith}
use Rattle.wax_token.specs.Reads.{utf8_len}
use Rattle.wax_token.proofs.Bytes.{bytes_len}
use Rattle.wax_parse.proofs.parse.glob.metadata.Goals as goal

pub overflow_sub-expression : goal.overflow_sub-expression
overflow_sub-expression c = omega (
  arith,
  c.requires.from,
  bytes_len c.args.expression.now c.utf8.expression,
  bytes_len c.args.from.now c.utf8.from,
)

pub overflow_sub-from : goal.overflow_sub-from
overflow_sub-from c =
    omega (arith, c.requires.to, bytes_len c.args.to.now c.utf8.to, bytes_len c.args.from.now c.utf8.from)

pub returns : goal.returns
returns c =
    let from : length c.args.from.now ≡ utf8_len (chars c.args.from.now) =
    bytes_len c.args.from.now c.utf8.from in
    c.new.ensures ∙ (λ i. (
      bytes_len c.args.expression.now c.utf8.expression i - from i,
      from i - bytes_len c.args.to.now c.utf8.to i,
    ))
