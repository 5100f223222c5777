use Rattle.std.proofs.Common.{arith}
use Rattle.wax_parse.proofs.Texts.{seam_len, seam_boundary, seam_front}
use Rattle.wax_parse.proofs.parse.text.before.Goals as goal

pub overflow_sub-text : goal.overflow_sub-text
overflow_sub-text c =
    omega (arith, seam_len c.args.text.now c.args.rest.now c.requires.0 c.utf8.text c.utf8.rest c.requires.1)

pub range-requires-clause-end_boundary : goal.range-requires-clause-end_boundary
range-requires-clause-end_boundary c =
    seam_boundary c.args.text.now c.args.rest.now c.requires.0 c.utf8.text c.utf8.rest c.requires.1

pub returns : goal.returns
returns c = λ x e. seam_front c.args.text.now c.args.rest.now x c.range.result.now c.utf8.text c.utf8.rest
    c.range.utf8 e c.range.ensures.value
