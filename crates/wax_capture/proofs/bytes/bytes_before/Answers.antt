use Rattle.std.proofs.Common.{◌+◌, ◌^◌, ◌<◌, rules, arith}
use Rattle.wax_capture.proofs.ByteParts.{byte_at_most}
use Rattle.wax_capture.proofs.bytes.bytes_before.Goals as goal

pub overflow_add-result : goal.overflow_add-result
overflow_add-result c =
    let fits : c.args.bytes + c.byte_len-2.result < 2 ^ 64 =
    omega (
      arith,
      c.requires.fits,
      c.requires.known,
      c.byte_len-2.ensures,
      byte_at_most c.args.text.now c.args.place,
    ) in
    search (rules, fits)
