use Rattle.std.proofs.Common.{◌+◌, ◌^◌, ◌<◌, ℕ, List, length, rules, arith}
use Rattle.wax_capture.proofs.ByteParts.{byte_at_most, byte_at_next}
use Rattle.wax_capture.proofs.bytes.byte_len.Goals as goal

pub overflow_add-len : goal.overflow_add-len
overflow_add-len c =
    let text : List ℕ = c.args.text.now in
    let i : ℕ = c.loop-place.place in
    let lt : i < length text = omega (arith, c.loop-place-test.true, c.requires.within) in
    let fits : c.loop-place.len + c.len_utf8-len.result < 2 ^ 64 =
    omega (
      arith,
      c.requires.fits,
      c.loop-place.invariant,
      c.len_utf8-len.ensures.value,
      byte_at_next text i c.char_at.result lt c.char_at.ensures,
      byte_at_most text (i + 1),
    ) in
    search (rules, fits)

pub loop-place-preserved : goal.loop-place-preserved
loop-place-preserved c =
    let text : List ℕ = c.args.text.now in
    let i : ℕ = c.loop-place.place in
    let lt : i < length text = omega (arith, c.loop-place-test.true, c.requires.within) in
    omega (
      arith,
      c.loop-place.invariant,
      c.len_utf8-len.ensures.value,
      byte_at_next text i c.char_at.result lt c.char_at.ensures,
    )
