use Rattle.std.proofs.{Common.{◌≡◌, ◌<◌, ◌^◌, length, get_or, arith}, lemmas.List.get_or_read}
use Rattle.wax_program.proofs.BitFlags.{first_has, first_least, none_from}
use Rattle.wax_program.proofs.bits.set.Set.first_from.Goals as goal

pub overflow_mul-result : goal.overflow_mul-result
overflow_mul-result c = omega (arith, c.self.invariant, c.self.inside.words.ok.0, c.len-index-end.ensures)

pub returns-then-bits-ne0 : goal.returns-then-bits-ne0
returns-then-bits-ne0 c =
    let words = c.self.inside.words.items in
    let within : c.loop-index.index < length words =
    omega (arith, c.len-index-end.ensures, c.self.inside.words.ok.0) in
    let read : c.index-bits.result.now ≡ get_or words c.loop-index.index 0 =
    get_or_read words c.loop-index.index _ within c.index-bits.ensures 0 in
    let small : c.index-bits.result.now < 2 ^ 64 = omega arith in
    rw (← c.self.view_is) (
      first_has words c.args.word c.loop-index.index c.index-bits.result.now c.loop-index.auto.index within
          read small c.if-bits-ne0.true c.loop-index.invariant,
      omega (arith, c.loop-index.auto.index),
      first_least words c.args.word c.loop-index.index c.index-bits.result.now c.loop-index.auto.index within
          read small c.if-bits-ne0.true c.loop-index.invariant,
    )

pub returns : goal.returns
returns c =
    let words = c.self.inside.words.items in
    rw (← c.self.view_is) (none_from words c.args.word (λ j from h. c.loop-index.invariant j from
    (omega (arith, h, c.loop-index-test.false, c.len-index-end.ensures, c.self.inside.words.ok.0))))
