-- The first line of the rest is counted, and then what is left of it.
use Rattle.std.proofs.{Common.{arith, length, subst, take, drop, ◌<◌, ◌+◌, ap, ◌∙◌}, lemmas.List.length-drop}
use Rattle.wax_c.specs.NotText.{IsNotText}
use Rattle.wax_c.proofs.NotText.{all_counted, more_counted}
use Rattle.wax_c.proofs.not_text.count_not_text.Goals as goal

pub loop-rest-preserved : goal.loop-rest-preserved
loop-rest-preserved c =
    let rest = c.loop-rest.rest.now in
    let one = c.one_if_not_text-count in
    let at = c.line_length-length in
    let some : 0 < length rest = grind (arith, c.loop-rest-test.true, c.is_empty.ensures) in record {
      before = more_counted c.args.input.now rest c.after_line-rest.result.now c.loop-rest.count one.result
          some (subst (λ n. IsNotText (take n rest) one.result) at.ensures one.ensures.counts)
          (c.after_line-rest.ensures ∙ ap (λ n. drop (n + 1) rest) at.ensures) c.loop-rest.invariant.before;
      within = omega (
        arith,
        some,
        one.ensures.few,
        c.loop-rest.invariant.within,
        ap length c.after_line-rest.ensures,
        length-drop (at.result + 1) rest,
      );
    }

pub returns : goal.returns
returns c =
    all_counted c.args.input.now c.loop-rest.rest.now c.loop-rest.count
    (grind (arith, c.loop-rest-test.false, c.is_empty.ensures)) c.loop-rest.invariant.before
