use Rattle.std.proofs.Common.{◌≡◌, ◌∙◌, ◌+◌, ◌-◌, ◌<◌, get_or, length, ap, sym, arith}
use Rattle.wax_prefilter.specs.inner.Pairs.{lowered}
use Rattle.wax_prefilter.proofs.Lowered.{get_lowered, length_lowered}
use Rattle.wax_prefilter.proofs.pair.Pair.rarest_of.Goals as goal

pub returns : goal.returns
returns c =
    let bytes = c.args.bytes.now in
    let in_any_case = c.args.in_any_case in
    let at = c.min-at.result in
    let end = c.max-end.result in
    let rarest = c.rarest_but-rarest.ensures in
    let other = c.rarest_but-other.ensures in
    let low = c.min-at.ensures in
    let high = c.max-end.ensures in
    let inside : end < length bytes = omega (arith, rarest.inside, other.inside, high) in
    let sum : at + (end - at) ≡ end = omega (arith, low, high) in
    record {
      inside = omega (arith, inside, sum, length_lowered in_any_case bytes);
      first = get_lowered in_any_case bytes at (omega (arith, inside, low, high)) ∙ sym c.in_case.ensures;
      last = ap (λ k. get_or (lowered in_any_case bytes) k 0) sum ∙ get_lowered in_any_case bytes end inside
          ∙ sym c.in_case-2.ensures;
    }
