use Rattle.std.proofs.Common.{◌≡◌, ◌+◌, ◌-◌, ◌<◌, ◌≤◌, ◌∷◌, length, arith, ap, rules, ◌∙◌}
use Rattle.std.proofs.lemmas.List.Sorted.{length_permutation}
use Rattle.wax_match.proofs.{Joining.{begun_kept, begun_more, first_led}, LeftCosts.{all_fit, begun_fits}}
use Rattle.wax_match.proofs.SharedEnds.{ends_stay, written_stay}
use Rattle.wax_match.specs.inner.LeadCode.{lead_code}
use Rattle.wax_program.specs.declared.instruction.Instruction.TheVariants.{Fork}
use Rattle.wax_match.proofs.encode.tail.Tail.+put_lefts.Goals as goal

pub put_first-returns-then-most-eq0-clause-kept : goal.put_first-returns-then-most-eq0-clause-kept
put_first-returns-then-most-eq0-clause-kept t c =
    written_stay c.args.self.now c.put_apart.new.self c.args.ends.now
    c.in_ok-put_apart.ensures.written c.requires.kept

pub put_first-put_lefts-requires : goal.put_first-put_lefts-requires
put_first-put_lefts-requires t c =
    let some : 1 ≤ length c.in_ok-led.led.items = c.in_ok-led.ensures.some in
    let same : length c.sorted-led.result.items ≡ length c.in_ok-led.led.items =
    length_permutation c.in_ok-led.led.items c.sorted-led.result.items c.sorted-led.ensures in (
      omega (arith, c.decreases, c.if-most-eq0.false),
      (omega (arith, ap length c.deref.ensures.value, same, some), c.requires.kept),
    )

pub put_first-returns-clause-written : goal.put_first-returns-clause-written
put_first-returns-clause-written t c =
    let n : c.len.result ≡ length c.in_ok-led.led.items = search rules in
    first_led c.in-Some.lead c.args.lefts.now c.in_ok-led.led.items c.sorted-led.result.items c.args.start _
    c.args.self.now c.put_lefts.new.self c.put_lead.new.self
    c.in_ok-led.ensures (ap (λ n. c.args.start + n) n) c.sorted-led.ensures c.in_ok-put_lead.ensures
    (rw c.deref.ensures.value at c.in_ok-put_lefts.ensures.written)

pub put_first-returns-clause-kept : goal.put_first-returns-clause-kept
put_first-returns-clause-kept t c =
    ends_stay c.put_lefts.new.self c.put_lead.new.self (lead_code c.in-Some.lead) c.in_ok-put_lead.ensures
    c.put_lefts.new.ends c.in_ok-put_lefts.ensures.kept

pub put_lefts-loop-start-preserved : goal.put_lefts-loop-start-preserved
put_lefts-loop-start-preserved t c =
    let ls = c.args.lefts.now in
    let mid = c.loop-start.self in
    let last = c.put_first.new.self in
    let new = c.put_beside.new.self in
    let put = c.in_ok-next.ensures in
    let joined = c.in_ok-put_beside.ensures in
    let beside : 0 < c.loop-start.start → new ≡ Fork (length last - length mid) ∷ last =
    λ some. joined.beside some ∙ ap (λ n. Fork (length last - n) ∷ last) c.len-before.ensures in
    record {
      within = put.next.1;
      fits = begun_fits ls c.loop-start.start c.in_ok-next.next c.args.self.now mid last new joined.first
          beside put.cost c.loop-start.invariant.fits put.next.0;
      begun = begun_more ls c.loop-start.start c.in_ok-next.next c.args.self.now mid last new joined.first
          beside put.next.0 c.loop-start.invariant.begun put.written;
      kept = begun_kept ls c.loop-start.start c.in_ok-next.next c.args.self.now mid last new joined.first
          beside c.put_first.new.ends put.kept;
    }

pub put_lefts-returns-clause-cost : goal.put_lefts-returns-clause-cost
put_lefts-returns-clause-cost t c =
    all_fit c.args.lefts.now c.loop-start.start c.args.self.now c.loop-start.self
    c.requires.some c.loop-start-test.false c.loop-start.invariant.fits
