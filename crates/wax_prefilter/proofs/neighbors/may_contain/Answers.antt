use Rattle.std.proofs.Common.{◌≡◌, ◌+◌, ◌-◌, ◌∙◌, ap, arith, false, slice_index, sym, true, get_or}
use Rattle.std.proofs.lemmas.Bool.{false≢true}
use Rattle.wax_prefilter.proofs.NeighborNumbers.{neighbors_within, number_at}
use Rattle.wax_prefilter.specs.inner.Neighbors.{neighbors_number}
use Rattle.wax_prefilter.proofs.neighbors.may_contain.Goals as goal

pub returns-then-not-neighbors-number_of : goal.returns-then-not-neighbors-number_of
returns-then-not-neighbors-number_of c = λ text x z are e.
    let held = c.args.held.now in
    let flags = c.args.neighbors.now in
    let position = c.loop-position.position in
    let before : (position - 1) + 1 ≡ position = omega (arith, c.loop-position.auto.position) in
    let number : number_at held (position - 1) ≡ c.number_of.result =
    ap (λ i. neighbors_number (slice_index held (position - 1)) (slice_index held i)) before
    ∙ sym c.number_of.ensures.number in
    let seen : get_or flags (number_at held (position - 1)) false ≡ true =
    neighbors_within text x held z flags (position - 1) e are
    (omega (arith, before, c.loop-position-test.true)) in
    absurd (false≢true (sym c.if-not-neighbors-number_of.true
    ∙ ap (λ n. get_or flags n false) (sym number) ∙ seen))
