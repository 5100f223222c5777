use Rattle.std.proofs.Common.{◌≡◌, ◌≤◌, ◌*◌, length, sym, ◌∙◌, ap, subst, arith}
use Rattle.wax_token.specs.{Meaning.Means, Syntax.repetition, View.topology_tree, Words.annotation_of}
use Rattle.wax_token.specs.declared.token.Topology.TheVariants.{Branch}
use Rattle.wax_prefilter.specs.Known.{IsLeastLength}
use Rattle.wax_prefilter.proofs.Lengths.{left_more, repeated_length}
use Rattle.wax_prefilter.proofs.least.+least_of.Goals as goal

pub least_of-returns-in-Repetition : goal.least_of-returns-in-Repetition
least_of-returns-in-Repetition t c = λ before after text h.
    let r = c.in-Repetition.r in
    let annotation = annotation_of c.args.token.now in
    let seen : c.args.token.now ≡ repetition annotation r.token.value r.lower r.upper =
    sym c.topology.ensures
    ∙ ap (λ z. topology_tree z annotation) (c.in-Branch.is ∙ ap Branch c.in-Repetition.is) in
    let body : IsLeastLength c.least_of.result (Means r.token.value) =
    subst (λ z. IsLeastLength c.least_of.result (Means z)) c.deref.ensures c.least_of.ensures in
    let m : Means (repetition annotation r.token.value r.lower r.upper) before after text =
    subst (λ z. Means z before after text) seen h in
    let fits : c.least_of.result * r.lower ≤ length text =
    repeated_length (Means r.token.value) c.least_of.result r.lower body m.0 m.1 before after text m.3 in
    omega (arith, fits, c.saturating_mul.ensures)

pub least_of_each-loop-token-preserved : goal.least_of_each-loop-token-preserved
least_of_each-loop-token-preserved t c =
    left_more c.args.tokens.now c.loop-token.token-index c.token-item.result
    c.loop-token.sum c.least_of.result _
    c.loop-token-test.true c.token-item.is c.least_of.ensures (omega (arith, c.saturating_add-sum.ensures))
    c.loop-token.invariant
