use Rattle.std.proofs.Common.{List, ℕ, chars, sym, subst}
use Rattle.std.specs.{Option.IfSome, Str.IsUtf8}
use Rattle.wax_prefilter.specs.{Facts.ContainsOne, inner.Pairs.{ArePairsOf, LineHasOne}}
use Rattle.wax_prefilter.proofs.prefilter.fewest_pairs.Goals.{in-Some-fewest, in_default-fewest}
use Rattle.wax_prefilter.proofs.prefilter.fewest_pairs.Goals as goal

pub loop-fact-preserved : goal.loop-fact-preserved
loop-fact-preserved c =
    let facts = c.args.facts.now in
    let fact = c.fact-item.result in
    let of_fact : (text : List ℕ) → IsUtf8 text → ContainsOne fact.0 fact.1 (chars text)
    → LineHasOne c.in-Some.pairs.in_any_case c.in-Some.pairs.list.items text =
    subst (λ known. IfSome known (λ pairs. (text : List ℕ) → IsUtf8 text → ContainsOne fact.0 fact.1
    (chars text) → LineHasOne pairs.in_any_case pairs.list.items text)) c.in-Some.is c.in_ok-pairs.ensures in
    let known : ArePairsOf facts c.in-Some.pairs = λ text utf8 holds.
    of_fact text utf8 (subst (λ f. ContainsOne f.0 f.1 (chars text)) (sym c.fact-item.is)
    (holds c.loop-fact.fact-index fact c.loop-fact-test.true)) in
    elim c.match-fewest-2.branch [
      | in-Some-fewest w ↦ subst (λ f. IfSome f (ArePairsOf facts))
          (sym w.fewest-is) c.loop-fact.invariant
      | in_default-fewest w ↦
          subst (λ f. IfSome f (ArePairsOf facts)) (sym w.fewest-is) known
    ]
