use Rattle.std.proofs.Common.{◌≡◌, ◌-◌, inl, inr, length, slice_get, Some, subst, sym, rules, IfOk, IfSome}
use Rattle.std.proofs.{lemmas.Option.IfSome_then, lemmas.Result.IfOk-weaker}
use Rattle.wax_prefilter.proofs.{Holding.{any_left, any_right, last_holds, one_holds}, MeantEdges.next_branch}
use Rattle.wax_prefilter.specs.{Facts.{ContainsAt, ContainsOne}, Known.EachContainsOne}
use Rattle.wax_token.specs.{Meaning.{Means, MeansEach}, Words.trees}
use Rattle.wax_prefilter.proofs.facts.+needles_of.Goals as goal

pub needles_of_any-returns-then-is_some : goal.needles_of_any-returns-then-is_some
needles_of_any-returns-then-is_some t c =
    IfSome_then c.in_ok-needles.needles c.in_ok-needles.ensures
    (λ v h. one_holds c.args.tokens.now c.loop-token.token-index c.token-item.result v.items
    c.loop-token-test.true c.token-item.is h)

pub needles_of_each-returns-in-Some-last : goal.needles_of_each-returns-in-Some-last
needles_of_each-returns-in-Some-last t c =
    let tokens = c.args.tokens.now in
    let e : slice_get tokens (length tokens - 1) ≡ Some c.in-Some-last.token.now = search rules in
    subst (λ anchor. IfOk c.needles_of-in-Some-last.result (λ known.
    IfSome known (λ v. EachContainsOne anchor v.items (MeansEach (trees tokens))))) (sym c.in-End.is)
    (IfOk-weaker c.needles_of-in-Some-last.result _ _
    (λ known k. IfSome_then known k (λ v h. last_holds tokens c.in-Some-last.token.now v.items e h))
    c.needles_of-in-Some-last.ensures)

pub needles_of_some-loop-token-preserved : goal.needles_of_some-loop-token-preserved
needles_of_some-loop-token-preserved t c = λ before after text alone h.
    let known : EachContainsOne c.args.anchor c.in-Some.needles.items (Means c.token-item.result) =
    subst (λ o. IfSome o (λ v. EachContainsOne c.args.anchor v.items (Means c.token-item.result)))
    c.in-Some.is c.in_ok-needles.ensures in
    let more = c.in_ok-append.ensures.items in
    elim (c.loop-token.invariant before after text alone h) [
      | inl found ↦ inl (subst (λ z. ContainsOne c.args.anchor z text) (sym more)
          (any_left (λ held. ContainsAt c.args.anchor held text) _ _ found))
      | inr later ↦ elim (next_branch c.args.tokens.now c.loop-token.token-index c.token-item.result
          c.loop-token-test.true c.token-item.is before after text later) [
            | inl meant ↦ inl (subst (λ z. ContainsOne c.args.anchor z text) (sym more)
                (any_right (λ held. ContainsAt c.args.anchor held text) _ _
                (known before after text alone meant)))
            | inr rest ↦ inr rest
          ]
    ]
