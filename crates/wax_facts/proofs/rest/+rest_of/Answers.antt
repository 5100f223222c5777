use Rattle.std.proofs.Common.{◌≡◌, ◌∙◌, sym, rules, length, drop, min, Some, None}
use Rattle.std.proofs.lemmas.Result.{IfOk-weaker}
use Rattle.wax_token.specs.Words.{annotation_of, trees}
use Rattle.wax_facts.specs.inner.Bodies.{IsInside, inside, last_body}
use Rattle.wax_facts.proofs.{Insides.inside_body, RestSteps.{rest_entered, rest_stays}}
use Rattle.wax_facts.proofs.rest.+rest_of.Goals as goal

pub returns-in-Some-into_last_body-clause-rest : goal.returns-in-Some-into_last_body-clause-rest
returns-in-Some-into_last_body-clause-rest t c =
    let l : last_body (trees c.in_ok-tokens.tokens.items) ≡ Some c.in-Some-into_last_body.body =
    sym c.into_last_body.ensures ∙ c.in-Some-into_last_body.is in
    let i : IsInside (trees c.in_ok-tokens.tokens.items) c.args.taken c.in-Some.inside =
    rw c.as_slice.ensures.value at c.in-Some.ensures in
    IfOk-weaker c.rest_of.result _ _ (λ r h. rest_entered c.args.glob c.args.taken
    (trees c.in_ok-tokens.tokens.items) c.in-Some.inside c.in-Some-into_last_body.body r.0.items r.1
    c.in_ok-tokens.ensures i l h) c.rest_of.ensures.rest

pub unreachable-requires : goal.unreachable-requires
unreachable-requires t c =
    let i : IsInside (trees c.in_ok-tokens.tokens.items) c.args.taken c.in-Some.inside =
    rw c.as_slice.ensures.value at c.in-Some.ensures in
    let l = inside_body (trees c.in_ok-tokens.tokens.items) c.args.taken i.0 c.in-Some.inside i.1 in
    let n : last_body (trees c.in_ok-tokens.tokens.items) ≡ None =
    sym c.into_last_body.ensures ∙ c.in-None-into_last_body.is in
    cc

pub returns-clause-rest : goal.returns-clause-rest
returns-clause-rest t c =
    let i : inside (trees c.in_ok-tokens.tokens.items) c.args.taken ≡ None =
    rw c.as_slice.ensures.value at c.in-None.ensures in
    let d : c.in_ok-split_off-in-None.field-0.items ≡ drop
    (min c.args.taken (length c.in_ok-tokens.tokens.items)) c.in_ok-tokens.tokens.items = search rules in
    let s : c.span-span.result ≡ annotation_of c.args.glob = search rules in
    rest_stays c.args.glob c.args.taken c.in_ok-tokens.tokens.items c.in_ok-split_off-in-None.field-0.items
    c.span-span.result c.in_ok-tokens.ensures i d s
