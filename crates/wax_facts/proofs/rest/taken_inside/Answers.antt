use Rattle.std.proofs.Common.{◌≡◌, ◌∙◌, ◌-◌, ◌<◌, ◌≤◌, ◌||◌, nat_lt, length, ap, sym, subst, true, false}
use Rattle.std.proofs.Common.{rules, Some, None, MatchOption}
use Rattle.wax_token.specs.Words.{trees}
use Rattle.wax_facts.specs.{Prefix.opened, Rest.begins_with_tree}
use Rattle.wax_facts.specs.inner.Bodies.{IsInside, entered_body, inside, open_body}
use Rattle.wax_facts.proofs.Insides.{entered_no, entered_yes, inside_before, inside_last}
use Rattle.wax_facts.proofs.rest.taken_inside.Goals as goal

pub returns-in_err-inside : goal.returns-in_err-inside
returns-in_err-inside c =
    let r : c.from_residual-in_err-inside.result ≡ None = search rules in
    let lt : c.args.taken < length c.in_ok-last.before.now = search rules in
    subst (λ z. MatchOption z (inside (trees c.args.tokens.now) c.args.taken ≡ None)
    (λ k. IsInside (trees c.args.tokens.now) c.args.taken k)) (sym r)
    (inside_before c.args.tokens.now c.in_ok-last.before.now c.in_ok-last.last.now c.args.taken
    c.in_ok-last.ensures.cases.0 lt)

pub returns-in_err-open_body : goal.returns-in_err-open_body
returns-in_err-open_body c =
    let r : c.from_residual-in_err-open_body.result ≡ None = search rules in
    let le : length c.in_ok-last.before.now ≤ c.args.taken = search rules in
    let o : open_body c.in_ok-last.last.now ≡ None = search rules in
    subst (λ z. MatchOption z (inside (trees c.args.tokens.now) c.args.taken ≡ None)
    (λ k. IsInside (trees c.args.tokens.now) c.args.taken k)) (sym r)
    (inside_last c.args.tokens.now c.in_ok-last.before.now c.in_ok-last.last.now c.args.taken
    c.in_ok-last.ensures.cases.0 le
    ∙ ap (entered_body (c.args.taken - length c.in_ok-last.before.now)) o)

pub returns-then-rest_begins_inside : goal.returns-then-rest_begins_inside
returns-then-rest_begins_inside c =
    let body = c.in_ok-open_body.field-0.now in
    let le : length c.in_ok-last.before.now ≤ c.args.taken = search rules in
    let k : c.in_ok-inside.inside ≡ c.args.taken - length c.in_ok-last.before.now = search rules in
    let o : open_body c.in_ok-last.last.now ≡ Some body = search rules in
    let e : (nat_lt 0 c.in_ok-inside.inside || begins_with_tree (opened body)) ≡ true = search rules in (
      body,
      inside_last c.args.tokens.now c.in_ok-last.before.now c.in_ok-last.last.now c.args.taken
          c.in_ok-last.ensures.cases.0 le
          ∙ ap (λ z. entered_body z (open_body c.in_ok-last.last.now)) (sym k)
          ∙ ap (entered_body c.in_ok-inside.inside) o ∙ entered_yes c.in_ok-inside.inside body e,
    )

pub returns : goal.returns
returns c =
    let body = c.in_ok-open_body.field-0.now in
    let le : length c.in_ok-last.before.now ≤ c.args.taken = search rules in
    let k : c.in_ok-inside.inside ≡ c.args.taken - length c.in_ok-last.before.now = search rules in
    let o : open_body c.in_ok-last.last.now ≡ Some body = search rules in
    let e : (nat_lt 0 c.in_ok-inside.inside || begins_with_tree (opened body)) ≡ false = search rules in
    inside_last c.args.tokens.now c.in_ok-last.before.now c.in_ok-last.last.now c.args.taken
    c.in_ok-last.ensures.cases.0 le
    ∙ ap (λ z. entered_body z (open_body c.in_ok-last.last.now)) (sym k)
    ∙ ap (entered_body c.in_ok-inside.inside) o ∙ entered_no c.in_ok-inside.inside body e
