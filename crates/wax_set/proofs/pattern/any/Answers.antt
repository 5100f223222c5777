use Rattle.std.proofs.{Common.{◌≡◌, ◌<◌, ◌∙◌, ap, inr, rules}, lemmas.List.map-id}
use Rattle.wax_token.specs.{Cost.program_length, Syntax.alternation, Words.trees}
use Rattle.wax_set.proofs.Patterns.{are_oversized, is_any_of}
use Rattle.wax_set.proofs.pattern.any.Goals as goal

pub compiled-requires : goal.compiled-requires
compiled-requires g c = (
  trees c.in_ok-tokens.tokens.items,
  c.in_ok-token.ensures ∙ ap (λ ts. alternation (0, 0) (trees ts)) (map-id c.in_ok-tokens.tokens.items),
)

pub returns-in-Ok : goal.returns-in-Ok
returns-in-Ok g c =
    let ts = c.in_ok-tokens.tokens.items in
    let is : c.in_ok-token.token ≡ alternation (0, 0) (trees ts) =
    c.in_ok-token.ensures ∙ ap (λ ts. alternation (0, 0) (trees ts)) (map-id ts) in
    is_any_of g.P.Pattern.spells c.args.patterns.items ts c.in-Ok.any c.in_ok-tokens.ensures
    (c.in-Ok.ensures.same ∙ is) c.in-Ok.ensures.fits

pub returns-in-Err-Refused : goal.returns-in-Err-Refused
returns-in-Err-Refused g c =
    let ts = c.in_ok-tokens.tokens.items in
    let is : c.in_ok-token.token ≡ alternation (0, 0) (trees ts) =
    c.in_ok-token.ensures ∙ ap (λ ts. alternation (0, 0) (trees ts)) (map-id ts) in
    let large : 1048576 < program_length c.in_ok-token.token = search rules in
    inr (are_oversized g.P.Pattern.spells c.args.patterns.items ts c.in_ok-token.token
    c.in_ok-tokens.ensures is large)
