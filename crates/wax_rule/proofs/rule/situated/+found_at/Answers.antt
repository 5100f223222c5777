use Rattle.std.proofs.Common.{rules, subst}
use Rattle.wax_rule.proofs.Rows.{outermost_found, outermost_size}
use Rattle.wax_rule.specs.inner.Queue.{IsOutermost}
use Rattle.wax_token.specs.{Kinds.{is_boundary_leaf, is_zero_or_more_leaf}, Words.annotation_of}
use Rattle.wax_rule.proofs.rule.situated.+found_at.Goals as goal

pub found_at-found_at-requires : goal.found_at-found_at-requires
found_at-found_at-requires t c =
    let ts = c.in-Concatenation.c.tokens.items in
    let last = c.in-Some.outermost.now in
    let is : IsOutermost c.args.end ts last = subst (λ z. IsOutermost c.args.end z last)
    c.as_slice-in-Concatenation.ensures.value c.in-Some.ensures.some in
    let h = outermost_size c.args.end ts last is in search (rules, h)

pub found_at-returns-in-Some-clause-boundary : goal.found_at-returns-in-Some-clause-boundary
found_at-returns-in-Some-clause-boundary t c =
    let ts = c.in-Concatenation.c.tokens.items in
    let last = c.in-Some.outermost.now in
    let is : IsOutermost c.args.end ts last = subst (λ z. IsOutermost c.args.end z last)
    c.as_slice-in-Concatenation.ensures.value c.in-Some.ensures.some in
    let e = outermost_found c.args.end is_boundary_leaf (annotation_of c.args.token.now) ts last is in
    search (rules, e)

pub found_at-returns-in-Some-clause-zero_or_more : goal.found_at-returns-in-Some-clause-zero_or_more
found_at-returns-in-Some-clause-zero_or_more t c =
    let ts = c.in-Concatenation.c.tokens.items in
    let last = c.in-Some.outermost.now in
    let is : IsOutermost c.args.end ts last = subst (λ z. IsOutermost c.args.end z last)
    c.as_slice-in-Concatenation.ensures.value c.in-Some.ensures.some in
    let e = outermost_found c.args.end is_zero_or_more_leaf (annotation_of c.args.token.now) ts last is in
    search (rules, e)
