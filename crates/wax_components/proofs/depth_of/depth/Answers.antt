use Rattle.std.proofs.Common.{◌≡◌, false, subst, sym}
use Rattle.wax_query.specs.Ranges.{bounds}
use Rattle.wax_components.specs.Depth.{SaturatedDepth}
use Rattle.wax_components.proofs.{Exactness.exact_depth, Thinning.depth_bounds}
use Rattle.wax_components.proofs.Words.{saturated_bounds_of, saturated_depth_of, saturated_in_order}
use Rattle.wax_components.proofs.depth_of.depth.Goals as goal

pub returns-clause-saturated_depth : goal.returns-clause-saturated_depth
returns-clause-saturated_depth g c =
    let found : SaturatedDepth c.args.token.now c.components-least.result =
    saturated_depth_of c.args.token.now c.token_profiles.result.alone (c.token_profiles.ensures false false)
    c.components-least.result c.components-least.ensures in
    let same : bounds c.from_closed_and_open.result ≡ c.components-least.result =
    c.from_closed_and_open.ensures.in_order
    (saturated_in_order c.args.token.now c.components-least.result found) in
    subst (SaturatedDepth c.args.token.now) (sym same) found

pub returns-clause-saturated_bounds : goal.returns-clause-saturated_bounds
returns-clause-saturated_bounds g c = saturated_bounds_of c.args.token.now
    (bounds c.from_closed_and_open.result) (returns-clause-saturated_depth g c)

pub returns-clause-depth : goal.returns-clause-depth
returns-clause-depth g c cheap = exact_depth c.args.token.now (bounds c.from_closed_and_open.result) cheap
    (returns-clause-saturated_depth g c)

pub returns-clause-bounds : goal.returns-clause-bounds
returns-clause-bounds g c cheap =
    depth_bounds c.args.token.now (bounds c.from_closed_and_open.result) (returns-clause-depth g c cheap)
