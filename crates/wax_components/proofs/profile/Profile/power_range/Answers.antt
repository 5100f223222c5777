use Rattle.std.proofs.Common.{◌∙◌, ◌-◌, ap, sym}
use Rattle.wax_components.specs.{inner.Profiles.{power, power_range, union}, inner.Saturation.saturated}
use Rattle.wax_components.proofs.{Basics.le_to, Saturation.{power_range_closed, power_range_open}}
use Rattle.wax_components.proofs.profile.Profile.power_range.Goals as goal

pub returns-then-lower-upper : goal.returns-then-lower-upper
returns-then-lower-upper c =
    c.then-then-lower-upper.ensures
    ∙ power_range_closed c.args.self c.power-least.result c.power.result c.args.lower c.in-Some.upper
    (le_to c.args.lower c.in-Some.upper c.if-lower-upper.true) c.power-least.ensures
    (c.power.ensures ∙ ap (λ z. saturated (power (c.in-Some.upper - c.args.lower) z))
    (c.union-one.ensures ∙ ap (λ z. union z c.args.self) c.empty_text.ensures))
    ∙ ap (λ z. saturated (power_range c.args.lower z c.args.self)) (sym c.in-Some.is)

pub returns-in-None : goal.returns-in-None
returns-in-None c =
    c.then.ensures
    ∙ power_range_open c.args.self c.power-least.result c.kleene_star.result c.args.lower
    c.power-least.ensures c.kleene_star.ensures
    ∙ ap (λ z. saturated (power_range c.args.lower z c.args.self)) (sym c.in-None.is)
