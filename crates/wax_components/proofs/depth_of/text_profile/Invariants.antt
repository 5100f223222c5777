use Rattle.std.proofs.Common.{◌≡◌}
use Rattle.wax_query.specs.Components.{slashes}
use Rattle.wax_components.specs.{inner.Profiles.single, inner.Saturation.saturated, inner.Shapes.shape}
use Rattle.wax_components.proofs.depth_of.text_profile.Given as goal

abbrev pub invariant-loop-c : goal.invariant-loop-c
invariant-loop-c l = saturated l.profile ≡ saturated (single (shape l.yielded) (slashes l.yielded))
