use Rattle.std.proofs.Common.{◌≡◌, ◌∙◌, ◌∷◌, List, ℕ, [], ap, length, map, refl, sym}
use Rattle.std.proofs.{lemmas.Iterator.YieldsList-from_chars, lemmas.Iterator.Consumers.YieldsList-end}
use Rattle.std.specs.Str.{chars}
use Rattle.wax_query.specs.Components.{slashes}
use Rattle.wax_components.specs.{inner.Profiles.single, inner.Saturation.saturated, inner.Shapes.shape}
use Rattle.wax_components.proofs.depth_of.text_profile.Goals as goal

map_same : (xs : List ℕ) → map (λ x. x) xs ≡ xs
map_same [] = refl
map_same (x ∷ xs) = ap (λ z. x ∷ z) (map_same xs)

pub returns : goal.returns
returns c =
    let t : (map (λ x. x) c.loop-c.yielded ≡ chars c.args.text.now)
    × (length c.loop-c.yielded ≡ length (chars c.args.text.now)) =
    YieldsList-end (YieldsList-from_chars c.args.text.now c.utf8.text cc) c.loop-c.yielded _
    c.loop-c.yielded_by _ _ c.in-None.is c.next.ensures.steps in
    c.loop-c.invariant
    ∙ ap (λ z. saturated (single (shape z) (slashes z))) (sym (map_same c.loop-c.yielded) ∙ t.0)
