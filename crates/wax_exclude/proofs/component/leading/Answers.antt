use Rattle.std.proofs.Common.{◌≡◌, ◌∙◌, ◌<◌, ◌++◌, ◌∷◌, ◌+◌, [], ap, drop, false, rules, subst, sym}
use Rattle.std.proofs.lemmas.List.Elements.{All-get_or}
use Rattle.std.specs.List.{All, before_first, list_any}
use Rattle.wax_components.specs.{Parts.IsComponent, TopLevel.tokens_of}
use Rattle.wax_token.specs.{Cost.costs, Kinds.has_boundary, Words.trees}
use Rattle.wax_exclude.specs.Leading.{leading}
use Rattle.wax_exclude.proofs.{Costs.part_fits, Steps.kept_next}
use Rattle.wax_exclude.proofs.component.leading.Goals as goal

pub compiled_component-requires : goal.compiled_component-requires
compiled_component-requires c =
    let t = c.args.token.now in
    let parts = c.deref-component-items.result.now in
    let part = c.component-item.result in
    let longest : All (IsComponent (tokens_of t)) parts = subst (All (IsComponent (tokens_of t)))
    (sym c.deref-component-items.ensures.value) c.in_ok-components.ensures.longest in
    let here : IsComponent (tokens_of t) part =
    subst (IsComponent (tokens_of t)) (sym c.component-item.is) (All-get_or (IsComponent (tokens_of t)) parts
    c.loop-component.component-index part c.loop-component-test.true longest) in
    subst (λ z. costs (trees z) < 1048576) (sym c.tokens-tokens.ensures) (part_fits t part c.requires here)

pub loop-component-preserved : goal.loop-component-preserved
loop-component-preserved c =
    let part = c.component-item.result in
    let parts = c.deref-component-items.result.now in
    let i = c.loop-component.component-index in
    let old = c.loop-component.leading.items in
    let grown : old ++ part ∷ [] ≡ c.push.new.self.items = search rules in
    let plain : list_any has_boundary part ≡ false = ap (list_any has_boundary) (sym c.tokens-tokens.ensures)
    ∙ sym c.hold_boundary.ensures ∙ c.if-hold_boundary.false in
    subst (λ z. z ++ before_first (list_any has_boundary) (drop (i + 1) parts) ≡ leading c.args.token.now)
    grown
    (kept_next (list_any has_boundary) old parts (leading c.args.token.now) i part c.loop-component-test.true
    c.component-item.is plain c.loop-component.invariant)
