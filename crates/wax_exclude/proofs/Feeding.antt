-- The feed of a walk with filters is what they leave of the list.
use Rattle.std.proofs.Common.{◌≡◌, ◌∙◌, ℕ, ◌+◌, ◌<◌, ◌≤◌, Bool, true, false, List, [], refl, ap, subst, arith}
use Rattle.std.proofs.lemmas.Bool.{ltb-false}
use Rattle.std.specs.Prelude.{if◌then◌else◌}
use Rattle.wax_directory.specs.Shown.{Shown}
use Rattle.wax_tree.specs.{Programs.any_mark, Begins.{origin_location, scope_in}, Plain.count_shown}
use Rattle.wax_tree.proofs.{InRange.along_yielded, Levelled.levelled_along}
use Rattle.wax_walk.proofs.Leaving.{leaves_list, levelled_opened, opens_list}
use Rattle.wax_walk.specs.{Collected.{Yielded, IsCutShort}, declared.error.FaultKind.TheVariants.Budget}
use Rattle.wax_walk.specs.{Forest.{nothing, preorder}, Given.{Given, fault, no_memory, changed_by, cut_by}}
use Rattle.wax_walk.specs.{Left.{left_of, opened_items}, Pruned.opened_forest}
use Rattle.wax_exclude.proofs.StackingRequests.{stacked_any}
use Rattle.wax_exclude.specs.Feeds.{FeedsByRules, FeedsByWalk, FeedsRuled, feed_of, gives, lacks_memory}
use Rattle.wax_exclude.specs.{Feeds.over_budget, RuledWalks.{RuledWalk, exceeds_range, ruled_pending}}
use Rattle.wax_exclude.specs.{Walked.origin_walk, Wanted.stacked}
use Rattle.wax_walk.specs.Collected as given

pub feeds_by_rules : FeedsByRules
feeds_by_rules rules opening range origin s fits =
    let walk = origin_walk range origin s in
    let level = levelled_along (scope_in range) (origin_location origin) s origin.names in
    ap preorder (stacked_any rules (opened_forest opening walk))
    ∙ (leaves_list (changed_by (any_mark rules)) (cut_by (any_mark rules)) level.0 level.1
    (opened_forest opening walk)
    (levelled_opened opening level.0 level.1 walk level.2)
    ∙ ap (left_of (any_mark rules)) (opens_list opening level.0 level.1 walk level.2
    ∙ ap (opened_items opening)
    (along_yielded range (origin_location origin) s origin.names (omega (arith, fits)))))

pub feeds_by_walk : FeedsByWalk
feeds_by_walk walk s = go (exceeds_range walk) refl where
  go : (b : Bool) → exceeds_range walk ≡ b
      → preorder (if b then nothing
      else stacked walk.rules (opened_forest walk.opening (origin_walk walk.walked walk.origin s)))
      ≡ (if b then [] else feed_of walk.rules walk.opening walk.walked walk.origin s)
  go true e = refl
  go false e = feeds_by_rules walk.rules walk.opening walk.walked walk.origin s (ltb-false _ _ e)

items_shown : (budget shown : ℕ) (b : Bool) → budget + 1 ≤ (if b then 0 else shown) → budget < shown
items_shown budget shown true l = absurd (omega (arith, l))
items_shown budget shown false l = omega (arith, l)

-- what a walk gave is its feed
pub feeds_ruled : (tells : List (List ℕ) → Type 0) (walk : RuledWalk) (s : Shown) (listed : List (List ℕ))
    (xs : List Given) → Yielded tells (walk.walked.budget + 1) (ruled_pending walk s listed) xs
    → FeedsRuled walk s xs
feeds_ruled tells walk s listed xs (given.whole e t) = gives (e ∙ feeds_by_walk walk s)
feeds_ruled tells walk s listed xs (given.lacks_memory c) =
    lacks_memory (subst (λ all. IsCutShort all no_memory xs) (feeds_by_walk walk s) c)
feeds_ruled tells walk s listed xs (given.over_budget path depth few h c) =
    over_budget path depth (items_shown walk.walked.budget (count_shown s) (exceeds_range walk) few)
    (subst (λ all. IsCutShort all (fault Budget path depth) xs) (feeds_by_walk walk s) c)
