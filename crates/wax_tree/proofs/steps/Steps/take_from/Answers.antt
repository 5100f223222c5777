use Rattle.std.proofs.Common.{arith, ap, inl, refl, ◌≡◌, ◌≤◌, ◌+◌, ◌∙◌, cond, length-append, length, ◌-◌, []}
use Rattle.std.proofs.Common.{◌∷◌, inr, subst}
use Rattle.wax_directory.specs.{Answers.listed_of, Counting.item_counts, Shown.rest_of, History.listed}
use Rattle.wax_tree.specs.{inner.Heads.own_count, Plain.count}
use Rattle.wax_tree.specs.Walking.{scope_of, located, allowance, begins, names_left, LevelsCome}
use Rattle.wax_tree.specs.Reaching.{IsOf, OfAny, OneFolder, ReachesFrom}
use Rattle.wax_tree.proofs.{Finding.{taken_uses_answer, item_lost}, Resting.{rest_pushed, rest_spent}}
use Rattle.wax_tree.proofs.UsingAnswers.{stops_over, step_from, memory_uses_answer, none_begins}
use Rattle.wax_tree.proofs.{UsingAnswers.stopped_uses_answer, Showing.{headed_is, count_rest}}
use Rattle.wax_tree.proofs.Stepping.{saves_after}
use Rattle.wax_tree.proofs.Reaching.{leads_here, places_more, pushed_reaches, stopped_places}
use Rattle.wax_tree.proofs.Coursing.{levels_last, memory_uses, some_taken, uses_more}
use Rattle.wax_walk.specs.{declared.error.FaultKind.TheVariants.Budget, Course.call, Given.fault}
use Rattle.wax_tree.proofs.steps.Steps.take_from.Goals as goal

pub returns-then-self-eq0-clause-lists : goal.returns-then-self-eq0-clause-lists
returns-then-self-eq0-clause-lists g c l rest items h b i e =
    let w = c.args.self.now in
    let none : w.budget ≡ 0 = c.if-self-eq0.true in
    let allowed : allowance w ≡ w.budget + 1 = ap (λ v. cond v 0 (w.budget + 1)) b.rests.running in
    let one = count_rest (listed_of c.args.item) l h in
    stops_over g.D.Directory.law w c.stop.new.self _ c.args.folder.path.path _ c.stop.result
    c.stop.ensures.gives (omega (arith, none, allowed, one, e)) b.opened

pub returns-clause-uses_answer : goal.returns-clause-uses_answer
returns-clause-uses_answer g c running first =
    let w = c.args.self.now in
    let none : w.budget ≡ 0 → ⊥ = c.if-self-eq0.false in
    let mid = record w { levels = c.push.new.self; budget = w.budget - 1 } in
    let allowed : allowance w ≡ w.budget + 1 = ap (λ v. cond v 0 (w.budget + 1)) running in
    let allowed_then : allowance mid ≡ w.budget - 1 + 1 = ap (λ v. cond v 0 (w.budget - 1 + 1)) running in
    taken_uses_answer (item_counts c.args.item) (names_left w) (begins w + 1) w c.push.new.self (w.budget - 1)
    c.give_found.new.self c.give_found.result (omega (arith, none, allowed, allowed_then))
    (omega (arith, allowed_then))
    (c.give_found.ensures.uses_answer (located c.args.folder) c.args.item
    c.in-Ok.ensures)

pub returns-clause-lists : goal.returns-clause-lists
returns-clause-lists g c l rest items h b i e =
    let law = g.D.Directory.law in
    let w = c.args.self.now in
    let none : w.budget ≡ 0 → ⊥ = c.if-self-eq0.false in
    let pushed = record w { levels = c.push.new.self } in
    let mid = record w { levels = c.push.new.self; budget = w.budget - 1 } in
    let one = count_rest (listed_of c.args.item) l h in
    let running = b.rests.running in
    let allowed : allowance w ≡ w.budget + 1 = ap (λ v. cond v 0 (w.budget + 1)) running in
    let allowed_then : allowance mid ≡ w.budget - 1 + 1 = ap (λ v. cond v 0 (w.budget - 1 + 1)) running in
    let at_rest = rest_spent law pushed (w.budget - 1) _
    (rest_pushed law w pushed (record { folder = c.args.folder; cursor = c.args.cursor }) (rest_of l) rest
    b.rests b.held b.shown b.opened c.in-Ok-push.ensures.items) in
    let few : own_count l + (rest.count + count (rest_of l)) ≤ items - 1 = omega (arith, one, e) in
    let st = c.give_found.ensures.continues (located c.args.folder) c.args.item l
    c.in-Ok.ensures refl h i
    _ (items - 1) at_rest few in
    step_from law w mid c.give_found.new.self _ _ c.give_found.result
    (headed_is (scope_of w) (located c.args.folder) (listed_of c.args.item) l rest.forest h) refl
    (omega (arith, none, allowed, allowed_then, one, e)) st

pub returns-clause-measure : goal.returns-clause-measure
returns-clause-measure g c e n =
    let none : c.args.self.now.budget ≡ 0 → ⊥ = c.if-self-eq0.false in
    let mid = record c.args.self.now { levels = c.push.new.self; budget = c.args.self.now.budget - 1 } in
    let long = ap length c.in-Ok-push.ensures.items ∙ length-append c.args.self.now.levels.items _ in
    saves_after c.args.self.now mid c.give_found.new.self c.give_found.result (omega arith)
    (omega (arith, long)) (c.give_found.ensures.measure e)

pub returns-then-self-eq0-clause-places : goal.returns-then-self-eq0-clause-places
returns-then-self-eq0-clause-places g c none =
    let w = c.args.self.now in
    let folder = c.args.folder in
    let of = ReachesFrom w (IsOf folder) in
    stopped_places of of w.max w c.stop.new.self c.stop.result Budget folder.path.path
    c.saturating_sub-depth.result folder.depth c.stop.ensures.gives c.stop.ensures.ended
    c.saturating_sub-depth.ensures (leads_here w.min (OfAny w (IsOf folder)) _ _ (inl (refl, refl)))

pub returns-clause-places : goal.returns-clause-places
returns-clause-places g c none =
    let w = c.args.self.now in
    let folder = c.args.folder in
    let of = ReachesFrom w (IsOf folder) in
    let mid = record w { levels = c.push.new.self; budget = w.budget - 1 } in
    let one = OneFolder folder.path.path folder.depth in
    let pushed = pushed_reaches w mid (record { folder = folder; cursor = c.args.cursor }) one refl refl
    c.in-Ok-push.ensures.items (λ p n i. i) in
    places_more (ReachesFrom mid one) of (ReachesFrom mid one) of w.max c.give_found.result
    c.give_found.new.self pushed
    pushed (c.give_found.ensures.places none (located folder) c.args.item
    c.in-Ok.ensures refl)

pub returns-then-self-eq0-clause-uses_answer : goal.returns-then-self-eq0-clause-uses_answer
returns-then-self-eq0-clause-uses_answer g c running first =
    let w = c.args.self.now in
    let none : w.budget ≡ 0 = c.if-self-eq0.true in
    let allowed : allowance w ≡ w.budget + 1 = ap (λ v. cond v 0 (w.budget + 1)) running in
    let begun : begins w ≡ 0 = none_begins w first in
    stopped_uses_answer _ w c.stop.new.self c.stop.result
    (fault Budget c.args.folder.path.path c.saturating_sub-depth.result) c.stop.ensures.gives
    c.stop.ensures.ended (item_lost c.args.item) tt (omega (arith, begun))
    (omega (arith, none, allowed), refl)
    (λ i. absurd i) (omega arith)

pub returns-in_default-clause-uses_answer : goal.returns-in_default-clause-uses_answer
returns-in_default-clause-uses_answer g c running first =
    let w = c.args.self.now in
    let e = c.fail.ensures.ended in
    let allowed : allowance w ≡ w.budget + 1 = ap (λ v. cond v 0 (w.budget + 1)) running in
    let few : names_left c.fail.new.self ≡ names_left w = ap names_left e in
    memory_uses_answer _ w c.fail.new.self c.fail.result c.fail.ensures.memory (ap (λ v. v.directory) e)
    (ap (λ v. v.has_ended) e) (omega (arith, few)) (item_lost c.args.item) (omega (arith, allowed))

pub returns-in_default-push-clause-uses_answer : goal.returns-in_default-push-clause-uses_answer
returns-in_default-push-clause-uses_answer g c running first =
    let w = c.args.self.now in
    let e = c.fail-in_default-push.ensures.ended in
    let allowed : allowance w ≡ w.budget + 1 = ap (λ v. cond v 0 (w.budget + 1)) running in
    let few : names_left c.fail-in_default-push.new.self ≡ names_left w = ap names_left e in
    memory_uses_answer _ w c.fail-in_default-push.new.self c.fail-in_default-push.result
    c.fail-in_default-push.ensures.memory (ap (λ v. v.directory) e) (ap (λ v. v.has_ended) e)
    (omega (arith, few)) (item_lost c.args.item) (omega (arith, allowed))

pub returns-then-self-eq0-clause-course : goal.returns-then-self-eq0-clause-course
returns-then-self-eq0-clause-course g c going first entered = record {
  some = some_taken c.args.self.now c.args.folder c.args.item;
  follows = inr (
    fault Budget c.args.folder.path.path c.saturating_sub-depth.result,
    c.stop.ensures.gives,
    ([], listed_of c.args.item, refl),
    ap (λ v. v.has_ended) c.stop.ensures.ended,
  );
}

pub returns-in_default-clause-course : goal.returns-in_default-clause-course
returns-in_default-clause-course g c going first entered =
    let path = c.args.folder.path.path in
    memory_uses (call path (listed (listed_of c.args.item)) ∷ []) _ c.fail.result c.fail.new.self
    (some_taken c.args.self.now c.args.folder c.args.item) c.fail.ensures.memory
    (ap (λ v. v.has_ended) c.fail.ensures.ended)

pub returns-in_default-push-clause-course : goal.returns-in_default-push-clause-course
returns-in_default-push-clause-course g c going first entered =
    let path = c.args.folder.path.path in
    memory_uses (call path (listed (listed_of c.args.item)) ∷ []) _ c.fail-in_default-push.result
    c.fail-in_default-push.new.self (some_taken c.args.self.now c.args.folder c.args.item)
    c.fail-in_default-push.ensures.memory (ap (λ v. v.has_ended) c.fail-in_default-push.ensures.ended)

pub returns-clause-course : goal.returns-clause-course
returns-clause-course g c going first entered =
    let w = c.args.self.now in
    let path = c.args.folder.path.path in
    uses_more (call path (listed (listed_of c.args.item)) ∷ []) _ _ c.give_found.result c.give_found.new.self
    (λ d h.
    let p = levels_last (scope_of w) w.levels.items
    (record { folder = c.args.folder; cursor = c.args.cursor }) h.0
    (subst (λ ls. LevelsCome (scope_of w) ls h.0) c.in-Ok-push.ensures.items h.1) in
    (p.0, p.1, (h.0, p.2, h.2)))
    (c.give_found.ensures.course going first entered (located c.args.folder) c.args.item
    c.in-Ok.ensures refl)
