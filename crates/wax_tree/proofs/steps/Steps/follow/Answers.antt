use Rattle.std.proofs.Common.{rules, true, false, ◌≡◌, ◌+◌, ◌<◌, ◌∷◌, [], length, arith, ap, sym, subst, ◌∙◌}
use Rattle.std.proofs.Common.{string_bytes, length-append, inl, refl, cond}
use Rattle.std.specs.Prelude.{Some}
use Rattle.wax_directory.specs.declared.directory.FileType.TheVariants.{Folder}
use Rattle.wax_walk.specs.{declared.error.FaultKind.TheVariants.NotAFolder, Forest.{pending, nothing}}
use Rattle.wax_walk.specs.Given.{Facts, fault}
use Rattle.wax_tree.specs.Prefix.{from_last, walk_from}
use Rattle.wax_tree.specs.Stepping.{Continues, StepIs, StepPlaces, ComesLast, EntryComes, UsesCourse}
use Rattle.wax_tree.specs.Plain.{count_shown, entry_forest, HasKind}
use Rattle.wax_tree.specs.Walking.{entry_location, scope_of, located, begins, names_left}
use Rattle.wax_tree.specs.declared.steps.StartPoint.{StartPoint}
use Rattle.wax_tree.specs.Reaching.{LeadsUnseen, OfAny, OnWay, OneFolder, ReachesFrom, no_folders}
use Rattle.wax_tree.specs.Courses.{FoundComes}
use Rattle.wax_tree.proofs.{Showing.{none_left, plain_is, from_last_end, follows_leaf}, Locations.onward_is}
use Rattle.wax_tree.proofs.UsingAnswers.{leaf_counted, stopped_uses_answer, stops_with, kind_counted}
use Rattle.wax_tree.proofs.UsingAnswers.{kind_uses_answer, memory_uses_answer, none_begins, none_either}
use Rattle.wax_tree.proofs.{UsingAnswers.silent_uses_answer, Stepping.follows}
use Rattle.wax_tree.proofs.Reaching.{leads_here, leads_more, next_reaches, places_more, reaches_more}
use Rattle.wax_tree.proofs.Reaching.{silent_places, stopped_places, way_here}
use Rattle.wax_tree.proofs.Coursing.{follows_uses, memory_uses, misplaced_place, some_place, uses_moved}
use Rattle.wax_tree.proofs.Coursing as course
use Rattle.wax_tree.proofs.steps.Steps.follow.Goals as goal

pub returns-in_default-clause-continues : goal.returns-in_default-clause-continues
returns-in_default-clause-continues g c s h k p d empty rest items r e =
    let w = c.args.self.now in
    let none : c.args.place.names.items ≡ [] = none_left c.args.place.names.items
    (λ i. let bad : false ≡ true = c.in_default.ensures.variant.1
    (omega (arith, i, c.args.place.names.ok.0)) in (cc)) in
    let is = ap (λ v. walk_from (scope_of w) (located c.args.place.at) s (from_last v) rest.forest) none ∙
    plain_is (scope_of w) (located c.args.place.at) s c.args.kind rest.forest k in
    let given = subst (λ (f : Facts). g.D.Directory.law.shows w.directory f.path s
    → HasKind s f.kind → Continues g.D.Directory.law w (entry_forest (scope_of w) (entry_location f) f.kind s)
    (count_shown s) c.give.result c.give.new.self) c.from_path.ensures (c.give.ensures.continues s) in
    subst (λ v. StepIs g.D.Directory.law w (pending nothing v rest.listed items) c.give.result
    c.give.new.self) (sym is) (given h k rest items r e)

pub returns-then-ne-clause-uses_answer : goal.returns-then-ne-clause-uses_answer
returns-then-ne-clause-uses_answer g c running first =
    let no_folder : c.args.kind ≡ Folder → ⊥ = search rules in
    let long : length c.args.place.names.items ≡ length c.pop.new.self.items + 1 =
    ap length c.in-Some.ensures.items ∙ length-append c.pop.new.self.items (c.in-Some.name ∷ []) in
    stopped_uses_answer _ c.args.self.now c.stop.new.self c.stop.result
    (fault NotAFolder c.args.place.at.path.path c.args.place.at.depth) c.stop.ensures.gives
    c.stop.ensures.ended (leaf_counted c.args.kind no_folder) tt refl (omega arith) (λ i. omega (arith, long))
    (omega arith)

pub returns-then-ne-clause-continues : goal.returns-then-ne-clause-continues
returns-then-ne-clause-continues g c s h k p d empty rest items r e =
    let w = c.args.self.now in
    let no_folder : c.args.kind ≡ Folder → ⊥ = search rules in
    let names : from_last c.args.place.names.items ≡ string_bytes c.in-Some.name ∷ from_last
    c.pop.new.self.items = ap from_last c.in-Some.ensures.items ∙ from_last_end c.pop.new.self.items
    c.in-Some.name in
    let is = ap (λ v. walk_from (scope_of w) (located c.args.place.at) s v rest.forest) names ∙ follows_leaf
    (scope_of w) (located c.args.place.at) s c.args.kind (string_bytes c.in-Some.name)
    (from_last c.pop.new.self.items) rest.forest k no_folder in
    stops_with g.D.Directory.law w c.stop.new.self _ rest items
    (fault NotAFolder c.args.place.at.path.path c.args.place.at.depth) c.stop.result
    c.stop.ensures.gives tt c.stop.ensures.ended is r empty (omega (arith, e))

pub returns-clause-continues : goal.returns-clause-continues
returns-clause-continues g c s h k p d empty rest items r e =
    let w = c.args.self.now in
    let folder : c.args.kind ≡ Folder = search rules in
    let below = c.in-Ok.ensures in
    let long : length c.args.place.names.items ≡ length c.pop.new.self.items + 1 =
    ap length c.in-Some.ensures.items ∙ length-append c.pop.new.self.items (c.in-Some.name ∷ []) in
    follows g.D.Directory.law w c.args.place
    (record { at = c.in-Ok.at; names = c.pop.new.self }) c.in-Some.name s rest items r h
    (subst (λ v. HasKind s v) folder k) p d empty e (λ at y t. g.met.D.Directory.child w.directory at y t)
    c.in-Some.ensures.items
    (below ∙ onward_is (located c.args.place.at) (string_bytes c.in-Some.name) (omega (arith, d, long)))

pub returns-in_default-clause-places : goal.returns-in_default-clause-places
returns-in_default-clause-places g c none =
    let w = c.args.self.now in
    let place = c.args.place in
    let of = ReachesFrom w (OnWay place) in
    places_more _ of _ of w.max c.give.result c.give.new.self
    (reaches_more w no_folders (OnWay place) (λ p n i. absurd i))
    (λ p n i. leads_more w.min (OneFolder place.at.path.path (place.at.depth + 1)) (OfAny w (OnWay place))
    (λ q k j. inl (way_here place q k j)) p n i.1)
    (subst (λ (f : Facts). StepPlaces (ReachesFrom w no_folders)
    (λ p n. (f.depth < w.min) × LeadsUnseen w.min (OneFolder f.path (f.depth + 1)) p n) w.max c.give.result
    c.give.new.self) c.from_path.ensures (c.give.ensures.places none))

pub returns-then-ne-clause-places : goal.returns-then-ne-clause-places
returns-then-ne-clause-places g c none =
    let w = c.args.self.now in
    let place = c.args.place in
    let of = ReachesFrom w (OnWay place) in
    stopped_places of of w.max w c.stop.new.self c.stop.result NotAFolder place.at.path.path place.at.depth
    (place.at.depth + 1) c.stop.ensures.gives c.stop.ensures.ended (omega arith)
    (leads_here w.min (OfAny w (OnWay place)) _ _ (inl (way_here place _ _ (refl, refl))))

pub returns-clause-places : goal.returns-clause-places
returns-clause-places g c none =
    let w = c.args.self.now in
    let place = c.args.place in
    let of = ReachesFrom w (OnWay place) in
    let next : StartPoint = record { at = c.in-Ok.at; names = c.pop.new.self } in
    let below = c.in-Ok.ensures in
    silent_places of of w.max (record w { first = Some next }) _ refl none
    (next_reaches w place next c.in-Some.name c.in-Some.ensures.items (ap (λ v. v.path) below)
    (ap (λ v. v.depth) below))

pub returns-in_default-clause-uses_answer : goal.returns-in_default-clause-uses_answer
returns-in_default-clause-uses_answer g c running first =
    let w = c.args.self.now in
    kind_uses_answer c.args.kind (names_left w) _ w c.give.new.self c.give.result (none_begins w first)
    c.give.ensures.uses_answer

pub returns-in_default-below-clause-uses_answer : goal.returns-in_default-below-clause-uses_answer
returns-in_default-below-clause-uses_answer g c running first =
    let w = c.args.self.now in
    let e = c.fail.ensures.ended in
    let few : names_left c.fail.new.self ≡ names_left w = ap names_left e in
    memory_uses_answer _ w c.fail.new.self c.fail.result c.fail.ensures.memory (ap (λ v. v.directory) e)
    (ap (λ v. v.has_ended) e) (omega (arith, few)) (kind_counted c.args.kind 1) (omega arith)

pub returns-clause-uses_answer : goal.returns-clause-uses_answer
returns-clause-uses_answer g c running first =
    let w = c.args.self.now in
    let next : StartPoint = record { at = c.in-Ok.at; names = c.pop.new.self } in
    let long : length c.args.place.names.items ≡ length c.pop.new.self.items + 1 =
    ap length c.in-Some.ensures.items ∙ length-append c.pop.new.self.items (c.in-Some.name ∷ []) in
    let begun : begins (record w { first = Some next }) ≡ 1 = ap (λ b. cond b 0 1) running in
    silent_uses_answer _ w (record w { first = Some next }) 0 0 (omega arith)
    (λ going none entered. none_either w.has_ended 0 refl) refl refl (omega arith) (omega (arith, long))
    (kind_counted c.args.kind 0) (λ e. refl) (omega (arith, begun))

pub returns-in_default-below-clause-course : goal.returns-in_default-below-clause-course
returns-in_default-below-clause-course g c going first entered =
    memory_uses [] _ c.fail.result c.fail.new.self
    (some_place c.args.self.now c.args.place c.args.kind) c.fail.ensures.memory
    (ap (λ v. v.has_ended) c.fail.ensures.ended)

pub returns-in_default-clause-course : goal.returns-in_default-clause-course
returns-in_default-clause-course g c going first entered =
    let w = c.args.self.now in
    let none : c.args.place.names.items ≡ [] = none_left c.args.place.names.items
    (λ i. let bad : false ≡ true = c.in_default.ensures.variant.1
    (omega (arith, i, c.args.place.names.ok.0)) in (cc)) in
    let given = subst (λ (f : Facts). UsesCourse [] (ComesLast w (EntryComes (scope_of w) f)) c.give.result
    c.give.new.self) c.from_path.ensures (c.give.ensures.course going first entered) in
    uses_moved [] _ _ c.give.result c.give.new.self (λ d h. (
      h.0,
      h.1,
      subst (λ names. FoundComes (scope_of w) names (located c.args.place.at) h.0 c.args.kind d)
          (sym (ap from_last none)) h.2,
    )) given

pub returns-then-ne-clause-course : goal.returns-then-ne-clause-course
returns-then-ne-clause-course g c going first entered =
    let w = c.args.self.now in
    let no_folder : c.args.kind ≡ Folder → ⊥ = search rules in
    let names : from_last c.args.place.names.items ≡ string_bytes c.in-Some.name ∷ from_last
    c.pop.new.self.items = ap from_last c.in-Some.ensures.items ∙ from_last_end c.pop.new.self.items
    c.in-Some.name in
    course.stopped_uses [] _ c.stop.result c.stop.new.self
    (fault NotAFolder c.args.place.at.path.path c.args.place.at.depth) c.stop.ensures.gives
    (ap (λ v. v.has_ended) c.stop.ensures.ended)
    (misplaced_place w c.args.place c.args.kind _ _ names no_folder)

pub returns-clause-course : goal.returns-clause-course
returns-clause-course g c going first entered =
    let w = c.args.self.now in
    let next : StartPoint = record { at = c.in-Ok.at; names = c.pop.new.self } in
    let folder : c.args.kind ≡ Folder = search rules in
    let below = c.in-Ok.ensures in
    let names : from_last c.args.place.names.items ≡ string_bytes c.in-Some.name ∷ from_last
    c.pop.new.self.items = ap from_last c.in-Some.ensures.items ∙ from_last_end c.pop.new.self.items
    c.in-Some.name in
    rw folder (follows_uses w c.args.place next (string_bytes c.in-Some.name) names below going)
