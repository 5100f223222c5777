use Rattle.std.proofs.Common.{◌≡◌, ap, arith, refl, sym, subst, length, ◌+◌, inl, [], ◌∷◌, ◌∙◌, ◌++◌}
use Rattle.std.specs.Prelude.{Ok, Err, None, Some}
use Rattle.wax_directory.specs.{Counting.kind_counts, History.{absent, found, unseen}}
use Rattle.wax_walk.specs.declared.error.FaultKind.TheVariants.{NotFound, Listing}
use Rattle.wax_walk.specs.{declared.error.WalkError.TheVariants.Fault, Given.{fault, no_memory}, View.IsLast}
use Rattle.wax_walk.specs.Course.{asking, call}
use Rattle.wax_tree.specs.Prefix.{from_last}
use Rattle.wax_tree.specs.Walking.{scope_of, located, cursors_of, begins, names_left, open_lists, step_given}
use Rattle.wax_tree.specs.Reaching.{OfAny, OnWay, ReachesFrom, no_folders}
use Rattle.wax_tree.specs.Courses.{AlongComes, is_failing, is_missing, is_there}
use Rattle.wax_tree.proofs.Showing.{has_kind, begins_missing, begins_failing}
use Rattle.wax_tree.proofs.Resting.{rest_moved, comes_rest}
use Rattle.wax_tree.proofs.UsingAnswers.{counted_same, answer_used, failed_uses_answer, gives_uses_answer}
use Rattle.wax_tree.proofs.UsingAnswers.{kind_no_listing, none_begins, stopped_uses_answer, stops_with}
use Rattle.wax_tree.proofs.{UsingAnswers.step_from, Stepping.gives_fault}
use Rattle.wax_tree.proofs.Reaching.{fault_places, leads_here, reaches_more, stopped_places, way_here}
use Rattle.wax_tree.proofs.Coursing.{ends_spends, fault_uses, memory_uses, nothing_spent, stopped_uses}
use Rattle.wax_tree.proofs.Coursing.{some_along, uses_more}
use Rattle.wax_directory.specs.declared.directory.DirectoryFault.TheVariants as F
use Rattle.wax_tree.proofs.steps.Steps.begin.Goals as goal

pub returns-in-Ok-Some-clause-continues : goal.returns-in-Ok-Some-clause-continues
returns-in-Ok-Some-clause-continues g c s h p d none rest items r e =
    let law = g.D.Directory.law in
    let w = c.args.self.now in
    let o = rw (c.as_str.ensures, c.in-Ok-Some.field-0-is) at c.in-Ok-Some.ensures in
    let moved = rest_moved law w c.kind.new.self rest.listed rest r o.shown
    (o.held (cursors_of w.levels.items) rest.has r.held) (o.told rest.listed r.told) r.opened in
    step_from law w (record w { directory = c.kind.new.self }) c.follow.new.self _ _ c.follow.result refl refl
    refl
    (c.follow.ensures.continues s (o.shown c.args.place.at.path.path s h)
    (has_kind s c.in-Ok-Some.kind (o.kind s h)) p d none rest items moved e)

pub returns-in-Ok-None-clause-answers : goal.returns-in-Ok-None-clause-answers
returns-in-Ok-None-clause-answers g c running none entered =
    let w = c.args.self.now in
    let o = rw c.in-Ok-None.field-0-is at c.in-Ok-None.ensures in
    answer_used g.D.Directory.law
    (record {
      counts = kind_counts (Ok None);
      taken = 0;
      names =
          names_left w + length c.args.place.names.items;
      made = 1;
    }) w (open_lists w) 0 1 0 c.kind.new.self c.stop.result c.stop.new.self
    o.counted refl (omega arith) (λ n. refl) running none entered (λ n. refl)
    (λ n. absurd (n (subst IsLast (sym c.stop.ensures.gives) tt)))
    (stopped_uses_answer _ (record w { directory = c.kind.new.self }) c.stop.new.self c.stop.result
    (fault NotFound c.args.place.at.path.path c.args.place.at.depth) c.stop.ensures.gives
    c.stop.ensures.ended (counted_same _ 0) tt refl (omega arith) (λ i. absurd i) (omega arith))

pub returns-in-Ok-None-clause-continues : goal.returns-in-Ok-None-clause-continues
returns-in-Ok-None-clause-continues g c s h p d none rest items r e =
    let law = g.D.Directory.law in
    let w = c.args.self.now in
    let v = record w { directory = c.kind.new.self } in
    let o = rw (c.as_str.ensures, c.in-Ok-None.field-0-is) at c.in-Ok-None.ensures in
    let is = begins_missing (scope_of w) (located c.args.place.at) s (from_last c.args.place.names.items)
    rest.forest (o.kind s h) in
    let moved = rest_moved law w c.kind.new.self rest.listed rest r o.shown
    (o.held (cursors_of w.levels.items) rest.has r.held) (o.told rest.listed r.told) r.opened in
    step_from law w v c.stop.new.self _ _ c.stop.result refl refl refl
    (stops_with law v c.stop.new.self _ rest items
    (fault NotFound c.args.place.at.path.path c.args.place.at.depth) c.stop.result
    c.stop.ensures.gives tt c.stop.ensures.ended is moved none (omega (arith, e)))

pub returns-in-Err-Failed-clause-answers : goal.returns-in-Err-Failed-clause-answers
returns-in-Err-Failed-clause-answers g c running none entered =
    let w = c.args.self.now in
    let one : 1 ≡ begins w + 1 = sym (ap (λ v. v + 1) (none_begins w none)) in
    let o = rw c.in-Err-Failed.field-0-is at c.in-Err-Failed.ensures in
    answer_used g.D.Directory.law
    (record {
      counts = kind_counts (Err F.Failed);
      taken = 0;
      names =
          names_left w + length c.args.place.names.items;
      made = 1;
    }) w (open_lists w) 0 1 0 c.kind.new.self _ _ o.counted refl (omega arith)
    (λ n. refl) running none entered (λ n. refl)
    (λ n. omega arith)
    (gives_uses_answer _ (record w { directory = c.kind.new.self })
    (Err (Fault Listing c.into_string-path.result c.args.place.at.depth)) (counted_same _ 0) refl one
    (omega arith) (λ i. i)
    (λ i. i) (omega arith))

pub returns-in-Err-Failed-clause-continues : goal.returns-in-Err-Failed-clause-continues
returns-in-Err-Failed-clause-continues g c s h p d none rest items r e =
    let law = g.D.Directory.law in
    let w = c.args.self.now in
    let v = record w { directory = c.kind.new.self } in
    let o = rw (c.as_str.ensures, c.in-Err-Failed.field-0-is) at c.in-Err-Failed.ensures in
    let is = begins_failing (scope_of w) (located c.args.place.at) s (from_last c.args.place.names.items)
    rest.forest (o.kind s h) in
    let moved = rest_moved law w c.kind.new.self rest.listed rest r o.shown
    (o.held (cursors_of w.levels.items) rest.has r.held) (o.told rest.listed r.told) r.opened in
    gives_fault law w v _ rest.forest rest.listed items
    (fault Listing c.args.place.at.path.path c.args.place.at.depth)
    (Err (Fault Listing c.into_string-path.result c.args.place.at.depth)) is
    (ap (λ p. fault Listing p c.args.place.at.depth) c.into_string-path.ensures) (λ n. refl)
    (comes_rest law v items rest moved (omega (arith, e)))

pub returns-in-Err-Memory-clause-answers : goal.returns-in-Err-Memory-clause-answers
returns-in-Err-Memory-clause-answers g c running none entered =
    let w = c.args.self.now in
    let o = rw c.in-Err-Memory.field-0-is at c.in-Err-Memory.ensures in
    rw (c.fail.ensures.memory, c.fail.ensures.ended)
    (answer_used g.D.Directory.law
    (record {
      counts = kind_counts (Err F.Memory);
      taken = 0;
      names =
          names_left w + length c.args.place.names.items;
      made = 1;
    }) w (open_lists w) 0 1 0 c.kind.new.self _ _ o.counted refl (omega arith)
    (λ n. refl) running none entered (λ n. refl)
    (λ n. absurd (n tt))
    (failed_uses_answer _ (record w { directory = c.kind.new.self }) (counted_same _ 1) (omega arith)
    (omega arith)))

pub returns-in-Ok-None-clause-places : goal.returns-in-Ok-None-clause-places
returns-in-Ok-None-clause-places g c none =
    let w = record c.args.self.now { directory = c.kind.new.self } in
    let place = c.args.place in
    let of = ReachesFrom w (OnWay place) in
    stopped_places of of w.max w c.stop.new.self c.stop.result NotFound place.at.path.path place.at.depth
    (place.at.depth + 1) c.stop.ensures.gives c.stop.ensures.ended (omega arith)
    (leads_here w.min (OfAny w (OnWay place)) _ _ (inl (way_here place _ _ (refl, refl))))

pub returns-in-Err-Failed-clause-places : goal.returns-in-Err-Failed-clause-places
returns-in-Err-Failed-clause-places g c none =
    let w = record c.args.self.now { directory = c.kind.new.self } in
    let place = c.args.place in
    let of = ReachesFrom w (OnWay place) in
    fault_places of of w.max w Listing c.into_string-path.result place.at.depth
    (place.at.depth + 1) (omega arith)
    (subst (λ p. of p (place.at.depth + 1)) (sym c.into_string-path.ensures)
    (leads_here w.min (OfAny w (OnWay place)) _ _ (inl (way_here place _ _ (refl, refl))))) none
    (reaches_more w no_folders (OnWay place) (λ p n i. absurd i))

pub returns-in-Ok-Some-clause-answers : goal.returns-in-Ok-Some-clause-answers
returns-in-Ok-Some-clause-answers g c running none entered =
    let w = c.args.self.now in
    let kind = c.in-Ok-Some.kind in
    let o = rw c.in-Ok-Some.field-0-is at c.in-Ok-Some.ensures in
    let no = kind_no_listing kind in
    answer_used g.D.Directory.law
    (record {
      counts = kind_counts (Ok (Some kind));
      taken = 0;
      names = names_left w + length c.args.place.names.items;
      made = 1;
    }) w (open_lists w) 0 1 0 c.kind.new.self c.follow.result c.follow.new.self o.counted
    no.items (omega arith)
    (λ n. omega arith) running none entered (λ n. no.opened)
    (λ n. omega (arith, no.opened, no.ended, c.follow.ensures.lists n))
    (c.follow.ensures.uses_answer running none)

pub returns-in-Ok-Some-clause-course : goal.returns-in-Ok-Some-clause-course
returns-in-Ok-Some-clause-course g c going first entered =
    let w = c.args.self.now in
    let path = c.args.place.at.path.path in
    let o = rw (c.as_str.ensures, c.in-Ok-Some.field-0-is) at c.in-Ok-Some.ensures in
    let calls = call path (found path c.in-Ok-Some.kind) ∷ [] in record {
      calls = calls;
      answered = ap g.D.Directory.law.answered (c.follow.ensures.uses_answer going first).directory
          ∙ (o.answered ∙ ap (λ p. g.D.Directory.law.answered w.directory ++ found p c.in-Ok-Some.kind ∷ [])
          c.as_str.ensures);
      spends = (c.follow.ensures.uses_answer going first).takes;
      uses = uses_more calls _ _ c.follow.result c.follow.new.self
          (λ d h. (h.0, h.1, is_there c.in-Ok-Some.kind d h.2 refl))
          (c.follow.ensures.course going first entered);
    }

pub returns-in-Ok-None-clause-course : goal.returns-in-Ok-None-clause-course
returns-in-Ok-None-clause-course g c going first entered =
    let w = c.args.self.now in
    let path = c.args.place.at.path.path in
    let o = rw (c.as_str.ensures, c.in-Ok-None.field-0-is) at c.in-Ok-None.ensures in
    let calls = call path (absent path) ∷ [] in record {
      calls = calls;
      answered = ap (λ v. g.D.Directory.law.answered v.directory) c.stop.ensures.ended
          ∙ (o.answered ∙ ap (λ p. g.D.Directory.law.answered w.directory ++ absent p ∷ []) c.as_str.ensures);
      spends = ends_spends w c.stop.new.self c.stop.result (fault NotFound path c.args.place.at.depth) 0
          c.stop.ensures.gives (ap (λ v. v.has_ended) c.stop.ensures.ended) (omega arith);
      uses = let l = some_along w c.args.place in stopped_uses calls _ c.stop.result c.stop.new.self
          (fault NotFound path c.args.place.at.depth) c.stop.ensures.gives
          (ap (λ v. v.has_ended) c.stop.ensures.ended) (l.1.0, l.1.1, is_missing refl);
    }

pub returns-in-Err-Failed-clause-course : goal.returns-in-Err-Failed-clause-course
returns-in-Err-Failed-clause-course g c going first entered =
    let w = c.args.self.now in
    let path = c.args.place.at.path.path in
    let o = rw (c.as_str.ensures, c.in-Err-Failed.field-0-is) at c.in-Err-Failed.ensures in
    let v = record w { directory = c.kind.new.self } in
    let calls = call path (unseen path) ∷ [] in record {
      calls = calls;
      answered =
          o.answered ∙ ap (λ p. g.D.Directory.law.answered w.directory ++ unseen p ∷ []) c.as_str.ensures;
      spends = nothing_spent w;
      uses = fault_uses calls
          (λ rest d.
          AlongComes (scope_of w) (from_last c.args.place.names.items) (located c.args.place.at) rest
          (asking calls d)) v v _ (fault Listing path c.args.place.at.depth)
          (ap (λ p. Some (fault Listing p c.args.place.at.depth)) c.into_string-path.ensures)
          going first entered refl
          (λ rest. is_failing refl);
    }

pub returns-in-Err-Memory-clause-course : goal.returns-in-Err-Memory-clause-course
returns-in-Err-Memory-clause-course g c going first entered =
    let w = c.args.self.now in
    let o = rw (c.as_str.ensures, c.in-Err-Memory.field-0-is) at c.in-Err-Memory.ensures in record {
      calls = [];
      answered = ap (λ v. g.D.Directory.law.answered v.directory) c.fail.ensures.ended ∙ o.answered;
      spends = ends_spends w c.fail.new.self c.fail.result no_memory 0 (ap step_given c.fail.ensures.memory)
          (ap (λ v. v.has_ended) c.fail.ensures.ended) (omega arith);
      uses = memory_uses [] _ c.fail.result c.fail.new.self (some_along w c.args.place) c.fail.ensures.memory
          (ap (λ v. v.has_ended) c.fail.ensures.ended);
    }
