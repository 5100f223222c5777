use Rattle.std.specs.Prelude.{None, Some}
use Rattle.std.proofs.Common.{rules, ◌≡◌, ◌∙◌, false, true, [], ap, arith, sym, refl, inl, inr, ℕ, List}
use Rattle.std.proofs.Common.{subst, ◌+◌, cond, length, length-append}
use Rattle.wax_tree.proofs.{UsingAnswers.step_from, Showing.none_left}
use Rattle.wax_tree.proofs.Stepping.{steps_begin, steps_enter, steps_list, steps_none, steps_ended}
use Rattle.wax_tree.proofs.Reaching.{entered_reaches, first_reaches, places_more, popped_reaches}
use Rattle.wax_tree.proofs.{Coursing.{comes_ahead, course_moved, levels_push, stops_so}, Listing.step_is}
use Rattle.wax_tree.specs.{Reaching.{IsOf, MayReach, OnWay, ReachesFrom}, Courses.entered_course}
use Rattle.wax_tree.specs.Walking.{EnteredComes, FirstComes, LevelsCome, located, scope_of, begins, entering}
use Rattle.wax_tree.specs.Walking.{entering_after, if_some, names_left, names_of_first, open_lists}
use Rattle.wax_tree.specs.Walking.{steps_view, HasStopped}
use Rattle.wax_walk.specs.Course.{ahead, stop}
use Rattle.wax_tree.proofs.steps.Steps.step.Goals as goal

pub returns-then-self-clause-step : goal.returns-then-self-clause-step
returns-then-self-clause-step g c p h = steps_ended g.D.Directory.law c.args.self.now p h c.if-self.true

pub returns-in-Some-clause-step : goal.returns-in-Some-clause-step
returns-in-Some-clause-step g c p h =
    let law = g.D.Directory.law in
    let t = steps_begin law c.args.self.now c.in-Some.place c.take.new.self _ p h
    (sym c.take.ensures.value ∙ c.in-Some.is) c.take.ensures.after refl c.if-self.false in
    step_from law c.args.self.now _ c.begin.new.self p _ c.begin.result t.9 (ap (λ v. v.listed) t.8) refl
    (c.begin.ensures.continues t.0 t.3 t.4 t.5 t.6 t.1 p.items t.2 t.7)

pub returns-in-Some-take-clause-step : goal.returns-in-Some-take-clause-step
returns-in-Some-take-clause-step g c p h =
    let law = g.D.Directory.law in
    let t = steps_enter law c.args.self.now c.in-Some-take.folder c.take.new.self c.take-2.new.self p h
    (sym c.take.ensures.value ∙ c.in_default.is) (sym c.take-2.ensures.value ∙ c.in-Some-take.is)
    c.take.ensures.after c.take-2.ensures.after c.if-self.false in
    step_from law c.args.self.now _ c.enter.new.self p _ c.enter.result t.7 (ap (λ v. v.listed) t.6) refl
    (c.enter.ensures.continues t.0 t.3 t.4 t.1 p.items t.2 t.5)

pub returns-in-Some-pop-clause-step : goal.returns-in-Some-pop-clause-step
returns-in-Some-pop-clause-step g c p h =
    let law = g.D.Directory.law in
    let t = steps_list law c.args.self.now (record c.args.self.now { levels = c.pop.new.self })
    c.in-Some-pop.level c.take.new.self c.take-2.new.self p h
    (sym c.take.ensures.value ∙ c.in_default.is) (sym c.take-2.ensures.value ∙ c.in_default-take.is)
    c.take.ensures.after c.take-2.ensures.after c.if-self.false c.in-Some-pop.ensures.items
    (λ cs ls k l. g.met.D.Directory.dropped c.args.self.now.directory cs ls k l) in
    step_from law c.args.self.now _ c.list_next.new.self p _ c.list_next.result t.5 (ap (λ v. v.listed) t.4)
    refl (c.list_next.ensures.lists t.0 t.1 p.items t.2 t.3)

pub returns-in-None-clause-step : goal.returns-in-None-clause-step
returns-in-None-clause-step g c p h =
    let levels = c.args.self.now.levels in
    let none : levels.items ≡ [] =
    none_left levels.items
    (λ i. let bad : false ≡ true = c.in-None.ensures.variant.1 (omega (arith, i, levels.ok.0)) in (cc)) in
    let gone : c.pop.new.self.items ≡ [] = search rules in
    steps_none g.D.Directory.law c.args.self.now (record c.args.self.now { levels = c.pop.new.self })
    c.take.new.self c.take-2.new.self p h
    (sym c.take.ensures.value ∙ c.in_default.is) (sym c.take-2.ensures.value ∙ c.in_default-take.is) none gone
    c.take.ensures.after c.take-2.ensures.after

pub returns-in-Some-clause-places : goal.returns-in-Some-clause-places
returns-in-Some-clause-places g c =
    let w = c.args.self.now in
    let mid = record w { first = c.take.new.self; entered = None } in
    let of = ReachesFrom mid (OnWay c.in-Some.place) in
    let reaches : (path : List ℕ) (n : ℕ) → of path n → MayReach w path n = λ path n i. (
      c.if-self.false,
      inl (first_reaches w mid c.in-Some.place refl c.take.ensures.after
          (sym c.take.ensures.value ∙ c.in-Some.is) refl path n i),
    ) in
    places_more of (MayReach w) of (MayReach w) w.max c.begin.result c.begin.new.self reaches reaches
    (c.begin.ensures.places refl)

pub returns-in-Some-take-clause-places : goal.returns-in-Some-take-clause-places
returns-in-Some-take-clause-places g c =
    let w = c.args.self.now in
    let mid = record w { first = c.take.new.self; entered = c.take-2.new.self } in
    let of = ReachesFrom mid (IsOf c.in-Some-take.folder) in
    let reaches : (path : List ℕ) (n : ℕ) → of path n → MayReach w path n = λ path n i. (
      c.if-self.false,
      entered_reaches w mid c.in-Some-take.folder refl c.take.ensures.after
          (sym c.take-2.ensures.value ∙ c.in-Some-take.is) refl path n i,
    ) in
    places_more of (MayReach w) of (MayReach w) w.max c.enter.result c.enter.new.self reaches reaches
    (c.enter.ensures.places c.take-2.ensures.after)

pub returns-in-Some-pop-clause-places : goal.returns-in-Some-pop-clause-places
returns-in-Some-pop-clause-places g c =
    let w = c.args.self.now in
    let mid = record w { first = c.take.new.self; entered = c.take-2.new.self; levels = c.pop.new.self } in
    let of = ReachesFrom mid (IsOf c.in-Some-pop.level.folder) in
    let reaches : (path : List ℕ) (n : ℕ) → of path n → MayReach w path n = λ path n i. (
      c.if-self.false,
      inl (popped_reaches w mid c.in-Some-pop.level refl c.take.ensures.after c.in-Some-pop.ensures.items path
          n i),
    ) in
    places_more of (MayReach w) of (MayReach w) w.max c.list_next.result c.list_next.new.self reaches reaches
    (c.list_next.ensures.places c.take-2.ensures.after)

pub returns-in-Some-clause-is_step : goal.returns-in-Some-clause-is_step
returns-in-Some-clause-is_step g c =
    let law = g.D.Directory.law in
    let w = c.args.self.now in
    let mid = record w { first = c.take.new.self; entered = None } in
    let place = c.in-Some.place in
    let going : w.has_ended ≡ false = c.if-self.false in
    let none : c.take.new.self ≡ None = c.take.ensures.after in
    let some : w.first ≡ Some place = sym c.take.ensures.value ∙ c.in-Some.is in
    let run : HasStopped w → ⊥ = λ h. elim h [
      | inl e ↦ let b : true ≡ false = sym e ∙ going in (cc)
      | inr e ↦ let b : Some place ≡ None = sym some ∙ e.0 in (cc)
    ] in
    let begun : begins w ≡ 1 = ap (λ b. cond b 0 (if_some w.first 1)) going ∙ ap (λ f. if_some f 1) some in
    let enters : entering w ≡ 0 = ap (λ b. cond b 0 (entering_after w.first w.entered)) going ∙ ap
    (λ f. entering_after f w.entered) some in
    let names : names_left w ≡ length place.names.items = ap names_of_first some in
    let fewer : names_left mid ≡ 0 = ap names_of_first none in
    step_is law w mid c.begin.new.self
    (record (steps_view law mid) {
      names_left = names_left mid + length place.names.items;
      to_begin = 1;
      to_open = 0;
    }) c.begin.result run refl refl refl refl refl begun enters refl refl
    (omega (arith, names, fewer)) (c.begin.ensures.answers going none refl) c.begin.ensures.remembers

pub returns-in-Some-take-clause-is_step : goal.returns-in-Some-take-clause-is_step
returns-in-Some-take-clause-is_step g c =
    let law = g.D.Directory.law in
    let w = c.args.self.now in
    let mid = record w { first = c.take.new.self; entered = c.take-2.new.self } in
    let going : w.has_ended ≡ false = c.if-self.false in
    let none : c.take.new.self ≡ None = c.take.ensures.after in
    let first : w.first ≡ None = sym c.take.ensures.value ∙ c.in_default.is in
    let some = sym c.take-2.ensures.value ∙ c.in-Some-take.is in
    let run : HasStopped w → ⊥ = λ h. elim h [
      | inl e ↦ let b : true ≡ false = sym e ∙ going in (cc)
      | inr e ↦ let b : Some c.in-Some-take.folder ≡ None = sym some ∙ e.1 in (cc)
    ] in
    let begun : begins w ≡ begins mid = ap (λ f. cond w.has_ended 0 (if_some f 1)) (first ∙ sym none) in
    let enters : entering w ≡ 1 = ap (λ b. cond b 0 (entering_after w.first w.entered)) going ∙ (ap
    (λ f. entering_after f w.entered) first ∙ ap (λ f. if_some f 1) some) in
    let names : names_left mid ≡ names_left w = ap names_of_first (none ∙ sym first) in
    step_is law w mid c.enter.new.self (record (steps_view law mid) { to_open = 1 })
    c.enter.result run refl refl
    refl refl refl begun enters refl refl (omega (arith, names))
    (c.enter.ensures.answers going none c.take-2.ensures.after) c.enter.ensures.remembers

pub returns-in-Some-pop-clause-is_step : goal.returns-in-Some-pop-clause-is_step
returns-in-Some-pop-clause-is_step g c =
    let law = g.D.Directory.law in
    let w = c.args.self.now in
    let mid = record w { first = c.take.new.self; entered = c.take-2.new.self; levels = c.pop.new.self } in
    let going : w.has_ended ≡ false = c.if-self.false in
    let none : c.take.new.self ≡ None = c.take.ensures.after in
    let first : w.first ≡ None = sym c.take.ensures.value ∙ c.in_default.is in
    let entered : w.entered ≡ None = sym c.take-2.ensures.value ∙ c.in_default-take.is in
    let long : length w.levels.items ≡ length c.pop.new.self.items + 1 =
    ap length c.in-Some-pop.ensures.items ∙ length-append c.pop.new.self.items _ in
    let run : HasStopped w → ⊥ = λ h. elim h [
      | inl e ↦ let b : true ≡ false = sym e ∙ going in (cc)
      | inr e ↦ let b : length w.levels.items ≡ 0 = ap length e.2 in omega (arith, b, long)
    ] in
    let begun : begins w ≡ begins mid = ap (λ f. cond w.has_ended 0 (if_some f 1)) (first ∙ sym none) in
    let enters : entering w ≡ 0 = ap (λ b. cond b 0 (entering_after w.first w.entered)) going ∙ (ap
    (λ f. entering_after f w.entered) first ∙ ap (λ f. if_some f 1) entered) in
    let names : names_left mid ≡ names_left w = ap names_of_first (none ∙ sym first) in
    let before : open_lists w ≡ length w.levels.items = ap (λ b. cond b 0 (length w.levels.items)) going in
    let after : open_lists mid ≡ length c.pop.new.self.items =
    ap (λ b. cond b 0 (length c.pop.new.self.items)) going in
    step_is law w mid c.list_next.new.self
    (record (steps_view law mid) { listings_open = open_lists mid + 1; to_open = 0 })
    c.list_next.result run refl
    refl refl refl refl begun enters refl (omega (arith, before, after, long))
    (omega (arith, names)) (c.list_next.ensures.answers going none c.take-2.ensures.after)
    c.list_next.ensures.remembers

pub returns-then-self-clause-course : goal.returns-then-self-clause-course
returns-then-self-clause-course g c =
    stops_so g.D.Directory.law c.args.self.now c.args.self.now refl refl (inl c.if-self.true)

pub returns-in-Some-clause-course : goal.returns-in-Some-clause-course
returns-in-Some-clause-course g c =
    let w = c.args.self.now in
    let scope = scope_of w in
    let going : w.has_ended ≡ false = c.if-self.false in
    let some : w.first ≡ Some c.in-Some.place = sym c.take.ensures.value ∙ c.in-Some.is in
    let mid = record w { first = c.take.new.self; entered = None } in
    course_moved g.D.Directory.law mid w _ _ c.begin.result c.begin.new.self refl refl (λ d h. (
      ahead stop d,
      comes_ahead w (ahead stop d) going (record {
        back = h.0;
        first = subst (λ f. FirstComes scope f h.0 d) (sym some) h.2;
        entered = subst (λ f. EnteredComes scope f w.entered stop) (sym some) refl;
        levels = h.1;
      }),
      refl,
    )) (c.begin.ensures.course going c.take.ensures.after refl)

pub returns-in-Some-take-clause-course : goal.returns-in-Some-take-clause-course
returns-in-Some-take-clause-course g c =
    let w = c.args.self.now in
    let scope = scope_of w in
    let going : w.has_ended ≡ false = c.if-self.false in
    let first : w.first ≡ None = sym c.take.ensures.value ∙ c.in_default.is in
    let some = sym c.take-2.ensures.value ∙ c.in-Some-take.is in
    let mid = record w { first = c.take.new.self; entered = c.take-2.new.self } in
    course_moved g.D.Directory.law mid w _ _ c.enter.result c.enter.new.self refl refl (λ d h.
    let below = entered_course scope (located c.in-Some-take.folder) h.2.0 in (
      ahead below h.0,
      comes_ahead w (ahead below h.0) going (record {
        back = h.0;
        first = subst (λ f. FirstComes scope f h.0 h.0) (sym first) refl;
        entered = subst (λ f. EnteredComes scope f w.entered below) (sym first)
            (subst (λ e. EnteredComes scope None e below) (sym some) (h.2.0, h.2.1, h.2.2, refl));
        levels = h.1;
      }),
      h.2.3,
    )) (c.enter.ensures.course going c.take.ensures.after c.take-2.ensures.after)

pub returns-in-Some-pop-clause-course : goal.returns-in-Some-pop-clause-course
returns-in-Some-pop-clause-course g c =
    let w = c.args.self.now in
    let scope = scope_of w in
    let going : w.has_ended ≡ false = c.if-self.false in
    let first : w.first ≡ None = sym c.take.ensures.value ∙ c.in_default.is in
    let entered : w.entered ≡ None = sym c.take-2.ensures.value ∙ c.in_default-take.is in
    let mid = record w { first = c.take.new.self; entered = c.take-2.new.self; levels = c.pop.new.self } in
    course_moved g.D.Directory.law mid w _ _ c.list_next.result c.list_next.new.self refl refl (λ d h. (
      ahead stop d,
      comes_ahead w (ahead stop d) going (record {
        back = d;
        first = subst (λ f. FirstComes scope f d d) (sym first) refl;
        entered = subst (λ f. EnteredComes scope f w.entered stop) (sym first)
            (subst (λ e. EnteredComes scope None e stop) (sym entered) refl);
        levels = subst (λ ls. LevelsCome scope ls d) (sym c.in-Some-pop.ensures.items)
            (levels_push scope c.pop.new.self.items c.in-Some-pop.level h.0 d h.1 h.2);
      }),
      refl,
    )) (c.list_next.ensures.course going c.take.ensures.after c.take-2.ensures.after)

pub returns-in-None-clause-course : goal.returns-in-None-clause-course
returns-in-None-clause-course g c =
    let w = c.args.self.now in
    let none : w.levels.items ≡ [] =
    none_left w.levels.items
    (λ i. let bad : false ≡ true = c.in-None.ensures.variant.1 (omega (arith, i, w.levels.ok.0)) in (cc)) in
    stops_so g.D.Directory.law w _ refl refl (inr (
      sym c.take.ensures.value ∙ c.in_default.is,
      sym c.take-2.ensures.value ∙ c.in_default-take.is,
      none,
    ))
