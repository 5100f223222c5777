-- The course of a run of steps, up to an item or the end.
use Rattle.std.proofs.{Common.{◌≡◌, ◌+◌, List, [], ◌++◌, refl, sym, subst, inl, inr}, lemmas.List.append-nil}
use Rattle.std.specs.Prelude.{Some, None}
use Rattle.wax_directory.specs.Law.{Law}
use Rattle.wax_walk.specs.Course.{IsStartOf, DirectoryCall, Course, CutsShort, ahead, all_ahead, answers}
use Rattle.wax_walk.specs.{Course.{asking, stop, unknown, yields}, Opened.items_listed}
use Rattle.wax_walk.specs.View.{Follows, MayTake, Takes, ended_so, was_cut, went_on}
use Rattle.wax_walk.proofs.Accounting.{takes_more}
use Rattle.wax_walk.proofs.Courses.{asking_then, begins_asking, begins_itself, begins_parts, begins_trans}
use Rattle.wax_walk.proofs.Taking.{answered_more, cuts_later, listed_more}
use Rattle.wax_tree.specs.{declared.steps.Step.Step, declared.steps.Step.TheVariants.{Ends, Gives, GoesOn}}
use Rattle.wax_tree.specs.{declared.steps.Steps.Steps, Stepping.{ComesWhole, StepCourse}}
use Rattle.wax_tree.specs.Walking.{HasStopped, allowance, step_given, steps_view, tree_given}
use Rattle.wax_tree.proofs.Coursing.{nothing_spent, stopped_ahead}

module _ {D C : Type 0} (law : Law D C) where
  -- after these calls, without an item
  pub record CourseSoFar (old now : Steps D C) : Type 0 where
    pub calls : List DirectoryCall
    pub answered : law.answered now.directory ≡ law.answered old.directory ++ answers calls
    pub spends : items_listed (answers calls) + allowance now ≡ allowance old
    pub goes : (c : Course) → ComesWhole now c → ComesWhole old (asking calls c)

  pub course_begun : (w : Steps D C) → CourseSoFar w w
  course_begun w = record {
    calls = [];
    answered = sym (append-nil (law.answered w.directory));
    spends = nothing_spent w;
    goes = λ c h. h;
  }

  -- what begins a course that comes is what the walk may take
  may_take : (w : Steps D C) (c d : Course) → ComesWhole w c → IsStartOf d c → MayTake (steps_view law w) d
  may_take w c d h b =
      let p = begins_parts h.0.below h.0.after d (subst (IsStartOf d) h.2 b) in
      (ahead p.below p.after, (h.0, h.1, p.below_begins, p.after_begins), p.whole)

  module _ (w now new : Steps D C) (r : Step) (f : CourseSoFar w now)
      (st : StepCourse law now (ComesWhole now) r new) where
    abbrev pub run_calls : List DirectoryCall
    run_calls = f.calls ++ st.calls

    pub run_answered : law.answered new.directory ≡ law.answered w.directory ++ answers run_calls
    run_answered =
        answered_more law.answered w.directory now.directory new.directory f.calls st.calls
        f.answered st.answered

    pub run_spends : Takes (step_given r) (allowance w) (items_listed (answers run_calls)) (allowance new)
    run_spends =
        takes_more (step_given r) (items_listed (answers f.calls)) (allowance now)
        (items_listed (answers st.calls)) (allowance new) (allowance w) (items_listed (answers run_calls))
        f.spends (listed_more f.calls st.calls) st.spends

    goes_so : (c : Course) → ComesWhole now (asking st.calls c) → ComesWhole w (asking run_calls c)
    goes_so c h = subst (ComesWhole w) (asking_then f.calls st.calls c) (f.goes (asking st.calls c) h)

    pub run_begins : MayTake (steps_view law w) (asking run_calls unknown)
    run_begins =
        let s = st.uses.some in
        may_take w (asking run_calls s.0) (asking run_calls unknown) (goes_so s.0 s.1)
        (begins_asking run_calls unknown s.0 tt)

  pub course_on : (w now new : Steps D C) → CourseSoFar w now
      → StepCourse law now (ComesWhole now) GoesOn new → CourseSoFar w new
  course_on w now new f st = record {
    calls = f.calls ++ st.calls;
    answered = run_answered w now new GoesOn f st;
    spends = run_spends w now new GoesOn f st;
    goes = λ c h. subst (λ d. ComesWhole w (asking (f.calls ++ st.calls) d)) (sym h.2)
        (goes_so w now new GoesOn f st (all_ahead h.0) (elim st.uses.follows [
          | inl g ↦ g h.0 h.1
          | inr c ↦ absurd (let e : None ≡ Some c.0 = c.1 in (cc))
        ]));
  }

  pub run_follows : (w now new : Steps D C) (x : _) (f : CourseSoFar w now)
      (st : StepCourse law now (ComesWhole now) (Gives x) new)
      → Follows (steps_view law w) (f.calls ++ st.calls) (Some (tree_given x)) (steps_view law new)
  run_follows w now new x f st = elim st.uses.follows [
    | inl g ↦ went_on (tree_given x) refl (λ a c m b.
        let calls = f.calls ++ st.calls in
        let e = m.0 in
        let all = yields (tree_given x) e.below e.after in
        let same : IsStartOf (yields (tree_given x) a.below a.after) all =
        (e.below, e.after, refl, m.2, m.3) in
        may_take w (asking calls all) (asking calls c) (goes_so w now new (Gives x) f st all (g e m.1))
        (begins_asking calls c all (begins_trans c (yields (tree_given x) a.below a.after) all b same)))
    | inr k ↦
        let same : tree_given x ≡ k.0 = let e : Some (tree_given x) ≡ Some k.0 = k.1 in (cc) in
        was_cut (tree_given x) refl
        (cuts_later f.calls st.calls (tree_given x) (subst (CutsShort st.calls) (sym same) k.2)) (inl k.3)
        (inl k.3)
  ]

  pub run_stops : (w now new : Steps D C) (f : CourseSoFar w now)
      (st : StepCourse law now (ComesWhole now) Ends new) → HasStopped new
      → Follows (steps_view law w) (f.calls ++ st.calls) None (steps_view law new)
  run_stops w now new f st h = elim st.uses.follows [
    | inl g ↦
        let calls = f.calls ++ st.calls in
        ended_so refl (may_take w (asking calls stop) (asking calls stop)
        (goes_so w now new Ends f st stop (g (ahead stop stop) (stopped_ahead new h)))
        (begins_itself (asking calls stop)))
    | inr c ↦ absurd (let e : None ≡ Some c.0 = c.1 in (cc))
  ]
