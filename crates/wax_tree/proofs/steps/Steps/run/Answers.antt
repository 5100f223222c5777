use Rattle.std.proofs.{Common.{◌≡◌, ◌∙◌, ℕ, [], ap, refl, sym, subst, arith, ◌++◌}, lemmas.List.append-nil}
use Rattle.wax_tree.specs.{declared.steps.Step.TheVariants.{Gives, Ends}, Walking.{step_given, entering}}
use Rattle.wax_tree.proofs.{Stepping.{leads_on, run_gives}, Reaching.{run_places, run_reaches}}
use Rattle.wax_tree.proofs.Listing.{accounts_none, accounts_on, accounts_run, stopped_begun, stopped_closed}
use Rattle.wax_tree.proofs.CourseRuns.{course_begun, course_on, run_answered, run_begins, run_follows}
use Rattle.wax_tree.proofs.CourseRuns.{run_spends, run_stops}
use Rattle.wax_walk.specs.View.{opens_one, is_above}
use Rattle.wax_tree.proofs.steps.Steps.run.Goals as goal

pub loop-item-init : goal.loop-item-init
loop-item-init g c = record {
  fewer = omega arith;
  stays = λ h. h;
  idles = λ h. refl;
  names = omega arith;
  accounts = accounts_none g.D.Directory.law c.args.self.now;
  course = course_begun g.D.Directory.law c.args.self.now;
  above = refl;
  from = refl;
  reaches = λ path n i. i;
  leads = λ p h. (p, h, ([], refl, sym (append-nil p.listed)), omega arith);
}

pub returns-in-Gives : goal.returns-in-Gives
returns-in-Gives g c =
    let law = g.D.Directory.law in
    let i = c.loop-item.invariant in
    let st = c.in-Gives.ensures.is_step in
    let T : ℕ → Type 0 =
    λ n. entering c.step.new.self ≡ opens_one (is_above n) (step_given (Gives c.in-Gives.item)) in
    record {
      feeds = record {
        gives = λ p h. let q = i.leads p h in run_gives law c.args.self.now c.loop-item.self c.step.new.self p
            q.0 _ q.2 q.3 (c.in-Gives.ensures.step q.0 q.1);
        calls = i.course.calls ++ c.in-Gives.ensures.course.calls;
        answered =
            run_answered law c.args.self.now c.loop-item.self c.step.new.self (Gives c.in-Gives.item) i.course
            c.in-Gives.ensures.course;
        spends =
            run_spends law c.args.self.now c.loop-item.self c.step.new.self (Gives c.in-Gives.item) i.course
            c.in-Gives.ensures.course;
        begins =
            run_begins law c.args.self.now c.loop-item.self c.step.new.self (Gives c.in-Gives.item) i.course
            c.in-Gives.ensures.course;
        follows = run_follows law c.args.self.now c.loop-item.self c.step.new.self c.in-Gives.item i.course
            c.in-Gives.ensures.course;
        accounts = accounts_run law c.args.self.now c.loop-item.self c.step.new.self _ i.from i.above
            i.accounts st.accounts;
        at_end = λ e. (cc);
        closed = λ e. (cc);
        begun = λ e. (cc);
        from = st.from ∙ i.from;
        to_open = subst T i.above (st.to_open (λ e. (cc)));
        above = ap is_above (st.above ∙ i.above);
        stays = λ e. let s : Gives c.in-Gives.item ≡ Ends =
            (st.stays (i.stays e)).0 in (cc, (st.stays (i.stays e)).1);
        idles = λ e. ((st.stays (i.stays e)).1, st.idles (i.stays e) ∙ i.idles e);
        names = omega (arith, st.names, i.names);
        misplaced = λ m. omega (arith, st.misplaced m, i.names);
        places = run_places law c.args.self.now c.loop-item.self c.step.new.self (Gives c.in-Gives.item)
            i.reaches i.above c.in-Gives.ensures.places (λ e. (cc));
      };
      fewer = omega (arith, c.in-Gives.ensures.measure, i.fewer);
    }

pub returns-in-Ends : goal.returns-in-Ends
returns-in-Ends g c =
    let law = g.D.Directory.law in
    let i = c.loop-item.invariant in
    let st = c.in-Ends.ensures.is_step in
    record {
      feeds = record {
        gives = λ p h. let q = i.leads p h in run_gives law c.args.self.now c.loop-item.self c.step.new.self p
            q.0 _ q.2 q.3 (c.in-Ends.ensures.step q.0 q.1);
        calls = i.course.calls ++ c.in-Ends.ensures.course.calls;
        answered = run_answered law c.args.self.now c.loop-item.self c.step.new.self Ends i.course
            c.in-Ends.ensures.course;
        spends = run_spends law c.args.self.now c.loop-item.self c.step.new.self Ends i.course
            c.in-Ends.ensures.course;
        begins = run_begins law c.args.self.now c.loop-item.self c.step.new.self Ends i.course
            c.in-Ends.ensures.course;
        follows =
            run_stops law c.args.self.now c.loop-item.self c.step.new.self i.course c.in-Ends.ensures.course
            (st.at_end refl);
        accounts = accounts_run law c.args.self.now c.loop-item.self c.step.new.self _ i.from i.above
            i.accounts st.accounts;
        at_end = λ e. st.at_end refl;
        closed = λ e. stopped_closed c.step.new.self (st.at_end refl);
        begun = λ e. stopped_begun c.step.new.self (st.at_end refl);
        from = st.from ∙ i.from;
        to_open = st.to_open (λ e. (cc));
        above = ap is_above (st.above ∙ i.above);
        stays = λ e. (refl, st.at_end refl);
        idles = λ e. (st.at_end refl, st.idles (i.stays e) ∙ i.idles e);
        names = omega (arith, st.names, i.names);
        misplaced = λ m. absurd m;
        places = run_places law c.args.self.now c.loop-item.self c.step.new.self Ends i.reaches i.above
            c.in-Ends.ensures.places (λ e. st.at_end refl);
      };
      fewer = tt;
    }

pub loop-item-preserved : goal.loop-item-preserved
loop-item-preserved g c =
    let law = g.D.Directory.law in
    let i = c.loop-item.invariant in
    let st = c.in-GoesOn.ensures.is_step in
    record {
      fewer = omega (arith, c.in-GoesOn.ensures.measure.0, i.fewer);
      stays = λ e. (st.stays (i.stays e)).1;
      idles = λ e. st.idles (i.stays e) ∙ i.idles e;
      names = omega (arith, st.names, i.names);
      course =
          course_on law c.args.self.now c.loop-item.self c.step.new.self i.course c.in-GoesOn.ensures.course;
      accounts = accounts_on law c.args.self.now c.loop-item.self c.step.new.self i.from i.above
          i.accounts st.accounts;
      above = st.above ∙ i.above;
      from = st.from ∙ i.from;
      reaches = run_reaches c.args.self.now c.loop-item.self c.step.new.self i.reaches
          c.in-GoesOn.ensures.places;
      leads = λ p h.
          let q = i.leads p h in
          let n = c.in-GoesOn.ensures.step q.0 q.1 in
          (n.0, n.1, leads_on p q.0 n.0 q.2 n.2, omega (arith, q.3, n.3));
    }
