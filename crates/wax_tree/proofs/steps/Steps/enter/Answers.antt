use Rattle.std.specs.Prelude.{Some}
use Rattle.std.proofs.Common.{subst, refl, sym, ap, inl, Err, ◌++◌, ◌∷◌, [], ◌≡◌, ◌+◌, ◌≤◌, ◌∙◌, arith, cond}
use Rattle.std.proofs.Common.{length, length-append, true}
use Rattle.wax_walk.specs.declared.error.FaultKind.TheVariants.{Listing}
use Rattle.wax_walk.specs.{declared.error.WalkError.TheVariants.{Fault, Memory}, Given.{fault, no_memory}}
use Rattle.wax_walk.specs.{View.lacks_memory, Course.{asking, asks, call, stop, yields}}
use Rattle.wax_tree.specs.Walking.{cursors_of, located, scope_of, allowance, begins, names_left, open_lists}
use Rattle.wax_tree.specs.{Walking.step_given, Reaching.{IsOf, OfAny, ReachesFrom, no_folders}}
use Rattle.wax_tree.specs.{Stepping.{FolderComes, Asked}, declared.steps.Step.TheVariants.{GoesOn, Gives}}
use Rattle.wax_tree.proofs.{Resting.{rest_moved, listed_more}, Stepping.{enters, enters_sealed}}
use Rattle.wax_tree.proofs.Reaching.{failed_places, fault_places, leads_here, pushed_reaches, reaches_more}
use Rattle.wax_tree.proofs.Reaching.{silent_places}
use Rattle.wax_tree.proofs.Coursing.{ends_spends, fault_uses, memory_uses, nothing_spent, opened_uses}
use Rattle.wax_tree.proofs.{Coursing.{some_folder, some_opened}, steps.Steps.enter.Goals.{in-Ok-push, in-Err}}
use Rattle.wax_tree.proofs.UsingAnswers.{answer_used, counted_same, failed_uses_answer, failure_counted}
use Rattle.wax_tree.proofs.UsingAnswers.{gives_uses_answer, memory_uses_answer, opening_counted, opening_lost}
use Rattle.wax_tree.proofs.UsingAnswers.{none_enters, silent_uses_answer}
use Rattle.wax_directory.specs.{History.{opened, refused}, Shown.a_sealed, Counting.no_counts}
use Rattle.wax_tree.proofs.steps.Steps.enter.Goals as goal

pub returns-after-push-clause-continues : goal.returns-after-push-clause-continues
returns-after-push-clause-continues g c s h i rest items r e =
    let law = g.D.Directory.law in
    let w = c.args.self.now in
    let path = c.args.folder.path.path in
    let o = rw c.as_str.ensures at c.in-Ok.ensures in
    elim c.match-push.branch [
      | in-Ok-push v ↦ rw (v.self-is, v.result-is)
          (enters law w (record w { levels = c.push.new.self }) c.open.new.self
          (record { folder = c.args.folder; cursor = c.in-Ok.cursor }) s rest items i
          (o.opens (cursors_of w.levels.items) rest.has s r.held h) (o.shown path s h)
          (λ l k. g.met.D.Directory.inner c.open.new.self path l k)
          (λ l k. rest_moved law w c.open.new.self (rest.listed ++ path ∷ []) rest r o.shown
          (o.held (cursors_of w.levels.items) rest.has r.held) (o.told rest.listed r.told)
          (listed_more w.levels.items rest.listed (path ∷ []) r.opened))
          v.in-Ok-push.ensures.items e)
      | in-Err v ↦ rw (v.result-is, v.fail.ensures.memory) (lacks_memory refl)
    ]

pub returns-in-Err-Failed-clause-continues : goal.returns-in-Err-Failed-clause-continues
returns-in-Err-Failed-clause-continues g c s h i rest items r e =
    let law = g.D.Directory.law in
    let w = c.args.self.now in
    let path = c.args.folder.path.path in
    let o = rw (c.as_str.ensures, c.in-Err-Failed.field-0-is) at c.in-Err-Failed.ensures in
    let told : law.tells c.open.new.self (rest.listed ++ path ∷ []) = rw (sym c.as_str.ensures)
    (o.told rest.listed r.told) in
    enters_sealed law w c.open.new.self (located c.args.folder) s rest items
    (Err (Fault Listing c.into_string-path.result c.saturating_sub-depth.result)) i
    (o.opens (cursors_of w.levels.items) rest.has s r.held h)
    (ap (λ p. fault Listing p c.saturating_sub-depth.result) c.into_string-path.ensures
    ∙ ap (fault Listing path) c.saturating_sub-depth.ensures)
    (rest_moved law w c.open.new.self (rest.listed ++ path ∷ []) rest r o.shown
    (o.held (cursors_of w.levels.items) rest.has r.held) told
    (listed_more w.levels.items rest.listed (path ∷ []) r.opened)) e

pub returns-after-push-clause-places : goal.returns-after-push-clause-places
returns-after-push-clause-places g c none =
    let w = c.args.self.now in
    let of = ReachesFrom w (IsOf c.args.folder) in
    elim c.match-push.branch [
      | in-Ok-push v ↦ rw (v.self-is, v.result-is)
          (silent_places of of w.max
          (record w { directory = c.open.new.self; levels = c.push.new.self }) _ refl
          none (pushed_reaches w (record w { directory = c.open.new.self; levels = c.push.new.self })
          (record { folder = c.args.folder; cursor = c.in-Ok.cursor }) no_folders refl refl
          v.in-Ok-push.ensures.items (λ p n i. absurd i)))
      | in-Err v ↦ rw (v.self-is, v.result-is, v.fail.ensures.memory, v.fail.ensures.ended)
          (failed_places of of w.max (record w { directory = c.open.new.self; levels = c.push.new.self }))
    ]

pub returns-in-Err-Failed-clause-places : goal.returns-in-Err-Failed-clause-places
returns-in-Err-Failed-clause-places g c none =
    let w = record c.args.self.now { directory = c.open.new.self } in
    let of = ReachesFrom w (IsOf c.args.folder) in
    fault_places of of w.max w Listing c.into_string-path.result
    c.saturating_sub-depth.result c.args.folder.depth
    c.saturating_sub-depth.ensures
    (subst (λ p. of p c.args.folder.depth) (sym c.into_string-path.ensures)
    (leads_here w.min (OfAny w (IsOf c.args.folder)) _ _ (inl (refl, refl)))) none
    (reaches_more w no_folders (IsOf c.args.folder) (λ p n i. absurd i))

pub returns-after-push-clause-answers : goal.returns-after-push-clause-answers
returns-after-push-clause-answers g c running first entered =
    let law = g.D.Directory.law in
    let w = c.args.self.now in
    let d = c.open.new.self in
    let o = c.in-Ok.ensures in
    let asked : Asked = record {
      counts = record no_counts { opened = 1 };
      taken = 0;
      names = names_left w;
      made = begins w;
    } in
    elim c.match-push.branch [
      | in-Ok-push v ↦
          let new = record w { directory = d; levels = c.push.new.self } in
          let before : open_lists w ≡ length w.levels.items =
          ap (λ b. cond b 0 (length w.levels.items)) running in
          let after : open_lists new ≡ length c.push.new.self.items =
          ap (λ b. cond b 0 (length c.push.new.self.items)) running in
          let begun : begins new ≡ begins w = refl in
          let long = ap length v.in-Ok-push.ensures.items ∙ length-append w.levels.items _ in
          rw (v.self-is, v.result-is)
          (answer_used law asked w (open_lists w) 1 (begins w) 0 d GoesOn new o.counted refl (omega arith)
          (λ n. omega arith) running first entered (λ n. refl) (λ n. omega (arith, before, after, long))
          (silent_uses_answer asked (record w { directory = d }) new 0 0 (omega arith)
          (λ a b e. none_enters new e) refl refl (omega arith) (omega arith) opening_counted (λ e. refl)
          (omega (arith, begun))))
      | in-Err v ↦
          let new = record w { directory = d; levels = c.push.new.self; has_ended = true } in
          rw (v.self-is, v.result-is, v.fail.ensures.memory, v.fail.ensures.ended)
          (answer_used law asked w (open_lists w) 1 (begins w) 0 d (Gives (Err Memory)) new o.counted refl
          (omega arith) (λ n. omega arith) running first entered (λ n. refl) (λ n. absurd (n tt))
          (memory_uses_answer asked (record w { directory = d }) new (Gives (Err Memory)) refl refl refl
          (omega arith) opening_lost (omega arith)))
    ]

pub returns-in-Err-Failed-clause-answers : goal.returns-in-Err-Failed-clause-answers
returns-in-Err-Failed-clause-answers g c running first entered =
    let w = c.args.self.now in
    let d = c.open.new.self in
    let o = rw c.in-Err-Failed.field-0-is at c.in-Err-Failed.ensures in
    answer_used g.D.Directory.law
    (record {
      counts = record no_counts { failures = 1; opened = 1; ended = 1 };
      taken = 0;
      names = names_left w;
      made = begins w + 1;
    }) w (open_lists w) 1 (begins w) 1 d _ _ o.counted refl (omega arith) (λ n. omega arith) running first
    entered (λ n. refl) (λ n. omega arith)
    (gives_uses_answer _ (record w { directory = d })
    (Err (Fault Listing c.into_string-path.result c.saturating_sub-depth.result))
    (failure_counted _ refl refl refl) refl refl
    (omega arith) (λ i. i) (λ i. i) (omega arith))

pub returns-in-Err-Memory-clause-answers : goal.returns-in-Err-Memory-clause-answers
returns-in-Err-Memory-clause-answers g c running first entered =
    let w = c.args.self.now in
    let d = c.open.new.self in
    let o = rw c.in-Err-Memory.field-0-is at c.in-Err-Memory.ensures in
    rw (c.fail-in-Err-Memory.ensures.memory, c.fail-in-Err-Memory.ensures.ended)
    (answer_used g.D.Directory.law
    (record {
      counts = no_counts;
      taken = 0;
      names = names_left w;
      made = begins w;
    }) w (open_lists w) 1 (begins w) 0 d _ _ o.counted refl (omega arith) (λ n. omega arith)
    running first entered (λ n. absurd (n tt)) (λ n. absurd (n tt))
    (failed_uses_answer _ (record w { directory = d }) (counted_same _ 1) (omega arith) (omega arith)))

pub returns-after-push-clause-course : goal.returns-after-push-clause-course
returns-after-push-clause-course g c going first entered =
    let w = c.args.self.now in
    let d = c.open.new.self in
    let law = g.D.Directory.law in
    let path = c.args.folder.path.path in
    let calls = call path (opened path) ∷ [] in
    let answered = c.in-Ok.ensures.answered
    ∙ ap (λ p. law.answered w.directory ++ opened p ∷ []) c.as_str.ensures in
    elim c.match-push.branch [
      | in-Ok-push v ↦ rw (v.self-is, v.result-is) (record {
        calls = calls;
        answered = answered;
        spends = nothing_spent w;
        uses = opened_uses w (record w { directory = d; levels = c.push.new.self })
            (record { folder = c.args.folder; cursor = c.in-Ok.cursor }) v.in-Ok-push.ensures.items refl going
            first entered;
      })
      | in-Err v ↦ rw (v.self-is, v.result-is, v.fail.ensures.memory, v.fail.ensures.ended) (record {
        calls = calls;
        answered = answered;
        spends = let t : 0 + 0 ≤ allowance w = omega arith in t;
        uses = memory_uses calls _ (Gives (Err Memory)) _ (some_opened w c.args.folder) refl refl;
      })
    ]

pub returns-in-Err-Failed-clause-course : goal.returns-in-Err-Failed-clause-course
returns-in-Err-Failed-clause-course g c going first entered =
    let w = c.args.self.now in
    let law = g.D.Directory.law in
    let path = c.args.folder.path.path in
    let o = rw c.in-Err-Failed.field-0-is at c.in-Err-Failed.ensures in
    let v = record w { directory = c.open.new.self } in
    let calls = call path (refused path) ∷ [] in record {
      calls = calls;
      answered = o.answered ∙ ap (λ p. law.answered w.directory ++ refused p ∷ []) c.as_str.ensures;
      spends = nothing_spent w;
      uses = fault_uses calls
          (λ rest d. FolderComes (scope_of w) (located c.args.folder) rest (asking calls d)) v v _
          (fault Listing path c.saturating_sub-depth.result)
          (ap (λ p. Some (fault Listing p c.saturating_sub-depth.result)) c.into_string-path.ensures) going
          first
          entered refl
          (λ rest. (
            a_sealed,
            tt,
            tt,
            ap (λ n. asks (call path (refused path)) (yields (fault Listing path n) stop rest))
                c.saturating_sub-depth.ensures,
          ));
    }

pub returns-in-Err-Memory-clause-course : goal.returns-in-Err-Memory-clause-course
returns-in-Err-Memory-clause-course g c going first entered =
    let w = c.args.self.now in
    let o = rw c.in-Err-Memory.field-0-is at c.in-Err-Memory.ensures in record {
      calls = [];
      answered =
          ap (λ v. g.D.Directory.law.answered v.directory) c.fail-in-Err-Memory.ensures.ended ∙ o.answered;
      spends = ends_spends w c.fail-in-Err-Memory.new.self c.fail-in-Err-Memory.result no_memory 0
          (ap step_given c.fail-in-Err-Memory.ensures.memory)
          (ap (λ v. v.has_ended) c.fail-in-Err-Memory.ensures.ended) (omega arith);
      uses = memory_uses [] _ c.fail-in-Err-Memory.result c.fail-in-Err-Memory.new.self
          (some_folder w c.args.folder)
          c.fail-in-Err-Memory.ensures.memory (ap (λ v. v.has_ended) c.fail-in-Err-Memory.ensures.ended);
    }
