use Rattle.std.proofs.Common.{arith, refl, ap, ◌∙◌, [], ◌∷◌, ◌+◌}
use Rattle.wax_directory.specs.{Shown.rest_of, Answers.listed_of, History.{at_end, listed}}
use Rattle.wax_directory.specs.Counting.{end_counts, item_counts, no_counts}
use Rattle.wax_tree.specs.Walking.{cursors_of, located, scope_of, begins, names_left, open_lists, step_given}
use Rattle.wax_tree.specs.declared.steps.Step.TheVariants.{GoesOn}
use Rattle.wax_tree.proofs.Resting.{rest_moved}
use Rattle.wax_tree.proofs.UsingAnswers.{step_from, answer_used, counted_same, ending_counted}
use Rattle.wax_tree.proofs.UsingAnswers.{failed_uses_answer, none_enters, silent_uses_answer}
use Rattle.wax_tree.proofs.{Showing.{shows_in_moved, shows_rest}, Stepping.goes_up}
use Rattle.wax_tree.proofs.Coursing.{closed_uses, ends_spends, item_taken, memory_uses, nothing_spent}
use Rattle.wax_tree.proofs.{Coursing.{some_rest, uses_moved}, Finding.one_item}
use Rattle.wax_walk.specs.{Given.no_memory, Course.call}
use Rattle.wax_tree.proofs.steps.Steps.list_next.Goals as goal

pub returns-in-Ok-None-clause-lists : goal.returns-in-Ok-None-clause-lists
returns-in-Ok-None-clause-lists g c l rest items b e =
    let law = g.D.Directory.law in
    let w = c.args.self.now in
    let o = rw c.in-Ok-None.field-0-is at c.in-Ok-None.ensures in
    let k = o.nexts (cursors_of w.levels.items) rest.has l b.held in
    let held = g.met.D.Directory.dropped c.next.new.self (cursors_of w.levels.items) rest.has
    c.next.new.cursor (rest_of l) k.1 in
    goes_up law w (record w { directory = c.next.new.self }) (located c.args.level.folder) l rest rest
    items k.0 refl refl
    (rest_moved law w c.next.new.self rest.listed rest b.rests o.shown held (o.told rest.listed b.rests.told)
    b.rests.opened)
    refl (omega (arith, e))

pub returns-in-Ok-Some-clause-lists : goal.returns-in-Ok-Some-clause-lists
returns-in-Ok-Some-clause-lists g c l rest items b e =
    let law = g.D.Directory.law in
    let w = c.args.self.now in
    let path = c.args.level.folder.path.path in
    let o = rw c.in-Ok-Some.field-0-is at c.in-Ok-Some.ensures in
    let k = o.nexts (cursors_of w.levels.items) rest.has l b.held in
    let held = g.met.D.Directory.dropped c.next.new.self (cursors_of w.levels.items) rest.has
    c.next.new.cursor (rest_of l) k.1 in
    let shown = shows_in_moved (law.shows w.directory) (law.shows c.next.new.self) o.shown path l b.shown in
    step_from law w (record w { directory = c.next.new.self }) c.take_from.new.self _ _ c.take_from.result
    refl refl refl
    (c.take_from.ensures.lists l rest items k.0
    (record {
      rests = rest_moved law w c.next.new.self rest.listed rest b.rests o.shown held
          (o.told rest.listed b.rests.told) b.rests.opened;
      held = k.1;
      shown = shows_rest (law.shows c.next.new.self) path l shown;
      opened = b.opened;
    }) shown e)

pub returns-in-Err-clause-answers : goal.returns-in-Err-clause-answers
returns-in-Err-clause-answers g c running first entered =
    let w = c.args.self.now in
    let d = c.next.new.self in
    rw (c.fail.ensures.memory, c.fail.ensures.ended)
    (answer_used g.D.Directory.law
    (record { counts = no_counts; taken = 0; names = names_left w; made = begins w }) w (open_lists w + 1) 0
    (begins w) 0 d _ _ c.in-Err.ensures.counted refl (omega arith) (λ n. omega arith) running first entered
    (λ n. refl) (λ n. absurd (n tt))
    (failed_uses_answer _ (record w { directory = d }) (counted_same _ 1) (omega arith) (omega arith)))

pub returns-in-Ok-None-clause-answers : goal.returns-in-Ok-None-clause-answers
returns-in-Ok-None-clause-answers g c running first entered =
    let w = c.args.self.now in
    let d = c.next.new.self in
    let o = rw c.in-Ok-None.field-0-is at c.in-Ok-None.ensures in
    answer_used g.D.Directory.law
    (record { counts = end_counts; taken = 0; names = names_left w; made = begins w }) w (open_lists w + 1) 0
    (begins w) 0 d GoesOn (record w { directory = d }) o.counted refl (omega arith) (λ n. omega arith)
    running first entered (λ n. refl) (λ n. omega arith)
    (silent_uses_answer _ (record w { directory = d }) (record w { directory = d }) 0 0 (omega arith)
    (λ a b e. none_enters (record w { directory = d }) e) refl refl (omega arith)
    (omega arith) ending_counted (λ e. refl) (omega arith))

pub returns-in-Ok-Some-clause-answers : goal.returns-in-Ok-Some-clause-answers
returns-in-Ok-Some-clause-answers g c running first entered =
    let w = c.args.self.now in
    let d = c.next.new.self in
    let o = rw c.in-Ok-Some.field-0-is at c.in-Ok-Some.ensures in
    let one = one_item c.in-Ok-Some.item in
    answer_used g.D.Directory.law
    (record { counts = item_counts c.in-Ok-Some.item; taken = 1; names = names_left w; made = begins w + 1 })
    w (open_lists w + 1) 0 (begins w) 0 d c.take_from.result c.take_from.new.self o.counted one.items
    (omega arith) (λ n. omega arith) running first entered (λ n. one.opened)
    (λ n. omega (arith, one.opened, one.ended, c.take_from.ensures.kept running n))
    (c.take_from.ensures.uses_answer running first)

pub returns-in-Err-clause-course : goal.returns-in-Err-clause-course
returns-in-Err-clause-course g c going first entered =
    let w = c.args.self.now in record {
      calls = [];
      answered = ap (λ v. g.D.Directory.law.answered v.directory) c.fail.ensures.ended
          ∙ c.in-Err.ensures.answered;
      spends = ends_spends w c.fail.new.self c.fail.result no_memory 0 (ap step_given c.fail.ensures.memory)
          (ap (λ v. v.has_ended) c.fail.ensures.ended) (omega arith);
      uses = memory_uses [] _ c.fail.result c.fail.new.self (some_rest w c.args.level.folder)
          c.fail.ensures.memory
          (ap (λ v. v.has_ended) c.fail.ensures.ended);
    }

pub returns-in-Ok-None-clause-course : goal.returns-in-Ok-None-clause-course
returns-in-Ok-None-clause-course g c going first entered =
    let w = c.args.self.now in
    let path = c.args.level.folder.path.path in
    let o = rw c.in-Ok-None.field-0-is at c.in-Ok-None.ensures in record {
      calls = call path at_end ∷ [];
      answered = o.answered;
      spends = nothing_spent w;
      uses =
          closed_uses w (record w { directory = c.next.new.self }) c.args.level.folder refl refl going first
          entered;
    }

pub returns-in-Ok-Some-clause-course : goal.returns-in-Ok-Some-clause-course
returns-in-Ok-Some-clause-course g c going first entered =
    let w = c.args.self.now in
    let path = c.args.level.folder.path.path in
    let x = c.in-Ok-Some.item in
    let o = rw c.in-Ok-Some.field-0-is at c.in-Ok-Some.ensures in
    let calls = call path (listed (listed_of x)) ∷ [] in record {
      calls = calls;
      answered =
          ap g.D.Directory.law.answered (c.take_from.ensures.uses_answer going first).directory ∙ o.answered;
      spends = (c.take_from.ensures.uses_answer going first).takes;
      uses = uses_moved calls _ _ c.take_from.result c.take_from.new.self (λ d h. (
        h.0,
        h.1,
        item_taken (scope_of w) (located c.args.level.folder) x h.0 d h.2,
      )) (c.take_from.ensures.course going first entered);
    }
