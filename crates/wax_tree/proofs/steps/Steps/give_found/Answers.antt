use Rattle.std.proofs.Common.{arith, ap, refl, subst, string_bytes, ◌≡◌, ◌≤◌, ◌+◌, ◌-◌, []}
use Rattle.std.specs.Prelude.{Err}
use Rattle.wax_walk.specs.Given.{fault}
use Rattle.wax_tree.specs.{Plain.count_shown, Reaching.{OneFolder, ReachesFrom}}
use Rattle.wax_tree.specs.{Stepping.{StepPlaces, ItemComes}, Walking.{begins, names_left, scope_of}}
use Rattle.wax_tree.proofs.Finding.{found_entry, found_fault, entry_uses_answer, found_uses_answer}
use Rattle.wax_tree.proofs.{Resting.comes_rest, Stepping.gives_fault, Reaching.{entry_places, found_places}}
use Rattle.wax_tree.proofs.Coursing.{entry_item, fault_item, fault_uses, uses_moved}
use Rattle.wax_walk.specs.declared.error.WalkError.TheVariants as W
use Rattle.wax_tree.proofs.steps.Steps.give_found.Goals as goal

pub returns-in-Entry-clause-uses_answer : goal.returns-in-Entry-clause-uses_answer
returns-in-Entry-clause-uses_answer g c at x f =
    entry_uses_answer at x c.in-Entry.entry (names_left c.args.self.now)
    (begins c.args.self.now + 1) c.args.self.now c.give.new.self c.give.result (rw c.in-Entry.is at f)
    c.give.ensures.uses_answer

pub returns-in-Entry-clause-continues : goal.returns-in-Entry-clause-continues
returns-in-Entry-clause-continues g c at x l f d h i rest items r e =
    let w = c.args.self.now in
    let found = rw c.in-Entry.is at f in
    let t = found_entry (scope_of w) at (g.D.Directory.law.shows w.directory) x
    c.in-Entry.entry l rest.forest found
    h i in
    let few : count_shown t.0 + rest.count ≤ items = omega (arith, e, t.3) in
    rw t.4 (c.give.ensures.continues t.0 t.1 t.2 rest items r few)

pub returns-in-Fault-clause-uses_answer : goal.returns-in-Fault-clause-uses_answer
returns-in-Fault-clause-uses_answer g c at x f =
    found_uses_answer at x c.in-Fault.kind c.in-Fault.path c.saturating_sub.result c.args.self.now
    (rw c.in-Fault.is at f)

pub returns-in-Fault-clause-continues : goal.returns-in-Fault-clause-continues
returns-in-Fault-clause-continues g c at x l f d h i rest items r e =
    let law = g.D.Directory.law in
    let w = c.args.self.now in
    let is = found_fault (scope_of w) at (law.shows w.directory) x c.in-Fault.kind c.in-Fault.path l
    rest.forest (rw c.in-Fault.is at f) h i in
    let depth : c.saturating_sub.result ≡ at.depth - 1 = omega (arith, d, c.saturating_sub.ensures) in
    gives_fault law w w _ rest.forest rest.listed items
    (fault c.in-Fault.kind (string_bytes c.in-Fault.path) (at.depth - 1))
    (Err (W.Fault c.in-Fault.kind c.in-Fault.path c.saturating_sub.result)) is
    (ap (fault c.in-Fault.kind (string_bytes c.in-Fault.path)) depth) (λ n. refl)
    (comes_rest law w items rest r (omega (arith, e)))

pub returns-in-Entry-clause-places : goal.returns-in-Entry-clause-places
returns-in-Entry-clause-places g c none at x f d =
    let w = c.args.self.now in
    subst (λ depth.
    StepPlaces (ReachesFrom w (OneFolder at.path depth)) (ReachesFrom w (OneFolder at.path depth))
    w.max c.give.result c.give.new.self) d
    (entry_places w at x c.in-Entry.entry c.give.result c.give.new.self (rw c.in-Entry.is at f)
    (c.give.ensures.places none))

pub returns-in-Fault-clause-places : goal.returns-in-Fault-clause-places
returns-in-Fault-clause-places g c none at x f d =
    found_places c.args.self.now at x c.in-Fault.kind c.in-Fault.path c.saturating_sub.result c.args.depth
    (rw c.in-Fault.is at f) c.saturating_sub.ensures none

pub returns-in-Entry-clause-course : goal.returns-in-Entry-clause-course
returns-in-Entry-clause-course g c going first entered at x f d =
    let w = c.args.self.now in
    let found = rw c.in-Entry.is at f in
    uses_moved [] _ _ c.give.result c.give.new.self (λ e h. (
      h.0,
      h.1,
      entry_item (scope_of w) at x c.in-Entry.entry h.0 e found h.2,
    )) (c.give.ensures.course going first entered)

pub returns-in-Fault-clause-course : goal.returns-in-Fault-clause-course
returns-in-Fault-clause-course g c going first entered at x f d =
    let w = c.args.self.now in
    let depth : c.saturating_sub.result ≡ at.depth - 1 = omega (arith, d, c.saturating_sub.ensures) in
    fault_uses [] (ItemComes (scope_of w) at x) w w _
    (fault c.in-Fault.kind (string_bytes c.in-Fault.path) c.saturating_sub.result) refl
    going first entered refl
    (λ rest. fault_item (scope_of w) at x c.in-Fault.kind c.in-Fault.path
    c.saturating_sub.result rest depth (rw c.in-Fault.is at f))
