use Rattle.std.proofs.Common.{◌≡◌, ap, arith, [], ◌+◌, ◌∙◌, refl}
use Rattle.std.specs.Prelude.{Ok}
use Rattle.wax_walk.specs.Entries.{facts_of}
use Rattle.wax_tree.specs.Plain.{plain_entry}
use Rattle.wax_tree.specs.Walking.{entry_location, tree_given, allowance, begins, entering, names_left}
use Rattle.wax_tree.specs.Stepping.{nothing_asked}
use Rattle.wax_tree.proofs.Stepping.{goes_silently, gives_entry}
use Rattle.wax_tree.proofs.UsingAnswers.{counted_same, entered_uses_answer, one_enters, memory_uses_answer}
use Rattle.wax_tree.proofs.UsingAnswers.{silent_uses_answer}
use Rattle.wax_tree.proofs.Coursing.{gives_uses, memory_uses, passes_uses, some_entry}
use Rattle.wax_tree.proofs.Listing.{remembers_one}
use Rattle.wax_tree.proofs.steps.Steps.give.Goals as goal

pub returns-then-depth-self-clause-continues : goal.returns-then-depth-self-clause-continues
returns-then-depth-self-clause-continues g c s h k rest items r e =
    let f = facts_of c.args.entry in
    let i = c.in-Ok.ensures.entered s r.entered h k in
    goes_silently g.D.Directory.law c.args.self.now c.enter_later.new.self c.enter_later.new.self.entered
    (entry_location f) f.kind s i.0 items rest c.enter_later.ensures.rest
    (omega (arith, c.depth.ensures, c.if-depth-self.true)) r i.2 i.1 e

pub returns-clause-continues : goal.returns-clause-continues
returns-clause-continues g c s h k rest items r e =
    let w = c.args.self.now in
    let f = facts_of c.args.entry in
    let i = c.in-Ok.ensures.entered s r.entered h k in
    let given : tree_given (Ok c.args.entry) ≡ plain_entry (entry_location f) f.kind = refl in
    gives_entry g.D.Directory.law w c.enter_later.new.self c.enter_later.new.self.entered
    (entry_location f) f.kind s
    i.0 items rest (Ok c.args.entry) c.enter_later.ensures.rest
    (omega (arith, c.depth.ensures, c.if-depth-self.false)) given r i.2 i.1 e

pub returns-in_default-clause-uses_answer : goal.returns-in_default-clause-uses_answer
returns-in_default-clause-uses_answer g c =
    let w = c.args.self.now in
    let e = c.fail.ensures.ended in
    let rest = c.enter_later.ensures.rest in
    let few : names_left c.fail.new.self ≡ names_left w = ap names_left e ∙ ap names_left rest in
    memory_uses_answer (nothing_asked (names_left w) (begins w + 1)) w c.fail.new.self c.fail.result
    c.fail.ensures.memory (ap (λ v. v.directory) e ∙ ap (λ v. v.directory) rest) (ap (λ v. v.has_ended) e)
    (omega (arith, few)) (counted_same _ 1) (omega arith)

pub returns-then-depth-self-clause-uses_answer : goal.returns-then-depth-self-clause-uses_answer
returns-then-depth-self-clause-uses_answer g c =
    let w = c.args.self.now in
    let rest = c.enter_later.ensures.rest in
    let few : names_left c.enter_later.new.self ≡ names_left w = ap names_left rest in
    let min : c.enter_later.new.self.min ≡ w.min = ap (λ v. v.min) rest in
    let left : allowance c.enter_later.new.self ≡ allowance w = ap allowance rest in
    let begun : begins c.enter_later.new.self ≡ begins w = ap begins rest in
    silent_uses_answer (nothing_asked (names_left w) (begins w + 1)) w c.enter_later.new.self 1
    (entering c.enter_later.new.self) (one_enters c.enter_later.new.self) (λ going first entered. refl) refl
    (ap (λ v. v.directory) rest) (omega (arith, left)) (omega (arith, few)) (counted_same _ 0)
    (λ e. absurd (omega (arith, e, min, c.if-depth-self.true))) (omega (arith, begun))

pub returns-clause-uses_answer : goal.returns-clause-uses_answer
returns-clause-uses_answer g c =
    let w = c.args.self.now in
    let new = c.enter_later.new.self in
    let rest = c.enter_later.ensures.rest in
    entered_uses_answer (names_left w) w new c.args.entry rest (omega arith)
    (λ going first entered. remembers_one (facts_of c.args.entry) w new rest going first entered
    c.in-Ok.ensures.remembered
    (λ p n i. let t = c.in-Ok.ensures.folder entered p n i in (t.1, t.2)))

pub returns-in_default-clause-course : goal.returns-in_default-clause-course
returns-in_default-clause-course g c going first entered =
    let w = c.args.self.now in
    memory_uses [] _ c.fail.result c.fail.new.self (some_entry w (facts_of c.args.entry))
    c.fail.ensures.memory
    (ap (λ v. v.has_ended) c.fail.ensures.ended)

pub returns-then-depth-self-clause-course : goal.returns-then-depth-self-clause-course
returns-then-depth-self-clause-course g c going first entered =
    let w = c.args.self.now in
    let rest = c.enter_later.ensures.rest in
    let min : c.enter_later.new.self.min ≡ w.min = ap (λ v. v.min) rest in
    passes_uses w c.enter_later.new.self (facts_of c.args.entry) rest going first entered
    c.in-Ok.ensures.enters
    (omega (arith, c.depth.ensures, c.if-depth-self.true, min))

pub returns-clause-course : goal.returns-clause-course
returns-clause-course g c going first entered =
    let w = c.args.self.now in
    let f = facts_of c.args.entry in
    let rest = c.enter_later.ensures.rest in
    let min : c.enter_later.new.self.min ≡ w.min = ap (λ v. v.min) rest in
    let given : tree_given (Ok c.args.entry) ≡ plain_entry (entry_location f) f.kind = refl in
    gives_uses w c.enter_later.new.self f rest going first entered c.in-Ok.ensures.enters
    (Ok c.args.entry) given
    (omega (arith, c.depth.ensures, c.if-depth-self.false, min))
