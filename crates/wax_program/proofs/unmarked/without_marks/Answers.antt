use Rattle.std.proofs.Common.{◌≡◌, ◌↔◌, ℕ, List, ap, arith, length, subst, sym}
use Rattle.wax_program.specs.{Closed.AcceptsMarked, Machine.Accepts}
use Rattle.wax_program.specs.declared.instruction.Instruction.{Instruction}
use Rattle.wax_program.proofs.WithoutMarks.{accepts_marked}
use Rattle.wax_program.proofs.unmarked.without_marks.Goals as goal

pub returns-clause-accepts : goal.returns-clause-accepts
returns-clause-accepts c =
    let code = c.args.program.now.0 in
    let held = c.loop-at.invariant in
    let items : List Instruction = c.loop-at.instructions.items in
    let copied : items ≡ c.new.result.0 = sym (ap (λ p. p.0) c.new.ensures) in
    let all : length items ≡ length code =
    omega (arith, held.count, held.within, c.loop-at-test.false, c.size-at-end.ensures.size) in
    subst (λ new. (s : List ℕ) → Accepts new 0 s ↔ AcceptsMarked code s) copied
    (accepts_marked code items c.requires.closed all held.each c.requires.some)
