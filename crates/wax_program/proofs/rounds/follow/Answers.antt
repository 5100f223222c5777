use Rattle.std.proofs.Common.{◌<◌, Some, inl, inr, arith, IsTrue, ◌∙◌, ap, refl, rules}
use Rattle.std.proofs.Math.Utf8.{scalar_cases}
use Rattle.wax_program.specs.Machine.{PassesTest}
use Rattle.wax_program.proofs.Advancing.{followed_any, followed_back, followed_end, followed_fork}
use Rattle.wax_program.proofs.Advancing.{followed_jump, followed_last, followed_more, followed_pass}
use Rattle.wax_program.proofs.Advancing.{followed_slash}
use Rattle.wax_program.proofs.Staying.{noted_back, noted_components, noted_fork, noted_jump, noted_unknown}
use Rattle.wax_program.proofs.Staying.{noted_miss, noted_repeat}
use Rattle.wax_program.proofs.rounds.follow.Goals as goal

pub returns-then-passes-clause-followed : goal.returns-then-passes-clause-followed
returns-then-passes-clause-followed g c =
    let p : PassesTest c.in-Check.test c.args.c = search rules in
    followed_pass c.args.program.now.0 c.args.c c.args.at (g.R.Sets.position c.args.sets.now)
    (g.R.Sets.position c.insert_next.new.self) c.in-Check.test
    (c.fetch.ensures.instruction ∙ ap (λ i. Some i) c.in-Check.is) p c.insert_next.ensures

pub returns-then-passes-2-clause-followed : goal.returns-then-passes-2-clause-followed
returns-then-passes-2-clause-followed g c =
    let p : PassesTest c.in-Repeat.test c.args.c = search rules in
    followed_more c.args.program.now.0 c.args.c c.args.at (g.R.Sets.position c.args.sets.now)
    (g.R.Sets.position c.insert_next-then-passes-2.new.self) c.in-Repeat.test
    (g.R.Sets.position c.insert.new.self)
    (c.fetch.ensures.instruction ∙ ap (λ i. Some i) c.in-Repeat.is) p c.insert.ensures
    c.insert_next-then-passes-2.ensures

pub returns-else-passes-2-clause-followed : goal.returns-else-passes-2-clause-followed
returns-else-passes-2-clause-followed g c =
    followed_last c.args.program.now.0 c.args.c c.args.at (g.R.Sets.position c.args.sets.now)
    (g.R.Sets.position c.insert.new.self) c.in-Repeat.test
    (c.fetch.ensures.instruction ∙ ap (λ i. Some i) c.in-Repeat.is)
    (λ h. (let t : IsTrue c.passes-in-Repeat.result = c.passes-in-Repeat.ensures.1 h in
    absurd (search (rules, t)))) c.insert.ensures

pub returns-then-c-eq47-clause-followed : goal.returns-then-c-eq47-clause-followed
returns-then-c-eq47-clause-followed g c =
    followed_slash c.args.program.now.0 c.args.c c.args.at (g.R.Sets.position c.args.sets.now)
    (g.R.Sets.position c.insert_next-then-c-eq47.new.self)
    (g.R.Sets.position c.insert_next-in-Components.new.self)
    (c.fetch.ensures.instruction ∙ ap (λ i. Some i) c.in-Components.is) c.if-c-eq47.true
    c.insert_next-in-Components.ensures c.insert_next-then-c-eq47.ensures

pub returns-else-c-eq47-clause-followed : goal.returns-else-c-eq47-clause-followed
returns-else-c-eq47-clause-followed g c =
    followed_any c.args.program.now.0 c.args.c c.args.at (g.R.Sets.position c.args.sets.now)
    (g.R.Sets.position c.insert_next-in-Components.new.self)
    (c.fetch.ensures.instruction ∙ ap (λ i. Some i) c.in-Components.is) c.if-c-eq47.false
    c.insert_next-in-Components.ensures

pub returns-in-Fork-clause-followed : goal.returns-in-Fork-clause-followed
returns-in-Fork-clause-followed g c =
    followed_fork c.args.program.now.0 c.args.c c.args.at (g.R.Sets.position c.args.sets.now)
    (g.R.Sets.position c.insert_after.new.self) c.in-Fork.n (g.R.Sets.position c.insert-in-Fork.new.self)
    (c.fetch.ensures.instruction ∙ ap (λ i. Some i) c.in-Fork.is) c.insert-in-Fork.ensures
    c.insert_after.ensures

pub returns-in-Jump-clause-followed : goal.returns-in-Jump-clause-followed
returns-in-Jump-clause-followed g c =
    followed_jump c.args.program.now.0 c.args.c c.args.at (g.R.Sets.position c.args.sets.now)
    (g.R.Sets.position c.insert_after-in-Jump.new.self) c.in-Jump.n
    (c.fetch.ensures.instruction ∙ ap (λ i. Some i) c.in-Jump.is) c.insert_after-in-Jump.ensures

pub returns-in-Back-clause-followed : goal.returns-in-Back-clause-followed
returns-in-Back-clause-followed g c =
    followed_back c.args.program.now.0 c.args.c c.args.at (g.R.Sets.position c.args.sets.now)
    (g.R.Sets.position c.insert-in-Back.new.self) c.in-Back.n
    (c.fetch.ensures.instruction ∙ ap (λ i. Some i) c.in-Back.is)
    (rw c.saturating_sub.ensures at c.insert-in-Back.ensures)

pub returns-in-End-clause-followed : goal.returns-in-End-clause-followed
returns-in-End-clause-followed g c =
    let below : c.args.c < 1114112 =
    elim (scalar_cases c.args.c c.ranges.c.0) [ inl low ↦ omega (arith, low) | inr high ↦ high.1 ] in
    followed_end c.args.program.now.0 c.args.c c.args.at (g.R.Sets.position c.args.sets.now)
    (g.R.Sets.position c.args.sets.now) c.in-End.field-0 c.in-End.field-1
    (c.fetch.ensures.instruction ∙ ap (λ i. Some i) c.in-End.is) below refl

pub returns-then-passes-clause-noted : goal.returns-then-passes-clause-noted
returns-then-passes-clause-noted g c = noted_unknown c.args.program.now.0 c.args.c c.args.at c.args.watch.now

pub returns-else-passes-clause-noted : goal.returns-else-passes-clause-noted
returns-else-passes-clause-noted g c =
    noted_miss c.args.program.now.0 c.args.c c.args.at c.args.watch.now c.miss.new.self c.in-Check.test
    (c.fetch.ensures.instruction ∙ ap (λ i. Some i) c.in-Check.is)
    (λ h. (let t : IsTrue c.passes.result = c.passes.ensures.1 h in absurd (search (rules, t))))
    c.miss.ensures

pub returns-then-passes-2-clause-noted : goal.returns-then-passes-2-clause-noted
returns-then-passes-2-clause-noted g c =
    noted_repeat c.args.program.now.0 c.args.c c.args.at c.args.watch.now c.repeat.new.self c.in-Repeat.test
    (c.fetch.ensures.instruction ∙ ap (λ i. Some i) c.in-Repeat.is) c.repeat.ensures

pub returns-else-passes-2-clause-noted : goal.returns-else-passes-2-clause-noted
returns-else-passes-2-clause-noted g c =
    noted_repeat c.args.program.now.0 c.args.c c.args.at c.args.watch.now c.repeat.new.self c.in-Repeat.test
    (c.fetch.ensures.instruction ∙ ap (λ i. Some i) c.in-Repeat.is) c.repeat.ensures

pub returns-then-c-eq47-clause-noted : goal.returns-then-c-eq47-clause-noted
returns-then-c-eq47-clause-noted g c =
    noted_components c.args.program.now.0 c.args.c c.args.at c.args.watch.now
    (c.fetch.ensures.instruction ∙ ap (λ i. Some i) c.in-Components.is)

pub returns-else-c-eq47-clause-noted : goal.returns-else-c-eq47-clause-noted
returns-else-c-eq47-clause-noted g c =
    noted_components c.args.program.now.0 c.args.c c.args.at c.args.watch.now
    (c.fetch.ensures.instruction ∙ ap (λ i. Some i) c.in-Components.is)

pub returns-in-Fork-clause-noted : goal.returns-in-Fork-clause-noted
returns-in-Fork-clause-noted g c =
    noted_fork c.args.program.now.0 c.args.c c.args.at c.args.watch.now c.in-Fork.n
    (c.fetch.ensures.instruction ∙ ap (λ i. Some i) c.in-Fork.is)

pub returns-in-Jump-clause-noted : goal.returns-in-Jump-clause-noted
returns-in-Jump-clause-noted g c =
    noted_jump c.args.program.now.0 c.args.c c.args.at c.args.watch.now c.in-Jump.n
    (c.fetch.ensures.instruction ∙ ap (λ i. Some i) c.in-Jump.is)

pub returns-in-Back-clause-noted : goal.returns-in-Back-clause-noted
returns-in-Back-clause-noted g c =
    noted_back c.args.program.now.0 c.args.c c.args.at c.args.watch.now c.in-Back.n
    (c.fetch.ensures.instruction ∙ ap (λ i. Some i) c.in-Back.is)
