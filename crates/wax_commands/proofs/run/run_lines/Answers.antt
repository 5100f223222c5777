use Rattle.std.proofs.Common.{◌≡◌, ◌≢◌, ◌∙◌, ap, refl, rules, subst}
use Rattle.std.specs.Prelude.{Err}
use Rattle.wax_lines.specs.{declared.lines.LinesError.TheVariants.Memory, Lines.{Filtered, Stopped}}
use Rattle.wax_commands.specs.{LineCommands.{done, not_text, stopped}, inner.Outputs.writes_of}
use Rattle.wax_commands.specs.Streams.{SaysNoMemory, stream_of}
use Rattle.wax_commands.proofs.Ending.{shown_by_counts}
use Rattle.wax_commands.proofs.run.run_lines.Goals as goal

pub returns-in-Ok-eq0-clause-ends : goal.returns-in-Ok-eq0-clause-ends
returns-in-Ok-eq0-clause-ends g c =
    let left = g.R.Read.remaining c.args.input.now.inner in
    let left' = g.R.Read.remaining c.write_lines.new.input.inner in
    let held = g.W.Write.contents c.args.output.now.inner in
    let held' = g.W.Write.contents c.write_lines.new.output.inner in
    done c.in-Some.glob c.in-Some.ensures.some
    (subst (Filtered (writes_of c.args.lines c.in-Some.glob) left left' held held') c.in-Ok-eq0.field-0-test
    c.in-Ok-eq0.ensures.done) refl

pub returns-in-Ok-clause-ends : goal.returns-in-Ok-clause-ends
returns-in-Ok-clause-ends g c =
    not_text c.in-Some.glob c.in-Ok.count c.in-Some.ensures.some c.in-Ok.ensures.done
    c.in-Ok.count-test.1 refl

pub returns-clause-ends : goal.returns-clause-ends
returns-clause-ends g c =
    let other : c.in-Err.error ≢ Memory = search rules in
    stopped c.in-Some.glob c.in-Err.error c.in-Some.ensures.some c.in-Err.ensures.stopped
    (shown_by_counts c.in-Err.error _ _ _ _ other
    (λ e. c.write_lines.ensures.read_failed (c.in-Err.is ∙ ap Err e))
    (λ e. c.write_lines.ensures.write_failed (c.in-Err.is ∙ ap Err e))) refl

pub returns-in-Err-Memory-clause-ends : goal.returns-in-Err-Memory-clause-ends
returns-in-Err-Memory-clause-ends g c =
    let told = g.F.Write.contents in
    let same : c.built.new.faults ≡ c.args.faults.now = search rules in
    let left = g.R.Read.remaining in
    let held = g.W.Write.contents in
    stopped c.in-Some.glob Memory c.in-Some.ensures.some
    (subst (Stopped (writes_of c.args.lines c.in-Some.glob) (left c.args.input.now.inner)
    (left c.write_lines.new.input.inner) (held c.args.output.now.inner) (held c.write_lines.new.output.inner))
    c.in-Err-Memory.field-0-is c.in-Err-Memory.ensures.stopped)
    (subst (λ f. SaysNoMemory (stream_of told f) (stream_of told c.say_no_memory.new.faults)) same
    c.say_no_memory.ensures) refl
