use Rattle.std.proofs.Common.{◌≡◌, ◌≢◌, ◌⊎◌, ◌∙◌, List, ap, rules, subst}
use Rattle.std.specs.{Prelude.Err, Fn.FnReturnsAt}
use Rattle.wax_tree.specs.Depths.{behavior_at}
use Rattle.wax_command_line.specs.{Commands.{SayEach, WalkOption}, Wanted.WroteWanted}
use Rattle.wax_commands.proofs.Going.{ends_cut_short, ends_done, ends_faulty, ends_in_no_memory}
use Rattle.wax_commands.proofs.Going.{ends_no_filter, ends_stopped, environment, write_shown}
use Rattle.wax_commands.specs.{Streams.{SaysNoMemory, stream_of}, Walked.HasRefused}
use Rattle.wax_lines.specs.declared.lines.LinesError.TheVariants.{Memory}
use Rattle.wax_commands.proofs.walking.run_walk.Goals as goal

pub returns-in_default-built_filters-clause-ends : goal.returns-in_default-built_filters-clause-ends
returns-in_default-built_filters-clause-ends g c asked read =
    let told = g.F.Write.contents in
    let answers = FnReturnsAt g.B.Fn c.args.read.now in
    let over = environment g.D.Directory.law c.args.directory answers told in
    let faults' = stream_of told c.built_filters.new.faults in
    let same : c.built.new.faults ≡ c.args.faults.now = search rules in
    ends_no_filter over c.args.walk asked read c.in-Some.glob c.in-Some.ensures.some
    (stream_of g.W.Write.contents c.args.output.now) (stream_of told c.args.faults.now) faults'
    (subst (λ f. ((os : List WalkOption) → SayEach c.args.walk.options.now os → HasRefused answers os)
    ⊎ SaysNoMemory (stream_of told f) faults') same c.in_default-built_filters.ensures.none)

pub returns-in-Ok-true-clause-ends : goal.returns-in-Ok-true-clause-ends
returns-in-Ok-true-clause-ends g c asked read =
    let law = g.D.Directory.law in
    let contents = g.W.Write.contents in
    let over = environment law c.args.directory (FnReturnsAt g.B.Fn c.args.read.now) g.F.Write.contents in
    let output = stream_of contents c.args.output.now in
    let output' = stream_of contents c.write_wanted.new.output in
    let is : c.from-behavior.result ≡ behavior_at c.args.walk.depth = c.from-behavior.ensures in
    ends_faulty over c.args.walk asked read c.in-Some.glob c.in-Some.ensures.some _
    c.in-Some-built_filters.ensures.some c.from-behavior.result is _ c.in-Ok.ensures.begins output output' _ _
    (subst (WroteWanted law _ _ output.bytes output'.bytes) c.in-Ok-true.field-0-test
    c.in-Ok-true.ensures.done)

pub returns-in-Ok-false-clause-ends : goal.returns-in-Ok-false-clause-ends
returns-in-Ok-false-clause-ends g c asked read =
    let law = g.D.Directory.law in
    let contents = g.W.Write.contents in
    let over = environment law c.args.directory (FnReturnsAt g.B.Fn c.args.read.now) g.F.Write.contents in
    let output = stream_of contents c.args.output.now in
    let output' = stream_of contents c.write_wanted.new.output in
    let is : c.from-behavior.result ≡ behavior_at c.args.walk.depth = c.from-behavior.ensures in
    ends_done over c.args.walk asked read c.in-Some.glob c.in-Some.ensures.some _
    c.in-Some-built_filters.ensures.some c.from-behavior.result is _ c.in-Ok.ensures.begins output output' _ _
    (subst (WroteWanted law _ _ output.bytes output'.bytes) c.in-Ok-false.field-0-test
    c.in-Ok-false.ensures.done)

pub returns-in-Err-Memory-clause-ends : goal.returns-in-Err-Memory-clause-ends
returns-in-Err-Memory-clause-ends g c asked read =
    let law = g.D.Directory.law in
    let contents = g.W.Write.contents in
    let over = environment law c.args.directory (FnReturnsAt g.B.Fn c.args.read.now) g.F.Write.contents in
    let output = stream_of contents c.args.output.now in
    let output' = stream_of contents c.write_wanted.new.output in
    let is : c.from-behavior.result ≡ behavior_at c.args.walk.depth = c.from-behavior.ensures in
    ends_cut_short over c.args.walk asked read c.in-Some.glob c.in-Some.ensures.some _
    c.in-Some-built_filters.ensures.some c.from-behavior.result is _ c.in-Ok.ensures.begins output output' _ _
    _ c.in-Err-Memory.field-0-is c.in-Err-Memory.ensures.stopped
    (ends_in_no_memory g.F.Write.contents c.write_wanted.new.faults
    (stream_of g.F.Write.contents c.say_no_memory-in-Err-Memory.new.faults)
    c.say_no_memory-in-Err-Memory.ensures)

pub returns-clause-ends : goal.returns-clause-ends
returns-clause-ends g c asked read =
    let law = g.D.Directory.law in
    let contents = g.W.Write.contents in
    let over = environment law c.args.directory (FnReturnsAt g.B.Fn c.args.read.now) g.F.Write.contents in
    let output = stream_of contents c.args.output.now in
    let output' = stream_of contents c.write_wanted.new.output in
    let is : c.from-behavior.result ≡ behavior_at c.args.walk.depth = c.from-behavior.ensures in
    let other : c.in-Err.error ≢ Memory = search rules in
    ends_stopped over c.args.walk asked read c.in-Some.glob c.in-Some.ensures.some _
    c.in-Some-built_filters.ensures.some c.from-behavior.result is _ c.in-Ok.ensures.begins output output' _ _
    _ c.in-Err.ensures.stopped
    (write_shown c.in-Err.error other (λ e. c.write_wanted.ensures.unread (c.in-Err.is ∙ ap Err e))
    (λ e. c.write_wanted.ensures.write_failed (c.in-Err.is ∙ ap Err e)))
