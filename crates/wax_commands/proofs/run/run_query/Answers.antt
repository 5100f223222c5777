use Rattle.std.proofs.Common.{◌≡◌, ◌∙◌, refl, rules, string_bytes, subst}
use Rattle.std.specs.Io.KnownBytes.{Appends}
use Rattle.wax_lines.specs.Written.{WritesPart}
use Rattle.wax_commands.specs.Queried.{done, stopped}
use Rattle.wax_commands.proofs.run.run_query.Goals as goal

pub returns-in-Ok-write_whole-clause-ends : goal.returns-in-Ok-write_whole-clause-ends
returns-in-Ok-write_whole-clause-ends g c =
    let held = g.W.Write.contents in
    let known = c.in-Ok.ensures in
    let value : c.as_bytes.result.now ≡ string_bytes c.in-Ok.lines = search rules in
    done c.in-Some.glob known.0 c.in-Some.ensures.some known.1
    (subst (Appends (held c.args.output.now.inner) (held c.write_whole.new.output.inner)) (value ∙ known.2)
    c.in-Ok-write_whole.ensures.ok) refl

pub returns-clause-ends : goal.returns-clause-ends
returns-clause-ends g c =
    let held = g.W.Write.contents in
    let known = c.in-Ok.ensures in
    let value : c.as_bytes.result.now ≡ string_bytes c.in-Ok.lines = search rules in
    stopped c.in-Some.glob known.0 c.in-Some.ensures.some known.1
    (subst (WritesPart (held c.args.output.now.inner) (held c.write_whole.new.output.inner)) (value ∙ known.2)
    c.in-Err.ensures.err.1) c.in-Err.ensures.failed refl
