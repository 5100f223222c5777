use Rattle.std.proofs.Common.{rules, ◌≡◌, ◌++◌, chars, string_bytes, ◌∙◌, ap, None}
use Rattle.wax_parse.specs.inner.Parser.{literal_run, strip}
use Rattle.wax_parse.proofs.Runs.{run_borrowed, run_owned}
use Rattle.wax_parse.proofs.parse.literal.literal_text.Goals as goal

pub returns-then-is_none : goal.returns-then-is_none
returns-then-is_none c =
    let e : strip 92 (chars c.split_plain.result.1.now) ≡ None = search rules in
    run_borrowed (chars c.args.text.now) (chars c.split_plain.result.0.now) (chars c.split_plain.result.1.now)
    c.split_plain.ensures.whole c.split_plain.ensures.plain c.split_plain.ensures.stop e

pub returns : goal.returns
returns c =
    let e : string_bytes c.in_ok-unescaped.unescaped ≡ c.split_plain.result.0.now = search rules in
    run_owned (chars c.args.text.now) (chars c.split_plain.result.0.now) (chars c.split_plain.result.1.now)
    (chars (string_bytes c.push_run.new.literal)) (chars c.in_ok-rest.rest.now)
    c.split_plain.ensures.whole c.split_plain.ensures.plain (c.in_ok-rest.ensures.0
    ∙ ap (λ z. chars z ++ (literal_run (chars c.split_plain.result.1.now)).0) e) c.in_ok-rest.ensures.1
