use Rattle.std.proofs.{Common.{rules, ◌++◌, ◌∷◌, [], chars, string_bytes}, lemmas.Str.IsUtf8-string_bytes}
use Rattle.std.specs.Char.{IsScalar}
use Rattle.wax_parse.proofs.{Runs.run_more, Texts.chars_pushed}
use Rattle.wax_parse.proofs.parse.literal.push_run.Goals as goal

pub loop-c-preserved : goal.loop-c-preserved
loop-c-preserved c = (
  search rules,
  (
    c.loop-c.invariant.1.0 ++ c.in-Some.c ∷ [],
    (let s : IsScalar c.in-Some.c = search rules in chars_pushed (string_bytes c.push.new.self)
        (string_bytes c.loop-c.literal) (string_bytes c.args.literal.now) c.loop-c.invariant.1.0 c.in-Some.c
        (IsUtf8-string_bytes c.loop-c.literal) s c.in_ok-push.ensures.bytes c.loop-c.invariant.1.1),
    run_more (chars c.args.text.now) c.loop-c.invariant.1.0 (chars c.loop-c.rest.now)
        (chars c.in-Some.next.now) c.in-Some.c c.in-Some.ensures c.loop-c.invariant.1.2,
  ),
)
