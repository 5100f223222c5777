use Rattle.std.proofs.Common.{rules, ◌≡◌, ◌++◌, ◌∷◌, [], chars, ◌∙◌, ap, true}
use Rattle.wax_parse.proofs.Runs.{shift_one, plain_more}
use Rattle.wax_parse.specs.inner.Parser.{is_plain_text, is_plain_character}
use Rattle.wax_parse.proofs.parse.literal.split_plain.Goals as goal

pub loop-c-preserved : goal.loop-c-preserved
loop-c-preserved c =
    let e : is_plain_character c.in-Some.c ≡ true = search rules in (
      search rules,
      (
        c.loop-c.invariant.1.0 ++ c.in-Some.c ∷ [],
        plain_more c.loop-c.invariant.1.0 c.in-Some.c c.loop-c.invariant.1.1 e,
        shift_one (chars c.args.text.now) c.loop-c.invariant.1.0 (chars c.loop-c.rest.now)
            (chars c.in-Some.next.now) c.in-Some.c c.loop-c.invariant.1.2 c.in-Some.ensures,
      ),
    )

pub returns-clause-plain : goal.returns-clause-plain
returns-clause-plain c = ap is_plain_text (c.before-2.ensures c.loop-c.invariant.1.0 c.loop-c.invariant.1.2)
    ∙ c.loop-c.invariant.1.1
