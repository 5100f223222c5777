use Rattle.std.proofs.Common.{rules, chars}
use Rattle.wax_parse.specs.inner.Parser.{at}
use Rattle.wax_parse.proofs.Flags.{flags_start, flags_more, flags_stop, group_smaller}
use Rattle.wax_parse.proofs.parse.flags.read_flags.Goals as goal

pub loop-next-init : goal.loop-next-init
loop-next-init c =
    (search rules, flags_start (at c.args.from.is_case_insensitive (chars c.args.from.rest.now)))

pub loop-next-preserved : goal.loop-next-preserved
loop-next-preserved c = (
  search rules,
  flags_more (at c.args.from.is_case_insensitive (chars c.args.from.rest.now))
      (at c.loop-next.cursor.is_case_insensitive (chars c.loop-next.cursor.rest.now))
      (at c.in-Some.next.is_case_insensitive (chars c.in-Some.next.rest.now)) c.loop-next.invariant.1.0
      c.in-Some.ensures c.loop-next.invariant.1.1 c.loop-next.invariant.1.2,
)

pub loop-next-smaller : goal.loop-next-smaller
loop-next-smaller c = group_smaller (chars c.loop-next.cursor.rest.now) c.in-Some.next.is_case_insensitive
    (chars c.in-Some.next.rest.now) c.in-Some.ensures

pub returns : goal.returns
returns c = flags_stop (at c.args.from.is_case_insensitive (chars c.args.from.rest.now))
    (at c.loop-next.cursor.is_case_insensitive (chars c.loop-next.cursor.rest.now))
    c.loop-next.invariant.1.0 c.in_default.ensures c.loop-next.invariant.1.2
