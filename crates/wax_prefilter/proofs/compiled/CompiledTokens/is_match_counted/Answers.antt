use Rattle.std.proofs.Common.{arith}
use Rattle.wax_prefilter.proofs.Lengths.{chars_short}
use Rattle.wax_prefilter.proofs.compiled.CompiledTokens.is_match_counted.Goals as goal

pub returns-clause-below : goal.returns-clause-below
returns-clause-below c accepted =
    omega (
      arith,
      c.in_ok-answer.ensures.below accepted,
      chars_short c.args.text.now c.utf8.text,
      c.ticks.ensures,
      c.new-meter.ensures,
    )
