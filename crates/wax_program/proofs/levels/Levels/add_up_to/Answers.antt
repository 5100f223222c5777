use Rattle.std.proofs.Common.{◌+◌, ◌≤◌, arith, length, rules}
use Rattle.wax_program.proofs.Advancing.{spent_within}
use Rattle.wax_program.specs.Visits.{flags_visits}
use Rattle.wax_program.proofs.levels.Levels.add_up_to.Goals as goal

pub loop-alloc-preserved : goal.loop-alloc-preserved
loop-alloc-preserved c =
    let (added, held) = c.loop-alloc.invariant in (
      added + 1,
      record {
        levels = c.add.ensures.levels;
        counted = omega (arith, held.counted, c.in_ok-add.ensures.more);
        few = omega (
          arith,
          held.counted,
          let short : length c.loop-alloc.self.levels ≤ c.args.most = search rules in short,
        );
        above = omega (arith, held.above, c.add.ensures.above);
        steady = omega (arith, held.steady, c.add.ensures.steady);
      },
    )

pub returns-clause-above : goal.returns-clause-above
returns-clause-above c =
    let (added, held) = c.loop-alloc.invariant in
    spent_within (flags_visits c.args.program.now.0) added (c.args.most + 1) c.args.meter.now
    c.loop-alloc.meter held.few held.above
