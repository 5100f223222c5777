use Rattle.std.proofs.Common.{refl, ap, length, inl, false, true}
use Rattle.std.specs.Prelude.{None}
use Rattle.wax_tree.specs.{declared.steps.Steps.Steps, Lacking.lacks}
use Rattle.wax_tree.proofs.{Making.lacks_takes, Reaching.{none_entered, none_reached}}
use Rattle.wax_tree.proofs.walk_tree.WalkTree.refused.Goals as goal

pub returns-clause-lacks : goal.returns-clause-lacks
returns-clause-lacks g c =
    let law = g.D.Directory.law in
    let made : Steps _ _ = record {
      alloc = c.args.alloc;
      directory = c.args.directory;
      min = c.args.range.min;
      max = c.args.range.max;
      first = None;
      entered = None;
      levels = c.new.result.levels;
      budget = c.args.range.budget;
      has_ended = false;
    } in
    rw c.new.ensures.fields (record {
      comes = λ p told. lacks refl told;
      takes = λ d t. lacks_takes law (record { steps = made; lacks_memory = true }) d refl t;
      idle = inl refl;
      listings = refl;
      names = refl;
      none_listed = ap length c.new.ensures.levels;
      begun = refl;
      none_to_open = refl;
      yields_from = refl;
      may_open = refl;
      fails = record {
        at = none_reached made refl c.new.ensures.levels;
        below = none_entered made refl;
      };
      directory = refl;
    })
