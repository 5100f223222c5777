use Rattle.std.proofs.Common.{refl, ap, length, inr, false}
use Rattle.std.specs.Prelude.{None}
use Rattle.wax_tree.specs.{declared.steps.Steps.Steps, Lacking.goes}
use Rattle.wax_tree.proofs.{Making.{made_nothing, none_takes}, Reaching.{none_entered, none_reached}}
use Rattle.wax_tree.proofs.walk_tree.WalkTree.ended.Goals as goal

pub returns-clause-ended : goal.returns-clause-ended
returns-clause-ended g c =
    let law = g.D.Directory.law in
    let made : Steps _ _ = record {
      alloc = c.args.alloc;
      directory = c.args.directory;
      min = c.args.range.min;
      max = c.args.range.max;
      first = None;
      entered = None;
      levels = c.new.result.levels;
      budget = c.args.range.budget;
      has_ended = false;
    } in
    rw c.new.ensures.fields (record {
      comes = λ path s listed h told. goes refl (made_nothing law
          made
          listed refl refl c.new.ensures.levels told
          (g.met.D.Directory.none_open c.args.directory path s h));
      takes = λ d t. none_takes law made d refl refl c.new.ensures.levels refl t;
      ended = (refl, inr (refl, refl, c.new.ensures.levels));
      idle = inr (inr (refl, refl, c.new.ensures.levels));
      listings = refl;
      names = refl;
      none_listed = ap length c.new.ensures.levels;
      begun = refl;
      none_to_open = refl;
      yields_from = refl;
      may_open = refl;
      fails = record {
        at = none_reached made refl c.new.ensures.levels;
        below = none_entered made refl;
      };
      directory = refl;
    })
