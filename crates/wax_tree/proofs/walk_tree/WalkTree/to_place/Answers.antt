use Rattle.std.proofs.Common.{◌≡◌, ◌≤◌, ◌+◌, ◌-◌, ◌^◌, length, refl, arith, ap, inl, false}
use Rattle.std.specs.Prelude.{Some, None}
use Rattle.wax_tree.specs.{declared.steps.StartPoint.StartPoint, declared.steps.Steps.Steps, Begins.along}
use Rattle.wax_tree.specs.{Lacking.goes, declared.location.Location.Location, Prefix.from_last}
use Rattle.wax_tree.specs.Walking.{located}
use Rattle.wax_tree.proofs.Making.{ended_at, lacking_at, made_at, made_takes, from_last_length}
use Rattle.wax_tree.proofs.Reaching.{begins_passed, none_entered}
use Rattle.wax_tree.proofs.walk_tree.WalkTree.to_place.Goals as goal

pub returns-then-range-len-clause-begins : goal.returns-then-range-len-clause-begins
returns-then-range-len-clause-begins g c =
    let long : length (from_last c.args.names.items) ≡ length c.args.names.items =
    from_last_length c.args.names.items in
    ended_at g.D.Directory.law _ _ _ _ c.ended.ensures.ended
    (omega (arith, c.if-range-len.true, c.len.ensures, c.args.names.ok.0, long))

pub returns-in-Ok-clause-begins : goal.returns-in-Ok-clause-begins
returns-in-Ok-clause-begins g c =
    let law = g.D.Directory.law in
    let long : length (from_last c.args.names.items) ≡ length c.args.names.items =
    from_last_length c.args.names.items in
    let less : length c.args.names.items ≤ c.args.range.max =
    omega (arith, c.if-range-len.false, c.len.ensures, c.args.names.ok.0) in
    let fits : 0 + length c.args.names.items ≤ 2 ^ 64 - 1 =
    omega (arith, c.args.names.small, c.args.names.ok.0) in
    let at : Location = record { path = c.in-Ok.path; depth = 0 } in
    let here : located at ≡ record {
      path = c.args.start.now;
      root = c.args.root.now;
      candidate = c.args.candidate.now;
      depth = 0;
    } = ap (λ p. located (record { path = p; depth = 0 })) c.in-Ok.ensures in
    let place : StartPoint = record { at = at; names = c.args.names } in
    let made : Steps _ _ = record {
      alloc = c.args.alloc;
      directory = c.args.directory;
      min = c.args.range.min;
      max = c.args.range.max;
      first = Some place;
      entered = None;
      levels = c.new.result.levels;
      budget = c.args.range.budget;
      has_ended = false;
    } in
    rw c.new.ensures.fields (record {
      shown = λ s listed h told p d. goes refl (made_at law
          made
          place _ c.args.names.items s listed refl refl c.new.ensures.levels refl here refl h p fits told
          (g.met.D.Directory.none_open c.args.directory c.args.start.now s h));
      beyond = λ s listed h told d. absurd (omega (arith, d, less, long));
      takes = λ d t.
          let m = made_takes law made place _ d refl c.new.ensures.levels refl here t in
          along (omega (arith, less, long)) (omega (arith, fits, long)) m.0 m.1 m.2;
      above = λ d. absurd (omega (arith, d, less, long));
      idle = λ d. absurd (omega (arith, d, less, long));
      listings = refl;
      names = omega (arith, long);
      none_listed = ap length c.new.ensures.levels;
      begun = inl refl;
      none_to_open = refl;
      yields_from = refl;
      may_open = refl;
      fails = record {
        at = begins_passed made place c.args.start.now (from_last c.args.names.items) refl
            c.new.ensures.levels (ap (λ v. v.path) here) refl refl
            (omega (arith, long, c.args.names.small, c.args.names.ok.0));
        below = none_entered made refl;
      };
      directory = refl;
    })

pub returns-in-Err-clause-begins : goal.returns-in-Err-clause-begins
returns-in-Err-clause-begins g c =
    let long : length (from_last c.args.names.items) ≡ length c.args.names.items =
    from_last_length c.args.names.items in
    lacking_at g.D.Directory.law _ _ _ _ c.refused.ensures.lacks
    (omega (arith, c.if-range-len.false, c.len.ensures, c.args.names.ok.0, long))
