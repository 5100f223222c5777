use Rattle.wax_token.specs.Meaning.{Means}
use Rattle.wax_capture.proofs.TokenWays.{both_ways, first_way, single_way}
use Rattle.wax_capture.proofs.ways.one_way.Goals as goal

pub returns-in-Ok-clause-ways : goal.returns-in-Ok-clause-ways
returns-in-Ok-clause-ways g c = λ k x.
    let t = c.args.token.now in
    let sides = c.args.sides in
    both_ways (single_way t c.requires k sides.before sides.after x)
    (first_way c.in-Ok.form (Means t sides.before sides.after) c.in-Ok.ensures.means k x)
