use Rattle.wax_test_uses.proofs.NoneBelow.{none_below}
use Rattle.wax_test_uses.proofs.skipping.means_none_below.Goals as goal

pub returns : goal.returns
returns c = none_below c.args.glob.now c.args.folder.now c.in_ok-goes_on.goes_on c.in_ok-goes_on.ensures
