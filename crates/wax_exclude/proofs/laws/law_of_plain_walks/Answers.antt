use Rattle.wax_exclude.proofs.TreeRequests.{plain_comes, plain_goes, wants_unfiltered}
use Rattle.wax_exclude.proofs.laws.law_of_plain_walks.Goals as goal

pub returns-clause-comes : goal.returns-clause-comes
returns-clause-comes g c = λ d range start begins.
    plain_comes g.D.Directory.law d range start _ begins

pub returns-clause-goes : goal.returns-clause-goes
returns-clause-goes g c = plain_goes

pub returns-clause-wanted : goal.returns-clause-wanted
returns-clause-wanted g c = wants_unfiltered
