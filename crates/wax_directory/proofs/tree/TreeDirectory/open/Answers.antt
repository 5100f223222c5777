use Rattle.wax_directory.specs.TreeCursors.{opens_last}
use Rattle.wax_directory.proofs.tree.TreeDirectory.open.Goals as goal

pub returns-clause-opens : goal.returns-clause-opens
returns-clause-opens c = λ cursors ls s held shown.
    opens_last c.args.self.now.working c.args.self.now.root cursors ls held _ s shown.2 c.begin-answer.result
    c.begin-answer.ensures
