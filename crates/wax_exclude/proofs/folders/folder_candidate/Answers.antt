use Rattle.wax_exclude.proofs.Covered.{depth_named}
use Rattle.wax_exclude.proofs.folders.folder_candidate.Goals as goal

pub returns-clause-named : goal.returns-clause-named
returns-clause-named c =
    depth_named c.from.result c.has_name.result _ c.args.path.now c.from.ensures c.has_name.ensures
    c.as_str-text.ensures
