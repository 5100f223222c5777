use Rattle.std.proofs.Common.{rules, lit<}
use Rattle.std.proofs.lemmas.Iterator.Consumers.{map_from_collect, YieldsList-from_filter, YieldsList-at}
use Rattle.std.proofs.lemmas.Iterator.Splits.{YieldsList-from_str_split}
use Rattle.wax_directory.specs.Names.{is_some_name}
use Rattle.wax_directory.proofs.PathNames.{some_name}
use Rattle.wax_directory.proofs.path.names_in.Goals as goal

pub returns : goal.returns
returns c =
    map_from_collect _ c.collect.ensures.ran
    (YieldsList-from_filter _ is_some_name
    (YieldsList-at c.filter.ensures.source
    (YieldsList-from_str_split 47 c.args.path.now (lit< tt) c.split.ensures.text c.split.ensures.has_more
    c.split.ensures.pattern))
    c.filter.ensures.closure
    (λ x b q k. search (rules, some_name)))
