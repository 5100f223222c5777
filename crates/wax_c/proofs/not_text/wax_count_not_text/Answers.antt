-- What is counted is the number that each filter counts.
use Rattle.wax.specs.{GlobView.IsMeant, Ignoring.IsUnignored, Matching.lines}
use Rattle.wax_c.proofs.NotText.{excluded}
use Rattle.wax_c.proofs.not_text.wax_count_not_text.Goals as goal

pub returns-clause-excluded : goal.returns-clause-excluded
returns-clause-excluded c =
    let whole = lines c.args.input.now in
    let are = c.count_not_text.ensures in record {
      by_globs = λ g out bad filters. excluded (IsMeant g) whole out bad _ filters are;
      by_lists = λ list out bad filters. excluded (IsUnignored list) whole out bad _ filters are;
    }
