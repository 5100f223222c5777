use Rattle.std.proofs.Common.{subst}
use Rattle.wax_program.specs.inner.Slashes.{LastNameAt}
use Rattle.wax_program.proofs.Slashes.{boundary_at, last_name_from}
use Rattle.wax_program.proofs.last.last_name.Goals as goal

pub range_from-requires : goal.range_from-requires
range_from-requires c =
    boundary_at c.args.text.now c.last_name_at.result c.utf8.text
    (subst (LastNameAt c.last_name_at.result) c.as_bytes.ensures.value c.last_name_at.ensures)

pub returns-clause-name : goal.returns-clause-name
returns-clause-name c =
    (last_name_from c.args.text.now c.range_from.result.now c.last_name_at.result c.utf8.text
    (subst (LastNameAt c.last_name_at.result) c.as_bytes.ensures.value c.last_name_at.ensures)
    c.range_from.ensures.value).0

pub returns-clause-cut : goal.returns-clause-cut
returns-clause-cut c =
    (last_name_from c.args.text.now c.range_from.result.now c.last_name_at.result c.utf8.text
    (subst (LastNameAt c.last_name_at.result) c.as_bytes.ensures.value c.last_name_at.ensures)
    c.range_from.ensures.value).1
