use Rattle.std.proofs.Common.{chars, refl, subst, sym}
use Rattle.wax_exclude.specs.Lines.{written_of}
use Rattle.wax_rule.specs.Expressions.{Spells}
use Rattle.wax_set.specs.Patterns.{IsOnly}
use Rattle.wax.specs.Ignoring.{IsReadAs}
use Rattle.wax.proofs.ignoring.read.Goals as goal

pub returns-in-Ok : goal.returns-in-Ok
returns-in-Ok c =
    let written = written_of c.args.written.now in
    subst (IsReadAs written) (sym c.in-Ok.ensures.line) (record {
      ignores = refl;
      glob = record {
        only = subst (IsOnly (Spells (chars written.expression))) (sym c.release.ensures.same)
            c.in_ok-checked.ensures;
        fits = c.in-Ok.ensures.fits;
      };
    })
