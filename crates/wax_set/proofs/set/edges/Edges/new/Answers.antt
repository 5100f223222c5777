use Rattle.std.proofs.Common.{false, subst, sym}
use Rattle.wax_prefilter.proofs.Members.{means_members}
use Rattle.wax_token.specs.Meaning.{MeansEach}
use Rattle.wax_set.proofs.set.edges.Edges.new.Goals as goal

pub returns : goal.returns
returns c = λ text m.
    let each = subst (λ ts. MeansEach ts false false text) (sym c.concatenation-tokens.ensures)
    ((means_members c.args.pattern.now false false text).1 m) in
    record {
      beginning = c.in_ok-beginning_of.ensures text each;
      ends = c.in_ok-ends_of.ensures text each;
    }
