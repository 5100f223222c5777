use Rattle.std.proofs.{Common.{◌∙◌, ap, map, subst}, lemmas.Result.IfOk-weaker}
use Rattle.wax_walk.specs.Candidates.{in_characters}
use Rattle.wax_exclude.proofs.ListingLines.{split_mark}
use Rattle.wax_exclude.specs.{Ignored.ignore_mark, inner.Numbers.KnowsLines, inner.Split.split_of}
use Rattle.wax_exclude.proofs.rules.IgnoreRuleExclude.residue.Goals as goal

pub returns : goal.returns
returns c =
    let lines = c.args.self.now in
    let knows = subst (λ ls. KnowsLines (map split_of ls) c.self.inside.numbered) c.self.view_is
    c.self.invariant in
    record {
      says = IfOk-weaker c.residue.result _ _
          (λ r said. said ∙ split_mark lines (in_characters c.args.candidate))
          (c.residue.ensures.says (map split_of lines) knows);
      same = ap (λ ls c. ignore_mark ls c) c.self.view_is;
    }
