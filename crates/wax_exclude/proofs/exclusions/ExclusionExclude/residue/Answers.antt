use Rattle.std.proofs.Common.{◌≡◌, ◌∙◌, ◌∷◌, [], ap, false, refl, rules, sym, true≢false}
use Rattle.std.proofs.lemmas.Result.{IfOk-weaker}
use Rattle.wax_walk.specs.Candidates.{in_characters}
use Rattle.wax_exclude.proofs.Excluding.{only_line, rejected}
use Rattle.wax_exclude.specs.{Excluded.excluded_mark, inner.Split.split_of}
use Rattle.wax_exclude.proofs.exclusions.ExclusionExclude.residue.Goals as goal

pub residue-requires : goal.residue-requires
residue-requires c = c.self.invariant.lines.closed

pub returns-then-not-may_match_quickly : goal.returns-then-not-may_match_quickly
returns-then-not-may_match_quickly c =
    let candidate = in_characters c.args.candidate in
    let no : c.may_match_quickly.result ≡ false = search rules in
    record {
      says = rejected c.self.inside.line.glob c.self.inside.prefilter candidate c.self.invariant.passes
          (λ passes. true≢false (sym (c.may_match_quickly.ensures passes) ∙ no))
          ∙ ap (λ ts. excluded_mark ts candidate) c.self.view_is;
      same = refl;
    }

pub invariant_of-self : goal.invariant_of-self
invariant_of-self c = record {
  ignores = c.self.invariant.ignores;
  lines = c.residue.ensures.same (split_of c.self.inside.line ∷ []) c.self.invariant.lines;
  passes = c.self.invariant.passes;
}

pub returns : goal.returns
returns c =
    let line = c.self.inside.line in
    let candidate = in_characters c.args.candidate in
    record {
      says = IfOk-weaker c.residue.result _ _ (λ r said. said
          ∙ only_line line c.self.invariant.ignores candidate
          ∙ ap (λ ts. excluded_mark ts candidate) c.self.view_is)
          (c.residue.ensures.says (split_of line ∷ []) c.self.invariant.lines);
      same = ap (λ ts c. excluded_mark ts c) c.self.view_is;
    }
