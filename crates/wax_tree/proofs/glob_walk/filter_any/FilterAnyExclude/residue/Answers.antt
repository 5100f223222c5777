use Rattle.std.proofs.{Common.{◌+◌, ◌<◌, ◌∙◌, sym, ap, length, length-set, arith}, Math.Seq.map-set_same}
use Rattle.std.proofs.lemmas.List.{drop-set-lt}
use Rattle.std.specs.Prelude.{Some}
use Rattle.wax_walk.specs.{Candidates.in_characters, Said.mark_of}
use Rattle.wax_tree.specs.Programs.{any_mark}
use Rattle.wax_tree.proofs.Rules.{if_ok_of_err, said_nothing, said_alone, said_with_tree}
use Rattle.wax_tree.proofs.glob_walk.filter_any.FilterAnyExclude.residue.Goals.{in-None, in-Some-File}
use Rattle.wax_tree.proofs.glob_walk.filter_any.FilterAnyExclude.residue.Goals as goal

pub loop-at-preserved : goal.loop-at-preserved
loop-at-preserved g c =
    let candidate = in_characters c.args.candidate in
    let rules = c.loop-at.self.rules.items in
    let at = c.loop-at.at in
    let rule = c.index_mut.result.now in
    let within : at < length rules = omega (arith, c.loop-at-test.true, c.loop-at.invariant.many) in
    record {
      says =
          rw (drop-set-lt (at + 1) rules at c.residue.new.self (omega arith)) (elim c.match-branch-2.branch [
            | in-None w ↦ rw w.is_excluded-is
                (said_nothing g.R.Exclude.rule candidate rules at rule _ within c.index_mut.ensures.value
                c.loop-at.is_excluded c.loop-at.invariant.says
                (ap mark_of (sym w.in-None.is) ∙ c.in_ok-residue.ensures.says))
            | in-Some-File w ↦ rw w.is_excluded-is
                (said_alone g.R.Exclude.rule candidate rules at rule _ within c.index_mut.ensures.value
                c.loop-at.is_excluded c.loop-at.invariant.says
                (ap mark_of (sym (w.in-Some-File.is ∙ ap Some w.in-Some-File.field-0-is))
                ∙ c.in_ok-residue.ensures.says))
          ]);
      many = length-set rules at c.residue.new.self ∙ c.loop-at.invariant.many;
      same = map-set_same g.R.Exclude.rule rules at c.residue.new.self rule
          (c.residue.ensures.same ∙ ap g.R.Exclude.rule c.index_mut.ensures.value) ∙ c.loop-at.invariant.same;
    }

pub returns-in_err-residue : goal.returns-in_err-residue
returns-in_err-residue g c =
    let rules = c.loop-at.self.rules.items in
    record {
      says = if_ok_of_err _ _ c.from_residual.result c.from_residual.ensures.1;
      same = ap any_mark (map-set_same g.R.Exclude.rule rules c.loop-at.at c.residue.new.self
          c.index_mut.result.now (c.residue.ensures.same ∙ ap g.R.Exclude.rule c.index_mut.ensures.value)
          ∙ c.loop-at.invariant.same);
    }

pub returns-in-Some-Tree : goal.returns-in-Some-Tree
returns-in-Some-Tree g c =
    let rules = c.loop-at.self.rules.items in
    record {
      says = said_with_tree g.R.Exclude.rule (in_characters c.args.candidate) rules
          c.loop-at.at c.index_mut.result.now _ (omega (arith, c.loop-at-test.true, c.loop-at.invariant.many))
          c.index_mut.ensures.value
          c.loop-at.is_excluded c.loop-at.invariant.says (ap mark_of
          (sym (c.in-Some-Tree.is ∙ ap Some c.in-Some-Tree.field-0-is)) ∙ c.in_ok-residue.ensures.says);
      same = ap any_mark (map-set_same g.R.Exclude.rule rules c.loop-at.at c.residue.new.self
          c.index_mut.result.now (c.residue.ensures.same ∙ ap g.R.Exclude.rule c.index_mut.ensures.value)
          ∙ c.loop-at.invariant.same);
    }
