use Rattle.std.proofs.{Common.{◌∙◌, subst}, lemmas.List.get_or_default}
use Rattle.wax_compare.specs.Cuts.{HasStandIn}
use Rattle.wax_compare.proofs.Merging.{merged_all, merged_more}
use Rattle.wax_compare.proofs.merged.merge.Goals as goal

pub loop-letter-preserved : goal.loop-letter-preserved
loop-letter-preserved c =
    let code = c.args.first.now.0 in
    let other = c.args.second.now.0 in
    let letters = c.args.letters.now in
    let told = c.in_ok-merge_letter.ensures in
    record {
      merged = merged_more code other letters c.loop-letter.letter-index c.loop-letter.kept.items
          c.merge_letter.new.kept.items told.kept c.loop-letter.invariant.merged
          (subst (HasStandIn code other c.merge_letter.new.kept.items)
          (c.letter-item.is ∙ get_or_default letters
          c.loop-letter.letter-index c.letter-item.result 0 c.loop-letter-test.true) told.stands);
      kept = told.letters;
    }

pub returns-clause-stands : goal.returns-clause-stands
returns-clause-stands c =
    merged_all c.args.first.now.0 c.args.second.now.0 c.args.letters.now c.loop-letter.letter-index
    c.loop-letter.kept.items c.loop-letter-test.false c.loop-letter.invariant.merged
