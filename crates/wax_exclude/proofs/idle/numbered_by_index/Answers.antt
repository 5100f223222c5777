use Rattle.std.proofs.Common.{◌≡◌, ◌∙◌, ◌+◌, Some, ap, arith, refl, slice_get, subst, sym}
use Rattle.std.proofs.{lemmas.List.take_all, lemmas.Option.slice_get-get_or, lemmas.Result.IfOk-weaker}
use Rattle.wax_match.specs.Numbered.{numbered_length}
use Rattle.wax_exclude.specs.Length.{list_length}
use Rattle.wax_exclude.proofs.IdleLines.{AreOfFirst, all_numbered, both_ok, line_numbered}
use Rattle.wax_exclude.proofs.ListLengths.{line_added}
use Rattle.wax_exclude.proofs.idle.numbered_by_index.Goals as goal

pub loop-index-preserved : goal.loop-index-preserved
loop-index-preserved c =
    let lines = c.args.lines.now in
    let i = c.loop-index.index in
    let line = c.index-lines-index.result in
    let at : slice_get lines i ≡ Some line = slice_get-get_or lines i line c.loop-index-test.true
    ∙ ap Some (sym c.index-lines-index.is) in
    record {
      first = subst (λ ps. AreOfFirst lines ps (i + 1)) (sym c.in_ok-push.ensures.items) (line_numbered lines
          c.loop-index.patterns.items i line _ at refl c.glob.ensures c.loop-index.invariant.first);
      length = line_added lines c.loop-index.patterns.items c.push.new.self.items i line _
          c.loop-index-test.true c.index-lines-index.is c.in_ok-push.ensures.items c.glob.ensures
          c.loop-index.invariant.length;
    }

pub returns-clause-matches : goal.returns-clause-matches
returns-clause-matches c =
    both_ok c.compile_numbered.result c.compile_numbered.ensures.means c.compile_numbered.ensures.closed
    (λ p means closed. all_numbered c.args.lines.now c.loop-index.patterns.items p.0 c.loop-index.index
    c.loop-index-test.false c.loop-index.invariant.first closed
    (rw (← c.deref.ensures.value) means))

pub returns-clause-length : goal.returns-clause-length
returns-clause-length c =
    let whole = take_all c.loop-index.index c.args.lines.now c.loop-index-test.false in
    IfOk-weaker c.compile_numbered.result _ _ (λ p le. omega (
      arith,
      le,
      ap numbered_length c.deref.ensures.value,
      c.loop-index.invariant.length,
      ap list_length whole,
    )) c.compile_numbered.ensures.length
